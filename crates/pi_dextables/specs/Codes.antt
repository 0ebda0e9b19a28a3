-- The bytes of code items.
use Rattle.std.specs.Prelude.{ℕ, ◌+◌, ◌*◌, ◌%◌, ◌==◌, List, [], ◌∷◌, ◌++◌, length, map, Option, Some, None, slice_index, if◌then◌else◌}
use Rattle.std.specs.List.{flat_map}
use Rattle.byteorder.specs.Endian.{little_bytes}
use Rattle.pi_format.specs.Rules.CodeItems.{Handler, HandlerList}
use Rattle.pi_parts.specs.Parts.{halves, words, zeros, offsets}
use Rattle.pi_parts.specs.Lebs.{uleb_bytes, sleb_bytes, negative_bytes}
use Rattle.pi_dextables.specs.declared.tables.Body.{Body}
use Rattle.pi_dextables.specs.declared.tables.Catch.{Catch}
use Rattle.pi_dextables.specs.declared.tables.Catches.{Catches}
use Rattle.pi_dextables.specs.declared.tables.Range.{Range}

-- a handler: the type that it catches, and the unit where it begins
abbrev pub catch_bytes : Catch → List ℕ
catch_bytes h = uleb_bytes h.ty ++ uleb_bytes h.to

-- how many handlers catch a type; without its sign, where one more catches the rest
abbrev pub size_bytes : ℕ → Option ℕ → List ℕ
size_bytes n None = sleb_bytes n
size_bytes n (Some to) = negative_bytes n

abbrev pub last_bytes : Option ℕ → List ℕ
last_bytes None = []
last_bytes (Some to) = uleb_bytes to

-- a list of handlers
unfoldable pub catches_bytes : Catches → List ℕ
catches_bytes l = size_bytes (length l.typed) l.last ++ (flat_map catch_bytes l.typed ++ last_bytes l.last)

-- the lists of a code: how many, and each of them
abbrev pub lists_bytes : List Catches → List ℕ
lists_bytes lists = uleb_bytes (length lists) ++ flat_map catches_bytes lists

-- where each list begins, counted from the place of their number
unfoldable pub list_places : List Catches → List ℕ
list_places lists = offsets catches_bytes (length (uleb_bytes (length lists))) lists

abbrev pub list_place : List Catches → ℕ → ℕ
list_place lists k = slice_index (list_places lists) k

-- a range of units, with the place of its list
unfoldable pub range_bytes : List ℕ → Range → List ℕ
range_bytes places r = little_bytes 4 r.from ++ (little_bytes 2 r.size ++ little_bytes 2 (slice_index places r.list))

-- what stands behind the units: where there are ranges, zeros up to a multiple of four, the ranges, and the lists
abbrev pub tries_bytes : Body → List ℕ
tries_bytes b =
    if length b.ranges == 0 then []
    else zeros (2 * (length b.units % 2)) ++ (flat_map (range_bytes (list_places b.lists)) b.ranges ++ lists_bytes b.lists)

-- a code item
unfoldable pub code_item : Body → List ℕ
code_item b =
    halves (b.registers ∷ b.ins ∷ b.outs ∷ length b.ranges ∷ [])
    ++ (words (0 ∷ length b.units ∷ []) ++ (halves b.units ++ tries_bytes b))

-- a handler, and the lists of a code, as the format reads them from an offset on
abbrev pub read_handler : Catch → Handler
read_handler h = record { ty = h.ty; to = h.to }

abbrev pub read_lists : ℕ → List Catches → List HandlerList
read_lists at [] = []
read_lists at (l ∷ lists) =
    record { at = at; typed = map read_handler l.typed; last = l.last } ∷ read_lists (at + length (catches_bytes l)) lists
