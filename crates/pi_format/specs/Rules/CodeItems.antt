-- What the code of a method must hold, rule X20. Its place is the offset of the code item.
use Rattle.std.specs.Prelude.{ℕ, zero, suc, ◌+◌, ◌-◌, ◌*◌, ◌%◌, ◌==◌, ◌&&◌, ◌||◌, nat_lt, nat_le, nat_abs, ℤ, pos, negsuc, List, [], ◌∷◌, sum_by, Option, Some, None, Bool, true, false, is_some, if◌then◌else◌}
use Rattle.std.specs.List.{list_any}
use Rattle.pi_bytes.specs.Place.{Place}
use Rattle.pi_bytes.specs.Leb.{uleb_at, sleb_at}
use Rattle.pi_bytes.specs.Numbers.{half_at, word_at, in_file}
use Rattle.pi_insn.specs.Chain.{◌>>=◌}
use Rattle.pi_format.specs.Tables.{count_at, type_ids, class_defs}
use Rattle.pi_format.specs.Rules.Entries.{each_from, list_at}
use Rattle.pi_format.specs.Rules.Header.{unless}
use Rattle.pi_format.specs.Rules.Descriptors.{words_of_type}
use Rattle.pi_format.specs.Rules.Strings.{type_units}
use Rattle.pi_format.specs.Rules.Members.{proto_entry}
use Rattle.pi_model.specs.Flags.{is_static}
use Rattle.pi_format.specs.Rules.Lowest.{lowest_from, lowest_of}
use Rattle.pi_format.specs.Rules.Rows.{MemberRow, readable}
use Rattle.pi_format.specs.Rules.ClassData.{method_proto, rows_of, methods_in}

-- the head of a code item: how many registers, argument words and words passed on, how many ranges with handlers, and
-- how many units
pub record CodeHead : Type 0 where
  pub registers : ℕ
  pub ins : ℕ
  pub outs : ℕ
  pub tries : ℕ
  pub units : ℕ

abbrev pub code_head : List ℕ → ℕ → CodeHead
code_head file at = record {
  registers = half_at file at;
  ins = half_at file (at + 2);
  outs = half_at file (at + 4);
  tries = half_at file (at + 6);
  units = word_at file (at + 12);
}

-- the head and the units are in the file
unfoldable pub code_lies : List ℕ → ℕ → Bool
code_lies file at = (at % 4 == 0) && (in_file file at 16 && in_file file (at + 16) (2 * word_at file (at + 12)))

-- where the ranges begin: behind the units, at a multiple of four
abbrev pub tries_at : ℕ → CodeHead → ℕ
tries_at at head = at + 16 + 2 * (head.units + head.units % 2)

-- where the lists of handlers begin
abbrev pub lists_at : ℕ → CodeHead → ℕ
lists_at at head = tries_at at head + 8 * head.tries

-- a range of units with handlers: its first unit, how many it has, and where its list stands behind the beginning of the lists
pub record TryRange : Type 0 where
  pub from : ℕ
  pub size : ℕ
  pub handlers : ℕ

abbrev pub try_range : List ℕ → ℕ → ℕ → TryRange
try_range file begin k = record {
  from = word_at file (begin + 8 * k);
  size = half_at file (begin + 8 * k + 4);
  handlers = half_at file (begin + 8 * k + 6);
}

-- a range ends in the code, and begins no earlier than the one before it ends
abbrev pub range_holds : List ℕ → ℕ → ℕ → ℕ → Bool
range_holds file begin units k =
    nat_le ((try_range file begin k).from + (try_range file begin k).size) units
    && ((k == 0) || nat_le ((try_range file begin (k - 1)).from + (try_range file begin (k - 1)).size) (try_range file begin k).from)

-- a handler: the type that it catches, and the unit where it begins
pub record Handler : Type 0 where
  pub ty : ℕ
  pub to : ℕ

unfoldable pub handler_at : Place → Option (Handler × Place)
handler_at p = do
  ty ← readable (uleb_at p)
  to ← readable (uleb_at ty.1)
  Some (record { ty = ty.0; to = to.0 }, to.1)

-- there is such a type, and such a unit
abbrev pub handler_holds : List ℕ → ℕ → Handler → Bool
handler_holds file units h = nat_lt h.ty (count_at file type_ids) && nat_lt h.to units

-- n handlers one behind the other, each of which holds
abbrev pub handlers_from : List ℕ → ℕ → ℕ → Place → Option (List Handler × Place)
handlers_from file units zero p = Some ([], p)
handlers_from file units (suc n) p = do
  first ← handler_at p
  if handler_holds file units first.0 then (do
    others ← handlers_from file units n first.1
    Some (first.0 ∷ others.0, others.1))
      else None

-- the handler of all that no other catches, where the list has one
abbrev pub last_handler : List ℕ → ℕ → Bool → Place → Option (Option ℕ × Place)
last_handler file units false p = Some (None, p)
last_handler file units true p = do
  to ← readable (uleb_at p)
  if nat_lt to.0 units then Some (Some to.0, to.1) else None

-- A list has as many typed handlers as its size says without its sign. One whose size is not above 0 has a last one behind
-- them.
abbrev pub has_last : ℤ → Bool
has_last (pos n) = n == 0
has_last (negsuc n) = true

-- a list of handlers: where it stands, the typed handlers, and the last one
pub record HandlerList : Type 0 where
  pub at : ℕ
  pub typed : List Handler
  pub last : Option ℕ

unfoldable pub handler_list : List ℕ → ℕ → Place → Option (HandlerList × Place)
handler_list file units p = do
  size ← readable (sleb_at p)
  typed ← handlers_from file units (nat_abs size.0) size.1
  last ← last_handler file units (has_last size.0) typed.1
  Some (record { at = p.at; typed = typed.0; last = last.0 }, last.1)

-- n lists one behind the other
abbrev pub lists_from : List ℕ → ℕ → ℕ → Place → Option (List HandlerList)
lists_from file units zero p = Some []
lists_from file units (suc n) p = do
  first ← handler_list file units p
  others ← lists_from file units n first.1
  Some (first.0 ∷ others)

-- the lists at an offset: their number, then the lists
unfoldable pub handler_lists : List ℕ → ℕ → ℕ → Option (List HandlerList)
handler_lists file units begin = do
  count ← readable (uleb_at (record { bytes = file; at = begin }))
  lists_from file units count.0 count.1

-- one of the lists stands there
abbrev pub is_list_at : List HandlerList → ℕ → Bool
is_list_at lists place = list_any (λ (l : HandlerList). l.at == place) lists

-- each range has one of the lists
abbrev pub ranges_have_lists : List ℕ → ℕ → CodeHead → List HandlerList → Bool
ranges_have_lists file at head lists =
    each_from (λ k. is_list_at lists (lists_at at head + (try_range file (tries_at at head) k).handlers)) 0 head.tries

-- the ranges are in the file and hold
abbrev pub ranges_hold : List ℕ → ℕ → CodeHead → Bool
ranges_hold file at head =
    in_file file (tries_at at head) (8 * head.tries) && each_from (range_holds file (tries_at at head) head.units) 0 head.tries

-- the handler lists of a code item, none where it has no ranges; nothing where they or the ranges do not hold
unfoldable pub code_lists : List ℕ → ℕ → Option (List HandlerList)
code_lists file at =
    if (code_head file at).tries == 0 then Some [] else
    if ranges_hold file at (code_head file at) then (do
      lists ← handler_lists file (code_head file at).units (lists_at at (code_head file at))
      if ranges_have_lists file at (code_head file at) lists then Some lists else None)
    else None

-- the argument words of a method, with one for the receiver where it is not static
abbrev pub argument_words : List ℕ → MemberRow → ℕ
argument_words file row =
    (if is_static row.flags then 0 else 1)
    + sum_by (λ t. words_of_type (type_units file t)) (list_at file (proto_entry file (method_proto file row.id)).params)

-- a code item holds for a method with that many argument words
unfoldable pub code_holds : List ℕ → ℕ → ℕ → Bool
code_holds file words at =
    code_lies file at && (((code_head file at).ins == words) && (nat_le words (code_head file at).registers
    && (nat_lt 0 (code_head file at).units && is_some (code_lists file at))))

-- the lowest place that one of the methods with code of the file gives
abbrev pub of_code : (MemberRow → Option ℕ) → MemberRow → Option ℕ
of_code place row = if row.code == 0 then None else place row

abbrev pub lowest_in_code : List ℕ → (MemberRow → Option ℕ) → Option ℕ
lowest_in_code file place =
    lowest_from (λ i. lowest_of (of_code place) (methods_in (rows_of file i))) 0 (count_at file class_defs)

-- X20: the code item of each method that has code holds
abbrev pub broken_code : List ℕ → Option ℕ
broken_code file = lowest_in_code file (λ row. unless (code_holds file (argument_words file row) row.code) row.code)
