-- The test whether a code is laid out as the writer lays it out, from the first instruction behind those in front on: instructions
-- behind are the nops before the payloads of those in front.
use Rattle.std.specs.Prelude.{◌≡◌, ◌≤◌, ℕ, ◌%◌, ◌^◌, ◌==◌, ◌&&◌, nat_le, List, [], ◌∷◌, length, drop, map, Option, Some, None, is_some, Bool, true, false, if◌then◌else◌}
use Rattle.std.specs.List.{list_all}
use Rattle.pi_model.specs.declared.insn.Insn.{Insn}
use Rattle.pi_model.specs.declared.insn.Insn.TheVariants.{Nop}
use Rattle.pi_insn.specs.Chain.{◌>>=◌}
use Rattle.pi_contents.specs.Contents.{LineContent, CodeContent, CatchContent}
use Rattle.pi_classtables.specs.Numbers.{no_pools}
use Rattle.pi_classtables.specs.Layout.{data_of, next_data, data_fits, line_units, front}
use Rattle.pi_classtables.specs.Ranges.{groups_of}
use Rattle.pi_classtables.specs.Sized.{is_nothing}
use Rattle.pi_classtables.specs.Spelled.{catch_spelled, front_end, field_spelled}
use Rattle.pi_classtables.specs.Whole.{Added, Method, added_methods}
use Rattle.pi_model.specs.declared.describe.Line.{Line}
use Rattle.pi_contents.specs.Named.{line_content}
use Rattle.pi_dexdata.specs.Numbers.{no_text}

abbrev pub is_nop : Insn → Bool
is_nop Nop = true
is_nop _ = false

-- an instruction is the nop at an address
abbrev pub is_pad : ℕ → LineContent → Bool
is_pad at l = (l.at == at) && ((l.units == 1) && (is_nop l.insn && is_nothing l.naming))

-- the instructions behind the nop that has to stand before a payload at an address, nothing where it does not
abbrev pub behind_nop : ℕ → List LineContent → Option (List LineContent)
behind_nop at [] = None
behind_nop at (r ∷ rs) = if is_pad at r then Some rs else None

abbrev pub behind_pad : ℕ → List ℕ → List LineContent → Option (List LineContent)
behind_pad at [] rest = Some rest
behind_pad at (u ∷ us) rest = if at % 2 == 0 then Some rest else behind_nop at rest

-- an instruction has a form, and a payload that can be laid and ends where distances reach
abbrev pub line_laid : List ℕ → ℕ → LineContent → Bool
line_laid listed at l =
    data_fits l.insn && (is_some (line_units no_pools listed at l) && nat_le (next_data at (data_of listed l)) (2 ^ 31))

abbrev pub behind_line : List ℕ → ℕ → LineContent → List LineContent → Option (List LineContent)
behind_line listed at l rest = if line_laid listed at l then behind_pad at (data_of listed l) rest else None

-- the address behind the payloads of instructions, nothing where one of them is not laid so
abbrev pub behind_lines : List ℕ → ℕ → List LineContent → List LineContent → Option ℕ
behind_lines listed at [] [] = Some at
behind_lines listed at [] (r ∷ rs) = None
behind_lines listed at (l ∷ ls) rest = behind_line listed at l rest >>= behind_lines listed (next_data at (data_of listed l)) ls

-- the instructions behind those in front
abbrev pub behind_front : CodeContent → List LineContent
behind_front c = drop (length (front 0 c.lines)) c.lines

abbrev pub ends_at : ℕ → Option ℕ → Bool
ends_at units None = false
ends_at units (Some end) = end == units

-- an entry catches a type in the range of the one behind it
abbrev pub joins : CatchContent → CatchContent → Bool
joins c d = is_some c.ty && ((d.from == c.from) && (d.to == c.to))

-- how many ranges entries are
abbrev pub joins_first : CatchContent → List CatchContent → Bool
joins_first c [] = false
joins_first c (d ∷ ds) = joins c d

abbrev pub are_caught : List CatchContent → Bool
are_caught catches = list_all catch_spelled catches && nat_le (length (groups_of no_pools catches)) 65535

abbrev pub are_laid : List ℕ → CodeContent → Bool
are_laid listed c =
    (nat_le (front_end c) (2 ^ 31) && nat_le c.units (2 ^ 31))
    && ends_at c.units (behind_lines listed (front_end c) (front 0 c.lines) (behind_front c))

abbrev pub is_laid : List ℕ → CodeContent → Bool
is_laid listed c = are_laid listed c && are_caught c.catches

abbrev pub optional_laid : List ℕ → Option CodeContent → Bool
optional_laid listed None = true
optional_laid listed (Some c) = is_laid listed c

abbrev pub method_laid : Method → Bool
method_laid m = optional_laid m.sparse m.content.code

-- a class
abbrev pub class_spelled : Added → Bool
class_spelled e = list_all field_spelled e.class.fields && list_all method_laid (added_methods e)

-- instructions by contents, without what they name
abbrev pub contents : List Line → List LineContent
contents ls = map (line_content no_text) ls

-- behind an instruction the test goes on at an address with these
pub record IsBehind (listed : List ℕ) (at : ℕ) (l : LineContent) (rest : List LineContent) (to : ℕ) (left : List LineContent) : Type 0 where
  pub behind : behind_line listed at l rest ≡ Some left
  pub next : to ≡ next_data at (data_of listed l)
  pub near : to ≤ 2 ^ 31

-- the first of lists of addresses, none where there is none, and the lists behind it
abbrev pub first_list : List (List ℕ) → List ℕ
first_list [] = []
first_list (s ∷ ss) = s

abbrev pub lists_behind : List (List ℕ) → List (List ℕ)
lists_behind [] = []
lists_behind (s ∷ ss) = ss
