-- What the tables of strings and types must hold, rules X11 to X13.
use Rattle.std.specs.Prelude.{ℕ, ◌+◌, ◌-◌, ◌==◌, ◌&&◌, ◌||◌, nat_lt, List, [], take, drop, Option, Some, None, Result, Ok, Err, Bool, is_some}
use Rattle.std.specs.Ordering.{is_lt, nat_cmp}
use Rattle.std.specs.Cmp.Lexicographic.{slice_cmp}
use Rattle.pi_bytes.specs.declared.fault.ReadFault.{ReadFault}
use Rattle.pi_bytes.specs.Leb.{uleb_by}
use Rattle.pi_bytes.specs.Mutf8.{units_at}
use Rattle.pi_bytes.specs.Numbers.{word_at}
use Rattle.pi_format.specs.Tables.{count_at, string_ids, type_ids}
use Rattle.pi_format.specs.Rules.Entries.{entry_at, broken_entry}
use Rattle.pi_format.specs.Rules.Descriptors.{is_descriptor}

-- a text of a file: its units, the offset of its first byte, and how many bytes it has before the 0
pub record FileText : Type 0 where
  pub units : List ℕ
  pub begin : ℕ
  pub size : ℕ

abbrev pub with_units : ℕ → Result (List ℕ × ℕ) ℕ → Option FileText
with_units begin (Err at) = None
with_units begin (Ok x) = Some (record { units = x.0; begin = begin; size = x.1 })

abbrev pub with_count : List ℕ → ℕ → Result (ℕ × ℕ) ReadFault → Option FileText
with_count file at (Err fault) = None
with_count file at (Ok x) = with_units (at + x.1) (units_at x.0 (drop (at + x.1) file))

-- the text at an offset: how many units it has as a uleb128 number, then these in MUTF-8, then a 0
abbrev pub read_text : List ℕ → ℕ → Option FileText
read_text file at = with_count file at (uleb_by 4 (drop at file))

-- the text of a string id, where there is one
unfoldable pub string_text : List ℕ → ℕ → Option FileText
string_text file i = read_text file (word_at file (entry_at file string_ids 4 i))

abbrev pub units_in : Option FileText → List ℕ
units_in None = []
units_in (Some t) = t.units

abbrev pub string_units : List ℕ → ℕ → List ℕ
string_units file i = units_in (string_text file i)

abbrev pub bytes_in : List ℕ → Option FileText → List ℕ
bytes_in file None = []
bytes_in file (Some t) = take t.size (drop t.begin file)

-- the bytes of a string before its 0
abbrev pub string_bytes : List ℕ → ℕ → List ℕ
string_bytes file i = bytes_in file (string_text file i)

-- X11: each string id has a text
abbrev pub broken_strings : List ℕ → Option ℕ
broken_strings file = broken_entry file string_ids 4 (λ i. is_some (string_text file i))

-- X12: strings rise by their units; the place is that of the later one
abbrev pub string_rises : List ℕ → ℕ → Bool
string_rises file i = (i == 0) || is_lt (slice_cmp nat_cmp (string_units file (i - 1)) (string_units file i))

abbrev pub broken_string_order : List ℕ → Option ℕ
broken_string_order file = broken_entry file string_ids 4 (string_rises file)

-- the string of a type id, and the units of its descriptor
abbrev pub type_string : List ℕ → ℕ → ℕ
type_string file i = word_at file (entry_at file type_ids 4 i)

abbrev pub type_units : List ℕ → ℕ → List ℕ
type_units file i = string_units file (type_string file i)

-- X13: types name strings that there are, rise, and are descriptors
abbrev pub type_holds : List ℕ → ℕ → Bool
type_holds file i =
    nat_lt (type_string file i) (count_at file string_ids)
    && (((i == 0) || nat_lt (type_string file (i - 1)) (type_string file i)) && is_descriptor (type_units file i))

abbrev pub broken_types : List ℕ → Option ℕ
broken_types file = broken_entry file type_ids 4 (type_holds file)
