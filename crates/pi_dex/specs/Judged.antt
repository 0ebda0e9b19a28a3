-- What is judged of the methods of a file, one by one.
use Rattle.std.specs.Prelude.{◌≡◌, ◌≢◌, ◌⊎◌, ◌<◌, ◌^◌, ℕ, List, Option, None, true, is_some, slice_index}
use Rattle.std.specs.List.{All}
use Rattle.pi_format.specs.Tables.{count_at, string_ids, type_ids, field_ids, method_ids}
use Rattle.pi_format.specs.Rules.Header.{unless}
use Rattle.pi_format.specs.Rules.Lowest.{lower}
use Rattle.pi_format.specs.Rules.Rows.{MemberRow}
use Rattle.pi_format.specs.Rules.ClassData.{ClassRows}
use Rattle.pi_format.specs.Rules.CodeItems.{of_code, code_lies, code_lists, code_holds, argument_words}
use Rattle.pi_format.specs.Rules.Pieces.{unit_of, code_walk, first_insn, index_holds, points_well}
use Rattle.pi_format.specs.Rules.Values.{EncodedValue, value_bytes}
use Rattle.pi_dex.specs.declared.walk_rules.Faults.{Faults}

-- the place of a method's code item, where it does not hold
abbrev pub code_place : List ℕ → MemberRow → Option ℕ
code_place file row = of_code (λ r. unless (code_holds file (argument_words file r) r.code) r.code) row

-- a method has no code, or its code item is in the file
abbrev pub CodeLies : List ℕ → MemberRow → Type 0
CodeLies file row = row.code ≢ 0 → code_lies file row.code ≡ true

-- where the rules on units are broken in a code item
abbrev pub walk_place : List ℕ → ℕ → Option ℕ
walk_place file at = unit_of at (code_walk file at).stop

abbrev pub index_place : List ℕ → ℕ → Option ℕ
index_place file at = unit_of at (first_insn (λ a i. index_holds file i.body) (code_walk file at).pieces)

abbrev pub payload_place : List ℕ → ℕ → Option ℕ
payload_place file at = unit_of at (first_insn (points_well (code_walk file at).pieces) (code_walk file at).pieces)

-- the faults of a code item
abbrev pub code_faults : List ℕ → ℕ → Faults
code_faults file at = record { walk = walk_place file at; index = index_place file at; payload = payload_place file at }

abbrev pub no_faults : Faults
no_faults = record { walk = None; index = None; payload = None }

abbrev pub both_faults : Faults → Faults → Faults
both_faults f g = record { walk = lower f.walk g.walk; index = lower f.index g.index; payload = lower f.payload g.payload }

-- a code item says a code: it is in the file, its lists of handlers hold, and its indices are in range
pub record SaysCode (file : List ℕ) (at : ℕ) : Type 0 where
  pub lies : code_lies file at ≡ true
  pub lists : is_some (code_lists file at) ≡ true
  pub indices : first_insn (λ a i. index_holds file i.body) (code_walk file at).pieces ≡ None

-- a method of the file, and it has no code or its code item says one
pub record SaysMethod (file : List ℕ) (row : MemberRow) : Type 0 where
  pub there : row.id < count_at file method_ids
  pub small : row.code < 2 ^ 32
  pub code : row.code ≢ 0 → SaysCode file row.code

abbrev pub IsField : List ℕ → MemberRow → Type 0
IsField file row = row.id < count_at file field_ids

abbrev pub IsMethod : List ℕ → MemberRow → Type 0
IsMethod file row = row.id < count_at file method_ids

-- the fields and methods of rows are there
pub record AreThere (file : List ℕ) (rows : ClassRows) : Type 0 where
  pub statics : All (IsField file) rows.statics
  pub instances : All (IsField file) rows.instances
  pub directs : All (IsMethod file) rows.directs
  pub virtuals : All (IsMethod file) rows.virtuals

-- bytes are numbers below 256
abbrev pub AreBytes : List ℕ → Type 0
AreBytes bytes = (k : ℕ) → slice_index bytes k < 256

-- a value's number has as many bytes as its kind and argument say, and what it names is there
pub record IsInit (file : List ℕ) (v : EncodedValue) : Type 0 where
  pub number : v.number < 256 ^ value_bytes v.kind v.arg
  pub few : (v.kind ≡ 0) ⊎ ((v.kind ≡ 2) ⊎ ((v.kind ≡ 3) ⊎ (v.kind ≡ 4))) → v.arg < 4
  pub long : v.kind ≡ 6 → v.arg < 8
  pub string : v.kind ≡ 0x17 → v.number < count_at file string_ids
  pub string_few : v.kind ≡ 0x17 → v.arg < 4
  pub type : v.kind ≡ 0x18 → v.number < count_at file type_ids
  pub type_few : v.kind ≡ 0x18 → v.arg < 4
