-- Rows and values that are judged as they are read.
use Rattle.std.specs.Prelude.{◌≡◌, ℕ, ◌&&◌, List, [], ◌∷◌, Option, Some, None, Result, Ok, Err, Bool, true, if◌then◌else◌}
use Rattle.pi_bytes.specs.Place.{Place}
use Rattle.pi_classdata.specs.declared.fault.RowsFault.{RowsFault}
use Rattle.pi_classdata.specs.declared.fault.RowsFault.TheVariants.{OutOfMemory, Broken}
use Rattle.pi_insn.specs.Chain.{◌>>=◌}
use Rattle.pi_format.specs.declared.lists.MemberList.{MemberList}
use Rattle.pi_format.specs.Rules.Rows.{MemberRow, is_behind, member_row}
use Rattle.pi_format.specs.Rules.ClassData.{Owner, row_holds}
use Rattle.pi_format.specs.Rules.Values.{EncodedValue, encoded_value, value_fits, field_type}

-- a call answers what was to be read, with the new place behind it, or nothing where there is nothing
abbrev pub Reads : {A : Type 0} → Option (A × Place) → Place → Option A → Type 0
Reads read new (Some x) = read ≡ Some (x, new)
Reads read new None = read ≡ None

-- the same of a call that may have no memory, and then says nothing
abbrev pub ReadsRows : {A : Type 0} → Option (A × Place) → Place → Result A RowsFault → Type 0
ReadsRows read new (Ok x) = read ≡ Some (x, new)
ReadsRows read new (Err Broken) = read ≡ None
ReadsRows read new (Err OutOfMemory) = Unit {0}

-- and where the place behind does not matter
abbrev pub AreRows : {A : Type 0} → Option A → Result A RowsFault → Type 0
AreRows rows (Ok x) = rows ≡ Some x
AreRows rows (Err Broken) = rows ≡ None
AreRows rows (Err OutOfMemory) = Unit {0}

-- the next row, if it is behind the one before it and holds
unfoldable pub held_row : List ℕ → Owner → MemberList → Option ℕ → Place → Option (MemberRow × Place)
held_row file o list before p = do
  row ← member_row list before p
  if is_behind before row.0.id && row_holds file o list row.0 then Some row else None

-- the ids of rows rise
abbrev pub rise : Option ℕ → List MemberRow → Bool
rise before [] = true
rise before (row ∷ rows) = is_behind before row.id && rise (Some row.id) rows

-- the next value, if it fits a field
unfoldable pub held_value : List ℕ → MemberRow → Place → Option (EncodedValue × Place)
held_value file field p = do
  value ← encoded_value p
  if value_fits file (field_type file field.id) value.0 then Some value else None
