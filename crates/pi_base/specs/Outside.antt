-- The words of the contracts of stores and sinks: counts that rise, contents that stand, and bytes that were taken.
use Rattle.std.specs.Prelude.{◌≡◌, ◌≢◌, ℕ, ◌+◌, ◌-◌, ◌^◌, ◌<◌, ◌≤◌, min, Bool, true, false, IsTrue, List, ◌++◌, length, take, Option, Some, None, option_map, IsSomeAnd, Result, Ok, Err, Vec, ◌⊎◌}
use Rattle.pi_base.specs.Views.{Contents, StoreView, SinkView}
use Rattle.pi_base.specs.declared.outside.StoreError.{StoreError}
use Rattle.pi_base.specs.declared.outside.StoreError.TheVariants.{OutOfMemory, Missing, TooLarge, Failed}

-- a count is greater than before, or stands at the last value of a u64 counter
abbrev pub Rose : ℕ → ℕ → Type 0
Rose before now = min (before + 1) (2 ^ 64 - 1) ≤ now

-- a count over one call: it rose where the call had its cause, and else it stands
abbrev pub Counts : Bool → ℕ → ℕ → Type 0
Counts true before now = (before ≤ now) × Rose before now
Counts false before now = now ≡ before

-- for each count of a store, whether a call had its cause
pub record Causes : Type 0 where
  pub read_fault : Bool
  pub write_fault : Bool
  pub miss : Bool
  pub over : Bool

abbrev pub no_cause : Causes
no_cause = record { read_fault = false; write_fault = false; miss = false; over = false }

-- which error goes under which count
abbrev pub is_failed_error : StoreError → Bool
is_failed_error OutOfMemory = false
is_failed_error Missing = false
is_failed_error TooLarge = false
is_failed_error Failed = true

abbrev pub is_missing_error : StoreError → Bool
is_missing_error OutOfMemory = false
is_missing_error Missing = true
is_missing_error TooLarge = false
is_missing_error Failed = false

abbrev pub is_too_large_error : StoreError → Bool
is_too_large_error OutOfMemory = false
is_too_large_error Missing = false
is_too_large_error TooLarge = true
is_too_large_error Failed = false

-- the causes by the answer of a read, and by that of a write
abbrev pub read_causes : {T : Type 0} → Result T StoreError → Causes
read_causes (Ok _) = no_cause
read_causes (Err error) = record {
  read_fault = is_failed_error error;
  write_fault = false;
  miss = is_missing_error error;
  over = is_too_large_error error;
}

abbrev pub write_causes : {T : Type 0} → Result T StoreError → Causes
write_causes (Ok _) = no_cause
write_causes (Err error) = record { read_fault = false; write_fault = is_failed_error error; miss = false; over = false }

-- each count of a store rose where a call had its cause, and else it stands
pub record Raises (causes : Causes) (before now : StoreView) : Type 0 where
  pub read_faults : Counts causes.read_fault before.read_faults now.read_faults
  pub write_faults : Counts causes.write_fault before.write_faults now.write_faults
  pub misses : Counts causes.miss before.misses now.misses
  pub overs : Counts causes.over before.overs now.overs

-- a store refused nothing so far
pub record IsFresh (view : StoreView) : Type 0 where
  pub read_faults : view.read_faults ≡ 0
  pub write_faults : view.write_faults ≡ 0
  pub misses : view.misses ≡ 0
  pub overs : view.overs ≡ 0

-- all of a store stands but its counts
pub record Keeps (before now : StoreView) : Type 0 where
  pub shown : now.shown ≡ before.shown
  pub faithful : now.faithful ≡ before.faithful
  pub contents : now.contents ≡ before.contents

-- what a read answered agrees with the content of the name
abbrev pub Finds : {Z : Type 0} → Option (List ℕ) → ℕ → Result (Vec ℕ Z) StoreError → Type 0
Finds content limit (Ok found) = content ≡ Some found.items
Finds content limit (Err Missing) = content ≡ None
Finds content limit (Err TooLarge) = IsSomeAnd content (λ bytes. limit < length bytes)
Finds content limit (Err OutOfMemory) = Unit {0}
Finds content limit (Err Failed) = Unit {0}

-- every other name has what it had
abbrev pub OthersStand : List ℕ → Contents → Contents → Type 0
OthersStand name before now = (other : List ℕ) → other ≢ name → now other ≡ before other

-- all of a store stands but its counts and the content of one name, as far as it tells its contents
pub record KeepsOthers (name : List ℕ) (before now : StoreView) : Type 0 where
  pub shown : now.shown ≡ before.shown
  pub faithful : now.faithful ≡ before.faithful
  pub others : IsTrue before.shown → OthersStand name before.contents now.contents

-- a name has these bytes in a store that tells its contents and is faithful
abbrev pub Holds : StoreView → List ℕ → List ℕ → Type 0
Holds view name bytes = IsTrue view.shown → IsTrue view.faithful → view.contents name ≡ Some bytes

-- what a sink tells after a piece more, where it tells anything
abbrev pub grown : Option (List ℕ) → List ℕ → Option (List ℕ)
grown before piece = option_map (λ bytes. bytes ++ piece) before

-- a front of the output was taken, and nothing else
abbrev pub Begins : List ℕ → Option (List ℕ) → Option (List ℕ) → Type 0
Begins output before now =
    (part : List ℕ) × (rest : List ℕ) × (part ++ rest ≡ output) × (now ≡ grown before part)

-- a sink took a piece whole, and was not at fault
pub record Took (piece : List ℕ) (before now : SinkView) : Type 0 where
  pub bytes : now.bytes ≡ grown before.bytes piece
  pub faults : now.faults ≡ before.faults

-- a sink took nothing, and was at fault
pub record Refused (before now : SinkView) : Type 0 where
  pub bytes : now.bytes ≡ before.bytes
  pub faults : Counts true before.faults now.faults

-- a sink took a front of a piece, and was at fault
pub record BrokeOff (piece : List ℕ) (before now : SinkView) : Type 0 where
  pub bytes : Begins piece before.bytes now.bytes
  pub faults : Counts true before.faults now.faults

-- a sink took as much of a piece as it answered
abbrev pub TakesFront : {E : Type 0} → List ℕ → Result ℕ E → SinkView → SinkView → Type 0
TakesFront piece (Ok taken) before now = Took (take taken piece) before now
TakesFront piece (Err _) before now = Refused before now

-- a piece was put whole, or the sink was at fault behind a front of it, as the answer says
abbrev pub Puts : {A E : Type 0} → List ℕ → Result A E → SinkView → SinkView → Type 0
Puts piece (Ok _) before now = Took piece before now
Puts piece (Err _) before now = BrokeOff piece before now

-- a line was told whole, or a front of it was told and the sink was at fault
abbrev pub Told : List ℕ → SinkView → SinkView → Type 0
Told line before now = Took line before now ⊎ BrokeOff line before now
