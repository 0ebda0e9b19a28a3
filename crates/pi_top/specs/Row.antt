-- What an instruction of a small file does to the registers of its code and to the statics of its class.
use Rattle.std.specs.Prelude.{ℕ, List, [], slice_index, slice_set, unwrap_or, Bool, true, false}
use Rattle.pi_model.specs.declared.describe.ClassDesc.{ClassDesc}
use Rattle.pi_model.specs.declared.insn.FieldRef.{FieldRef}
use Rattle.pi_model.specs.declared.insn.Insn.{Insn}
use Rattle.pi_model.specs.declared.insn.Insn.TheVariants.{Const, Sget, Sput, ReturnVoid, Invoke}
use Rattle.pi_model.specs.Search.{own_field}
use Rattle.pi_machine.specs.Printed.{printed_int}

-- registers and statics after an instruction, what it printed, and whether it returned
pub record Effect : Type 0 where
  pub registers : List ℕ
  pub statics : List ℕ
  pub printed : List ℕ
  pub returns : Bool

-- the place of a field of the class that an instruction names
abbrev pub place_of : ClassDesc → FieldRef → ℕ
place_of d f = unwrap_or (own_field d f) 0

-- the one register of a call
abbrev pub only : List ℕ → ℕ
only regs = slice_index regs 0

abbrev pub effect_of : ClassDesc → Insn → List ℕ → List ℕ → Effect
effect_of d (Const a v) registers statics = record { registers = slice_set registers a v; statics = statics; printed = []; returns = false }
effect_of d (Sget kind a f) registers statics = record {
  registers = slice_set registers a (slice_index statics (place_of d f));
  statics = statics;
  printed = [];
  returns = false;
}
effect_of d (Sput kind a f) registers statics = record {
  registers = registers;
  statics = slice_set statics (place_of d f) (slice_index registers a);
  printed = [];
  returns = false;
}
effect_of d (Invoke how m regs) registers statics = record {
  registers = registers;
  statics = statics;
  printed = printed_int (slice_index registers (only regs));
  returns = false;
}
effect_of d ReturnVoid registers statics = record { registers = registers; statics = statics; printed = []; returns = true }
effect_of d _ registers statics = record { registers = registers; statics = statics; printed = []; returns = true }
