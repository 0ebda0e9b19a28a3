use Rattle.std.proofs.Common.{◌≡◌, drop}
use Rattle.pi_classtables.specs.Forms.{first_opcode}
use Rattle.pi_dexforms.proofs.forms.first_opcode.Given as goal

abbrev pub invariant-loop-op : goal.invariant-loop-op
invariant-loop-op l = record {
  body : l.insn.body ≡ l.initial.insn.body;
  so_far : first_opcode l.units l.initial.insn.body (drop l.op-index l.opcodes) ≡ first_opcode l.units l.initial.insn.body l.opcodes;
}
