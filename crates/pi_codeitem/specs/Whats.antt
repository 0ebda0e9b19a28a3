-- What a piece that is lent says.
use Rattle.pi_insn.specs.Lent.{data_of}
use Rattle.pi_codeitem.specs.declared.pieces.What.{What as Lent}
use Rattle.pi_codeitem.specs.declared.pieces.What.TheVariants as lent
use Rattle.pi_format.specs.Rules.Pieces.{What, Instruction, Payload}

abbrev pub what_of : Lent → What
what_of (lent.Instruction i) = Instruction i
what_of (lent.Payload p) = Payload (data_of p)
