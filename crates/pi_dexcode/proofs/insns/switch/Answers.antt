use Rattle.std.proofs.Common.{w32, to_z, of_z}
use Rattle.pi_insn.specs.Lent.{data_of}
use Rattle.pi_dexcode.proofs.Walks.{pointed_whole}
use Rattle.pi_dexcode.proofs.insns.switch.Goals as goal

pub cases-requires : goal.cases-requires
cases-requires c = pointed_whole c.args.walk.now.pieces c.args.at (to_z w32 (of_z w32 c.args.dist)) (data_of c.in-Some.payload) c.requires c.in-Some.ensures.some
