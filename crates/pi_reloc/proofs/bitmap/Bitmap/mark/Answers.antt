use Rattle.std.proofs.Common.{arith}
use Rattle.std.proofs.lemmas.Grind.{common_steps}
use Rattle.pi_reloc.proofs.Marks.{length-marks_in, byte_within, marks_in-set}
use Rattle.pi_reloc.proofs.bitmap.Bitmap.mark.Goals as goal

pub index_mut-requires : goal.index_mut-requires
index_mut-requires c =
    let within = rw (← c.self.view_is, length-marks_in) at c.requires in
    byte_within c.self.inside.words c.args.i _ within (grind (arith, common_steps, c.self.invariant))

pub returns : goal.returns
returns c =
    let within = rw (← c.self.view_is, length-marks_in) at c.requires in
    rw (← c.self.view_is) (marks_in-set c.self.inside.words c.self.inside.bits.items c.args.i c.index_mut.result.now within c.self.invariant c.index_mut.ensures.value)
