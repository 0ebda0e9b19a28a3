use Rattle.std.proofs.Common.{arith}
use Rattle.std.proofs.lemmas.Grind.{common_steps}
use Rattle.pi_reloc.proofs.Marks.{length-marks_in, byte_within, mark_read}
use Rattle.pi_reloc.proofs.bitmap.Bitmap.has.Goals as goal

pub index-requires : goal.index-requires
index-requires c =
    let within = rw (← c.self.view_is, length-marks_in) at c.requires in
    byte_within c.self.inside.words c.args.i _ within (grind (arith, common_steps, c.self.invariant))

pub returns : goal.returns
returns c =
    let within = rw (← c.self.view_is, length-marks_in) at c.requires in
    rw (← c.self.view_is) (mark_read c.self.inside.words c.self.inside.bits.items c.args.i c.index.result.now within c.self.invariant c.index.ensures)
