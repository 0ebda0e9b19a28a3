use Rattle.std.proofs.Common.{sym}
use Rattle.pi_reloc.proofs.Marks.{length-marks_in}
use Rattle.pi_reloc.proofs.bitmap.Bitmap.words.Goals as goal

pub returns : goal.returns
returns c = rw (← c.self.view_is) (sym (length-marks_in c.self.inside.words c.self.inside.bits.items))
