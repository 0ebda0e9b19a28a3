use Rattle.std.proofs.Common.{rules}
use Rattle.pi_reloc.proofs.Marks.{marks_in-zero}
use Rattle.pi_reloc.proofs.bitmap.Bitmap.new.Goals as goal

pub returns : goal.returns
returns c = marks_in-zero _ c.div_ceil.result _ (search rules)
