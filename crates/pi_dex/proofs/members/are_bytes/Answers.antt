use Rattle.std.proofs.Common.{Fits, w8, arith}
use Rattle.std.specs.Prelude.{slice_index}
use Rattle.pi_dex.proofs.members.are_bytes.Goals as goal

pub returns : goal.returns
returns c k =
    let fits : Fits w8 (slice_index c.args.file.now k) = c.type_inv.file k in
    omega (arith, fits)
