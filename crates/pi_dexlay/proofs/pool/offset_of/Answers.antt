use Rattle.std.proofs.Common.{sym}
use Rattle.pi_dexlay.proofs.Bytes.{offset_found, offset_wanting}
use Rattle.pi_dexlay.proofs.pool.offset_of.Goals as goal

pub returns-in-Some : goal.returns-in-Some
returns-in-Some c = offset_found c.args.pool.now.keys c.args.offsets.now c.args.piece.now c.in-Some.place c.requires (sym c.in-Some.ensures.index)

pub returns-in-None : goal.returns-in-None
returns-in-None c = offset_wanting c.args.pool.now.keys c.args.offsets.now c.args.piece.now c.requires (sym c.in-None.ensures.index)
