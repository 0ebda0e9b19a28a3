use Rattle.pi_dexraw.proofs.Kept.{proto_there}
use Rattle.pi_dexraw.proofs.raw.Raw.proto_entry.Goals as goal

pub returns-clause-ret : goal.returns-clause-ret
returns-clause-ret c = rw (c.proto_at.ensures, c.file.ensures.value) (proto_there c.args.self.now c.args.i c.file.ensures.kept c.requires)
