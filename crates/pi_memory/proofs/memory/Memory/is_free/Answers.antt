use Rattle.std.proofs.Common.{refl}
use Rattle.pi_memory.proofs.Free.{free_is}
use Rattle.pi_memory.proofs.memory.Memory.is_free.Goals as goal

pub returns : goal.returns
returns c = free_is c.args.self.now.spaces c.args.self.now.spaces c.args.base.0 c.args.end.0 c.all_apart.result refl c.all_apart.ensures
