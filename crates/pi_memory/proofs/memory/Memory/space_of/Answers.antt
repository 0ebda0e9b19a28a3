use Rattle.std.proofs.Common.{◌<◌, arith}
use Rattle.pi_memory.proofs.Free.{few_found}
use Rattle.pi_memory.proofs.memory.Memory.space_of.Goals as goal

pub overflow_cast-result : goal.overflow_cast-result
overflow_cast-result c =
    let few : c.in-Some.k < 9 = few_found c.args.self.now.spaces c.args.at.0 c.args.n c.in-Some.k c.find.result c.keeps.ensures.few c.find.ensures c.in-Some.is in
    omega arith
