use Rattle.pi_top.proofs.Puts.{told_of_name}
use Rattle.pi_top.proofs.lines.tell_name.Goals as goal

pub returns : goal.returns
returns g c = told_of_name c.args.prefix.now c.args.name.now c.as_bytes.result.now c.put_three.result _ _ c.as_bytes.ensures.value c.put_three.ensures
