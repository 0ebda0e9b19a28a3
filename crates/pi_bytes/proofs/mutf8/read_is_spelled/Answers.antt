use Rattle.pi_bytes.proofs.Laws.{units_counted, units_spelled, units_before}
use Rattle.pi_bytes.proofs.mutf8.read_is_spelled.Goals as goal

pub returns-clause-counted : goal.returns-clause-counted
returns-clause-counted c = units_counted

pub returns-clause-spelled : goal.returns-clause-spelled
returns-clause-spelled c = units_spelled

pub returns-clause-before : goal.returns-clause-before
returns-clause-before c = units_before
