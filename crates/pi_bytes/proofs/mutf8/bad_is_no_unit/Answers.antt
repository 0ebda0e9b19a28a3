use Rattle.pi_bytes.proofs.Laws.{bad_stops, stops_bad}
use Rattle.pi_bytes.proofs.mutf8.bad_is_no_unit.Goals as goal

pub returns-clause-stops : goal.returns-clause-stops
returns-clause-stops c = bad_stops

pub returns-clause-only_there : goal.returns-clause-only_there
returns-clause-only_there c = stops_bad
