use Rattle.std.proofs.Common.{◌≡◌, ◌-◌, drop}
use Rattle.pi_format.specs.Rules.Values.{values_from}
use Rattle.pi_classdata.proofs.Fits.{with_others}
use Rattle.pi_classdata.proofs.values.values.Given as goal

abbrev pub invariant-loop-k : goal.invariant-loop-k
invariant-loop-k l =
    with_others l.values (values_from l.raw (drop l.k l.fields) (l.count - l.k) l.cursor) ≡ values_from l.raw l.fields l.count l.fn.cursor
