use Rattle.std.proofs.Common.{◌≡◌, drop}
use Rattle.pi_dex.specs.Judged.{both_faults}
use Rattle.pi_dex.proofs.Faults.{faults_of}
use Rattle.pi_dex.proofs.walk_rules.walk_rules.Given as goal

abbrev pub invariant-loop-i : goal.invariant-loop-i
invariant-loop-i l = both_faults l.lowest (faults_of l.raw (drop l.i l.codes)) ≡ faults_of l.raw l.codes
