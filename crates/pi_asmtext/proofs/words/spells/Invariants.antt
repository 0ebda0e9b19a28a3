use Rattle.std.proofs.Common.{◌≡◌, drop, Some}
use Rattle.pi_asmtext.specs.Derivatives.{derivative_by}
use Rattle.pi_asmtext.specs.Words.{unit_test}
use Rattle.pi_asmtext.specs.Spelling.{rest_of}
use Rattle.pi_asmtext.proofs.words.spells.Given as goal

abbrev pub invariant-loop-unit : goal.invariant-loop-unit
invariant-loop-unit l =
    derivative_by unit_test (drop l.unit-index l.units) (Some (rest_of l.spell)) ≡ derivative_by unit_test l.units (Some (rest_of l.fn.start))
