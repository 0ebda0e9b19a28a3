use Rattle.std.proofs.Common.{◌≡◌, ◌++◌, ◌∷◌, drop}
use Rattle.std.specs.Prelude.{map}
use Rattle.pi_format.specs.Rules.Descriptors.{short_letter}
use Rattle.pi_format.specs.Rules.Strings.{type_units}
use Rattle.pi_dexraw.proofs.protos.letters.Given as goal

abbrev pub invariant-loop-i : goal.invariant-loop-i
invariant-loop-i l =
    l.list.items ++ map (λ t. short_letter (type_units l.types t)) (drop l.i l.params)
    ≡ short_letter (type_units l.types l.ret) ∷ map (λ t. short_letter (type_units l.types t)) l.params
