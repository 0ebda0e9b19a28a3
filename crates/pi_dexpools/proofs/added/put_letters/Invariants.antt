use Rattle.std.proofs.Common.{◌≡◌, ◌++◌, drop}
use Rattle.std.specs.Prelude.{map}
use Rattle.pi_format.specs.Rules.Descriptors.{short_letter}
use Rattle.pi_contents.specs.Named.{text_in}
use Rattle.pi_dexpools.proofs.added.put_letters.Given as goal

abbrev pub invariant-loop-i : goal.invariant-loop-i
invariant-loop-i l =
    l.letters.items ++ map short_letter (map (text_in l.prog) (drop l.i l.params))
    ≡ l.fn.letters.items ++ map short_letter (map (text_in l.prog) l.params)
