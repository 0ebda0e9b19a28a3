use Rattle.std.proofs.Common.{subst, List, ℕ}
use Rattle.std.specs.List.{All}
use Rattle.pi_dextables.specs.Writable.{IsHalf}
use Rattle.pi_dexpools.specs.declared.gathered.Gathered.{Gathered}
use Rattle.pi_dexwrite.specs.Ready.{AreNumbered}
use Rattle.pi_dexwrite.proofs.TablesMade.{first_tables}
use Rattle.pi_dexwrite.proofs.finish.number.Goals as goal

pub returns : goal.returns
returns c =
    let n = c.in_ok-numbered.numbered in
    let is = c.in_ok-numbered.ensures in
    subst (λ (g : Gathered). AreNumbered g n) c.in_ok-all.ensures
    (record {
      tables = λ classes. first_tables c.in_ok-all.all n classes is.strings is.types is.protos is.fields is.methods;
      ranks = is.ranks;
      halves = subst (All (λ (s : List ℕ). All IsHalf s)) c.as_slice.ensures c.halves.ensures;
      counted = c.are_counted.ensures.0 c.if-not-are_counted.false;
    })
