use Rattle.std.proofs.Common.{◌≡◌, ℕ, ◌+◌, ◌-◌, ◌<◌, List, [], ◌∷◌, ◌++◌, Option, ap, ◌∙◌, arith}
use Rattle.pi_format.specs.Tables.{count_at, class_defs}
use Rattle.pi_format.specs.Rules.Lowest.{lower, lowest_from, tabulation}
use Rattle.pi_format.specs.Rules.ClassData.{ClassRows, rows_of}
use Rattle.pi_format.proofs.Loops.{lowest_goes, listed_goes}
use Rattle.pi_classdata.proofs.Places.{data_place}
use Rattle.pi_classdata.proofs.table.read_rows.Goals as goal

pub loop-i-init : goal.loop-i-init
loop-i-init c =
    let file = c.args.raw.now in
    let n : ℕ = count_at file class_defs in
    let all : n - 0 ≡ n = omega arith in
    record {
      lowest = ap (lowest_from (data_place file) 0) all;
      so_far = ap (λ (xs : List ClassRows). xs ++ tabulation (rows_of file) 0 (n - 0)) c.new-classes.ensures.items ∙ ap (tabulation (rows_of file) 0) all;
    }

pub loop-i-preserved : goal.loop-i-preserved
loop-i-preserved c =
    let file = c.args.raw.now in
    let i = c.loop-i.i in
    let n : ℕ = count_at file class_defs in
    let lt : i < n = omega (arith, c.class_defs-i-end.ensures) in
    record {
      lowest =
          ap (λ (o : Option ℕ). lower o (lowest_from (data_place file) (i + 1) (n - (i + 1))))
          (c.lower-broken.ensures ∙ ap (lower c.loop-i.broken) c.in_ok-place.ensures.broken)
          ∙ lowest_goes (data_place file) c.loop-i.broken i n lt
          ∙ c.loop-i.invariant.lowest;
      so_far =
          ap (λ (xs : List ClassRows). xs ++ tabulation (rows_of file) (i + 1) (n - (i + 1)))
          (c.in_ok-push.ensures.items ∙ ap (λ (rows : ClassRows). c.loop-i.classes.items ++ rows ∷ []) c.in_ok-place.ensures.rows)
          ∙ listed_goes (rows_of file) c.loop-i.classes.items i n lt
          ∙ c.loop-i.invariant.so_far;
    }
