use Rattle.std.proofs.Common.{◌≡◌, ℕ, ◌+◌, ◌-◌, ◌<◌, length, Option, ap, ◌∙◌, arith}
use Rattle.pi_format.specs.Tables.{count_at, class_defs}
use Rattle.pi_format.specs.Rules.Lowest.{lower, lowest_from}
use Rattle.pi_format.specs.Rules.ClassData.{rows_of}
use Rattle.pi_format.proofs.Loops.{lowest_goes, listed_length}
use Rattle.pi_classdata.proofs.Places.{values_place}
use Rattle.pi_classdata.proofs.values.values_rule.Goals as goal

pub loop-i-init : goal.loop-i-init
loop-i-init c =
    let file = c.args.raw.now in
    let n : ℕ = count_at file class_defs in
    let all : n - 0 ≡ n = omega arith in
    ap (lowest_from (values_place file) 0) all

pub get-requires : goal.get-requires
get-requires c =
    let file = c.args.raw.now in
    let n : ℕ = count_at file class_defs in
    let all : length c.args.table.now ≡ n = ap length c.requires ∙ listed_length (rows_of file) 0 n in
    omega (arith, c.class_defs-i-end.ensures, all)

pub loop-i-preserved : goal.loop-i-preserved
loop-i-preserved c =
    let file = c.args.raw.now in
    let i = c.loop-i.i in
    let n : ℕ = count_at file class_defs in
    let lt : i < n = omega (arith, c.class_defs-i-end.ensures) in
    ap (λ (o : Option ℕ). lower o (lowest_from (values_place file) (i + 1) (n - (i + 1))))
    (c.lower-broken.ensures ∙ ap (lower c.loop-i.broken) c.in_ok-judged.ensures)
    ∙ lowest_goes (values_place file) c.loop-i.broken i n lt
    ∙ c.loop-i.invariant
