use Rattle.std.proofs.Common.{ℕ, ◌+◌, ◌-◌, ◌<◌, Option, ap, ◌∙◌, arith}
use Rattle.pi_format.specs.Tables.{count_at, class_defs}
use Rattle.pi_format.specs.Rules.Lowest.{lower, lowest_from, lowest_of}
use Rattle.pi_format.specs.Rules.ClassData.{ClassRows, methods_in}
use Rattle.pi_dex.specs.Shared.{words_place}
use Rattle.pi_format.proofs.Loops.{lowest_goes}
use Rattle.pi_dex.proofs.Items.{class_place}
use Rattle.pi_dex.proofs.code_rules.broken_words.Goals as goal

pub loop-i-preserved : goal.loop-i-preserved
loop-i-preserved c =
    let file = c.args.raw.now in
    let i = c.loop-i.i in
    let n : ℕ = count_at file class_defs in
    let lt : i < n = omega (arith, c.class_defs-i-end.ensures) in
    ap (λ (o : Option ℕ). lower o (lowest_from (class_place words_place file) (i + 1) (n - (i + 1))))
    (c.lower-lowest.ensures ∙ ap (lower c.loop-i.lowest) (c.in_ok-here.ensures ∙ ap (λ (r : ClassRows). lowest_of (words_place file) (methods_in r)) c.members.ensures.rows))
    ∙ lowest_goes (class_place words_place file) c.loop-i.lowest i n lt
    ∙ c.loop-i.invariant
