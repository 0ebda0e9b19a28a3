use Rattle.std.proofs.Common.{ℕ, ◌<◌, List, ap, ◌∙◌, arith}
use Rattle.pi_format.specs.Tables.{count_at, class_defs}
use Rattle.pi_format.specs.Says.Classes.{class_desc}
use Rattle.pi_format.proofs.Loops.{listed_goes}
use Rattle.pi_dex.proofs.classes.classes.Goals as goal

pub loop-i-preserved : goal.loop-i-preserved
loop-i-preserved c =
    let n : ℕ = count_at c.args.names.now.file class_defs in
    let lt : c.loop-i.i < n = omega (arith, c.class_defs-i-end.ensures ∙ ap (λ (f : List ℕ). count_at f class_defs) c.raw.ensures) in
    rw (c.in_ok-push.ensures.ok, c.in_ok-class.ensures)
    (listed_goes (class_desc c.args.names.now c.args.number) c.loop-i.classes c.loop-i.i n lt ∙ c.loop-i.invariant)

pub class-requires-clause-says : goal.class-requires-clause-says
class-requires-clause-says c =
    c.requires.says.each c.loop-i.i (omega (arith, c.class_defs-i-end.ensures ∙ ap (λ (f : List ℕ). count_at f class_defs) c.raw.ensures))
