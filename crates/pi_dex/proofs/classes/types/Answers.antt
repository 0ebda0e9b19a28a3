use Rattle.std.proofs.Common.{ℕ, ◌<◌, List, ap, ◌∙◌, arith}
use Rattle.pi_format.specs.Tables.{count_at, type_ids}
use Rattle.pi_format.specs.Says.Names.{type_name}
use Rattle.pi_format.proofs.Loops.{listed_goes}
use Rattle.pi_dex.proofs.classes.types.Goals as goal

pub loop-t-preserved : goal.loop-t-preserved
loop-t-preserved c =
    let n : ℕ = count_at c.args.names.now.file type_ids in
    let lt : c.loop-t.t < n = omega (arith, c.types-t-end.ensures ∙ ap (λ (f : List ℕ). count_at f type_ids) c.raw.ensures) in
    rw (c.in_ok-push.ensures.ok, c.type_name.ensures)
    (listed_goes (type_name c.args.names.now) c.loop-t.types c.loop-t.t n lt ∙ c.loop-t.invariant)
