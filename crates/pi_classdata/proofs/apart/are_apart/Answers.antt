use Rattle.std.proofs.Common.{◌≡◌, drop, ◌∙◌, arith}
use Rattle.pi_classdata.proofs.Merged.{first_goes, second_goes, second_ends}
use Rattle.pi_classdata.proofs.apart.are_apart.Goals as goal

pub loop-i-preserved-then-x-y-2 : goal.loop-i-preserved-then-x-y-2
loop-i-preserved-then-x-y-2 c =
    let x : c.x.inside.id ≡ c.index-xs-i.result.id = cc in
    let y : c.y.inside.id ≡ c.index-ys-j.result.id = cc in
    first_goes c.args.xs.now c.args.ys.now c.loop-i.i c.loop-i.j c.index-xs-i.result c.index-ys-j.result (omega arith) (omega arith) c.index-xs-i.is c.index-ys-j.is
    c.requires.second (omega (arith, x, y)) ∙ c.loop-i.invariant

pub loop-i-preserved : goal.loop-i-preserved
loop-i-preserved c =
    let x : c.x.inside.id ≡ c.index-xs-i.result.id = cc in
    let y : c.y.inside.id ≡ c.index-ys-j.result.id = cc in
    second_goes c.args.xs.now c.args.ys.now c.loop-i.i c.loop-i.j c.index-xs-i.result c.index-ys-j.result (omega arith) (omega arith) c.index-xs-i.is c.index-ys-j.is
    c.requires.first (omega (arith, x, y)) ∙ c.loop-i.invariant

pub returns-else-j-ys : goal.returns-else-j-ys
returns-else-j-ys c = second_ends c.loop-i.j (drop c.loop-i.i c.args.xs.now) c.args.ys.now _ (omega arith) c.loop-i.invariant
