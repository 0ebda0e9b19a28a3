use Rattle.std.proofs.Common.{◌≡◌, ◌++◌, ◌∷◌, [], Some, None, sym, ◌∙◌, arith}
use Rattle.pi_format.specs.Rules.Values.{EncodedValue}
use Rattle.pi_classdata.specs.Held.{held_value}
use Rattle.pi_classdata.proofs.Fits.{values_more, values_stop, values_over}
use Rattle.pi_classdata.proofs.values.values.Goals as goal

pub returns-then-fields-k : goal.returns-then-fields-k
returns-then-fields-k c =
    sym (sym c.loop-k.invariant ∙ values_over c.args.raw.now c.args.fields.now c.loop-k.values c.loop-k.k c.args.count c.loop-k.cursor (omega arith) (omega arith))

pub returns-in_default : goal.returns-in_default
returns-in_default c =
    let none : held_value c.args.raw.now c.index-fields-k.result c.loop-k.cursor ≡ None = c.in_default.ensures in
    sym (sym c.loop-k.invariant
    ∙ values_stop c.args.raw.now c.args.fields.now c.loop-k.values c.loop-k.k c.args.count c.index-fields-k.result c.loop-k.cursor (omega arith) (omega arith)
    c.index-fields-k.is none)

pub loop-k-preserved : goal.loop-k-preserved
loop-k-preserved c =
    let value : EncodedValue = c.in-Some.value in
    let held : held_value c.args.raw.now c.index-fields-k.result c.loop-k.cursor ≡ Some (value, c.value.new.cursor) = c.in-Some.ensures in
    let items : c.push.new.self ≡ c.loop-k.values ++ value ∷ [] = c.in_ok-push.ensures.ok in
    rw items
    (values_more c.args.raw.now c.args.fields.now c.loop-k.values c.loop-k.k c.args.count c.index-fields-k.result c.loop-k.cursor c.value.new.cursor value
    (omega arith) (omega arith) c.index-fields-k.is held
    ∙ c.loop-k.invariant)
