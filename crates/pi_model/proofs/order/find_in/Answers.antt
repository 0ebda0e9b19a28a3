use Rattle.std.proofs.Common.{ℕ, ◌+◌, ◌-◌, ◌/◌, ◌<◌, ◌≤◌, ◌≢◌, get_or, arith, sym, ◌∙◌}
use Rattle.pi_model.proofs.Orders.{in_names, compared_at, lower_below, not_lower_from, higher_from, none_there, lowest_there, same_of_level, text_of_level}
use Rattle.pi_model.proofs.order.find_in.Goals as goal

-- the middle is inside
middle : (low high n : ℕ) → low < high → high ≤ n → low + (high - low) / 2 < n
middle low high n a b = omega arith

-- so is the place where the search ended, if it is not the end
inside : (low high n : ℕ) → low ≤ high → high ≤ n → low ≢ n → low < n
inside low high n a b d = omega arith

pub loop-low-preserved-then-less : goal.loop-low-preserved-then-less
loop-low-preserved-then-less c =
    let at = middle _ _ _ c.loop-low-test.true c.loop-low.invariant.high in
    let found = compared_at _ c.args.text.now _ _ _ _ (in_names _ _ _ _ c.requires.2 _ at) c.index-names-n.is c.as_slice.ensures c.cmp.ensures in
    record {
      high = c.loop-low.invariant.high;
      met = omega (arith, c.loop-low-test.true);
      below = lower_below _ _ _ _ c.requires.2.ascending _ at found (sym c.is_lt-less.ensures ∙ c.if-less.true);
      above = c.loop-low.invariant.above;
    }

pub loop-low-preserved : goal.loop-low-preserved
loop-low-preserved c =
    let at = middle _ _ _ c.loop-low-test.true c.loop-low.invariant.high in
    let found = compared_at _ c.args.text.now _ _ _ _ (in_names _ _ _ _ c.requires.2 _ at) c.index-names-n.is c.as_slice.ensures c.cmp.ensures in
    record {
      high = omega (arith, at);
      met = omega arith;
      below = c.loop-low.invariant.below;
      above = not_lower_from _ _ _ _ c.requires.2.ascending _ found (sym c.is_lt-less.ensures ∙ c.if-less.false);
    }

pub returns-then-low-order-clause-none : goal.returns-then-low-order-clause-none
returns-then-low-order-clause-none c =
    none_there c.args.names.now c.args.text.now c.args.order.now c.loop-low.low c.loop-low.invariant.below (λ k h l. let no : ⊥ = omega (arith, h, l, c.if-low-order.true) in absurd no)

pub returns-then-same-clause-some : goal.returns-then-same-clause-some
returns-then-same-clause-some c =
    let at = in_names _ _ _ _ c.requires.2 _ (inside _ _ _ c.loop-low.invariant.met c.loop-low.invariant.high c.if-low-order.false) in
    let found = compared_at _ c.args.text.now _ _ _ _ at c.index-names-n-2.is c.as_slice-2.ensures c.cmp-2.ensures in
    same_of_level _ _ _ _ at found (sym c.is_eq-same.ensures ∙ c.if-same.true)

pub returns-then-same-clause-lowest : goal.returns-then-same-clause-lowest
returns-then-same-clause-lowest c =
    let there = inside _ _ _ c.loop-low.invariant.met c.loop-low.invariant.high c.if-low-order.false in
    let at = in_names _ _ _ _ c.requires.2 _ there in
    let found = compared_at _ c.args.text.now _ _ _ _ at c.index-names-n-2.is c.as_slice-2.ensures c.cmp-2.ensures in
    lowest_there _ _ _ _ there c.loop-low.invariant.below (text_of_level c.args.names.now c.args.text.now (get_or c.args.order.now c.loop-low.low 0) _ found (sym c.is_eq-same.ensures ∙ c.if-same.true))

pub returns-else-same-clause-none : goal.returns-else-same-clause-none
returns-else-same-clause-none c =
    let there = inside _ _ _ c.loop-low.invariant.met c.loop-low.invariant.high c.if-low-order.false in
    let at = in_names _ _ _ _ c.requires.2 _ there in
    let found = compared_at _ c.args.text.now _ _ _ _ at c.index-names-n-2.is c.as_slice-2.ensures c.cmp-2.ensures in
    none_there _ _ _ _ c.loop-low.invariant.below (higher_from _ _ _ _ c.requires.2.ascending _ (c.loop-low.invariant.above _ c.loop-low-test.false there) found (sym c.is_eq-same.ensures ∙ c.if-same.false))
