use Rattle.std.proofs.Common.{◌≡◌, ℕ, suc, ◌+◌, ◌<◌, ◌≤◌, List, [], ◌∷◌, drop, length, get_or, drop-cons, ap, sym, ◌∙◌, subst, add-one}
use Rattle.std.proofs.lemmas.List.{drop_all}
use Rattle.pi_model.proofs.Orders.{Searched, Searched-more, searched_all, searched_found, none_is_position}
use Rattle.pi_model.proofs.order.find_among.Goals as goal

-- the next order and those behind it
next : (orders : List (List ℕ)) (i : ℕ) (x s : List ℕ) → i < length orders → x ≡ get_or orders i x → s ≡ x → drop i orders ≡ s ∷ drop (i + 1) orders
next orders i x s l e f = rw (add-one i) (drop-cons orders i x l ∙ ap (λ y. y ∷ drop (suc i) orders) (sym (f ∙ e)))

-- what is left to search, from that order on
left : (names orders : List (List ℕ)) (text : List ℕ) (i : ℕ) (x s : List ℕ) → i < length orders → x ≡ get_or orders i x → s ≡ x → Searched names text (drop i orders) → Searched names text (s ∷ drop (i + 1) orders)
left names orders text i x s l e f h = subst (Searched names text) (next orders i x s l e f) h

-- nothing is left
ended : (names orders : List (List ℕ)) (text : List ℕ) (i : ℕ) → length orders ≤ i → Searched names text (drop i orders) → Searched names text []
ended names orders text i l h = subst (Searched names text) (drop_all i orders l) h

pub returns-in-Some-clause-first : goal.returns-in-Some-clause-first
returns-in-Some-clause-first c =
    let s = left c.args.names.now c.args.orders.now c.args.text.now c.loop-order.order-index _ c.as_slice.result.now c.loop-order-test.true c.order-item.is c.as_slice.ensures c.loop-order.invariant in
    sym (searched_found _ _ _ _ _ s c.in-Some.ensures.some c.in-Some.ensures.lowest)

pub loop-order-preserved : goal.loop-order-preserved
loop-order-preserved c =
    let s = left c.args.names.now c.args.orders.now c.args.text.now c.loop-order.order-index _ c.as_slice.result.now c.loop-order-test.true c.order-item.is c.as_slice.ensures c.loop-order.invariant in
    Searched-more _ _ _ _ s (c.in-None.ensures.none s.from (length c.as_slice.result.now) s.rest.0)

pub returns-clause-none : goal.returns-clause-none
returns-clause-none c = searched_all _ _ (ended c.args.names.now c.args.orders.now c.args.text.now _ c.loop-order-test.false c.loop-order.invariant)

pub returns-clause-first : goal.returns-clause-first
returns-clause-first c = sym (none_is_position _ _ (λ k _. searched_all _ _ (ended c.args.names.now c.args.orders.now c.args.text.now _ c.loop-order-test.false c.loop-order.invariant) k))
