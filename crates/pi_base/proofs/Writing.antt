-- One write is a list of writes.
use Rattle.std.proofs.Common.{◌≡◌, List, [], ◌∷◌, Some, IsTrue, refl, ap, sym, ◌∙◌, subst, inl, inr}
use Rattle.pi_base.specs.Views.{Contents, StoreView}
use Rattle.pi_base.specs.Outside.{Holds, Keeps, KeepsOthers}
use Rattle.pi_base.specs.Writes.{Write, MakesAll, MakesFront, StopsAt}

pub stands : (store : StoreView) → Keeps store store
stands store = record { shown = refl; faithful = refl; contents = refl }

-- a write that a store took, and one that it refused
pub makes_one : (w : Write) (before now : StoreView) → KeepsOthers w.name before now → Holds now w.name w.bytes → MakesAll (w ∷ []) before now
makes_one w before now keeps holds = (now, ((keeps, holds), stands now))

pub refuses_one : (w : Write) (before now : StoreView) → KeepsOthers w.name before now → MakesFront (w ∷ []) before now
refuses_one w before now keeps = inl keeps

pub stops_one : (w : Write) (before now : StoreView) → KeepsOthers w.name before now → StopsAt w (w ∷ []) before now
stops_one w before now keeps = inl (refl, keeps)

-- what stopped at a write made a front of the writes
pub stops_in_front : (ws : List Write) (refused : Write) (before now : StoreView) → StopsAt refused ws before now → MakesFront ws before now
stops_in_front [] refused before now h = absurd h
stops_in_front (w ∷ ws) refused before now (inl h) = inl h.1
stops_in_front (w ∷ ws) refused before now (inr h) = inr (h.0, (h.1.0, stops_in_front ws refused h.0 now h.1.1))

-- and so did what made all of them
pub all_in_front : (ws : List Write) (before now : StoreView) → MakesAll ws before now → MakesFront ws before now
all_in_front [] before now h = h
all_in_front (w ∷ ws) before now h = inr (h.0, (h.1.0, all_in_front ws h.0 now h.1.1))

-- a store that tells its contents and is faithful has what was written
pub one_made : (w : Write) (before now : StoreView) → MakesAll (w ∷ []) before now → IsTrue before.shown → IsTrue before.faithful → now.contents w.name ≡ Some w.bytes
one_made w before now made shown faithful =
    let kept : KeepsOthers w.name before made.0 = made.1.0.0 in
    ap (λ (c : Contents). c w.name) made.1.1.contents
    ∙ made.1.0.1 (subst IsTrue (sym kept.shown) shown) (subst IsTrue (sym kept.faithful) faithful)
