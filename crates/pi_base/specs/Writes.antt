-- Writes into a store, one after another.
use Rattle.std.specs.Prelude.{◌≡◌, ℕ, List, [], ◌∷◌, ◌⊎◌}
use Rattle.pi_base.specs.Views.{StoreView}
use Rattle.pi_base.specs.Outside.{Holds, Keeps, KeepsOthers}

-- a write: a name, and the bytes that become its content
pub record Write : Type 0 where
  pub name : List ℕ
  pub bytes : List ℕ

-- the write was made: its name has the bytes, and every other name what it had
abbrev pub Makes : Write → StoreView → StoreView → Type 0
Makes w before now = KeepsOthers w.name before now × Holds now w.name w.bytes

-- the writes were made, in their order
abbrev pub MakesAll : List Write → StoreView → StoreView → Type 0
MakesAll [] before now = Keeps before now
MakesAll (w ∷ ws) before now = (next : StoreView) × (Makes w before next × MakesAll ws next now)

-- a front of the writes was made, in their order; if it is not all of them, the content of the next one's name is open
abbrev pub MakesFront : List Write → StoreView → StoreView → Type 0
MakesFront [] before now = Keeps before now
MakesFront (w ∷ ws) before now = KeepsOthers w.name before now ⊎ ((next : StoreView) × (Makes w before next × MakesFront ws next now))

-- the writes before that one were made, in their order, and it was refused: the content of its name is open
abbrev pub StopsAt : Write → List Write → StoreView → StoreView → Type 0
StopsAt refused [] before now = ⊥
StopsAt refused (w ∷ ws) before now =
    ((w ≡ refused) × KeepsOthers w.name before now) ⊎ ((next : StoreView) × (Makes w before next × StopsAt refused ws next now))
