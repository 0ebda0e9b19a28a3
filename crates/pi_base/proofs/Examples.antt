-- Worked examples of counts, of pieces and of writes.
use Rattle.std.proofs.Common.{◌≡◌, ℕ, true, false, [], ◌∷◌, Some, None, Err, refl}
use Rattle.pi_base.specs.Views.{StoreView}
use Rattle.pi_base.specs.Outside.{Keeps, grown, no_cause, read_causes, write_causes}
use Rattle.pi_base.specs.Writes.{MakesAll, MakesFront}
use Rattle.pi_base.specs.declared.outside.StoreError.TheVariants.{OutOfMemory, Missing, Failed}

-- a name that is not there is a miss and nothing else; want of memory has no count
miss : read_causes {T = ℕ} (Err Missing) ≡ record { read_fault = false; write_fault = false; miss = true; over = false }
miss = refl

want : read_causes {T = ℕ} (Err OutOfMemory) ≡ no_cause
want = refl

failed_write : write_causes {T = ℕ} (Err Failed) ≡ record { read_fault = false; write_fault = true; miss = false; over = false }
failed_write = refl

-- a sink that told `ab` tells `abc` after a `c` more, and one that tells nothing goes on so
tells : grown (Some (97 ∷ 98 ∷ [])) (99 ∷ []) ≡ Some (97 ∷ 98 ∷ 99 ∷ [])
tells = refl

tells_nothing : grown None (99 ∷ []) ≡ None
tells_nothing = refl

-- where there is nothing to write, all stands
no_write : (before now : StoreView) → MakesAll [] before now ≡ Keeps before now
no_write before now = refl

no_front : (before now : StoreView) → MakesFront [] before now ≡ Keeps before now
no_front before now = refl
