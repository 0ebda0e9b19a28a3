-- Worked examples: the depths of descriptors.
use Rattle.std.proofs.Common.{◌≡◌, [], ◌∷◌, Some, None, refl}
use Rattle.pi_dexids.specs.Tails.{depth_of}

array_of_arrays : depth_of (91 ∷ 91 ∷ 73 ∷ []) ≡ Some 2
array_of_arrays = refl

not_of_void : depth_of (91 ∷ 86 ∷ []) ≡ None
not_of_void = refl
