-- Parts of a file one behind the other, and the offsets at which they begin.
use Rattle.std.specs.Prelude.{ℕ, ◌+◌, ◌-◌, ◌%◌, ◌==◌, List, [], ◌∷◌, ◌++◌, length, replicate, if◌then◌else◌}
use Rattle.std.specs.List.{flat_map}
use Rattle.byteorder.specs.Endian.{little_bytes}

-- numbers of 16 and of 32 bits one behind the other
abbrev pub halves : List ℕ → List ℕ
halves xs = flat_map (little_bytes 2) xs

abbrev pub words : List ℕ → List ℕ
words xs = flat_map (little_bytes 4) xs

-- how many bytes lie between an offset and the next multiple of four
abbrev pub padding : ℕ → ℕ
padding at = (4 - at % 4) % 4

-- zero bytes
abbrev pub zeros : ℕ → List ℕ
zeros n = replicate n 0

-- the offsets of things that are laid one behind the other from an offset on; 0 for one that has no bytes
abbrev pub offsets : {X : Type 0} → (X → List ℕ) → ℕ → List X → List ℕ
offsets f at [] = []
offsets f at (x ∷ xs) = (if length (f x) == 0 then 0 else at) ∷ offsets f (at + length (f x)) xs

-- things that are laid from an offset on, each at a multiple of four behind the one before it, and their offsets
abbrev pub aligned : {X : Type 0} → (X → List ℕ) → ℕ → List X → List ℕ
aligned f at [] = []
aligned f at (x ∷ xs) = zeros (padding at) ++ (f x ++ aligned f (at + padding at + length (f x)) xs)

abbrev pub aligned_offsets : {X : Type 0} → (X → List ℕ) → ℕ → List X → List ℕ
aligned_offsets f at [] = []
aligned_offsets f at (x ∷ xs) = (at + padding at) ∷ aligned_offsets f (at + padding at + length (f x)) xs
