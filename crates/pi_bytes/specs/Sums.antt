-- The checksum of bytes by two sums, which is Adler-32.
use Rattle.std.specs.Prelude.{ℕ, ◌+◌, ◌*◌, ◌%◌, List, [], ◌∷◌}

-- the two sums over bytes, modulo the largest prime below 2^16
pub record Sums : Type 0 where
  pub a : ℕ
  pub b : ℕ

abbrev pub sums_from : Sums → List ℕ → Sums
sums_from s [] = s
sums_from s (x ∷ xs) = sums_from (record { a = (s.a + x) % 65521; b = (s.b + (s.a + x) % 65521) % 65521 }) xs

abbrev pub checksum_of : Sums → ℕ
checksum_of s = s.b * 65536 + s.a

unfoldable pub adler : List ℕ → ℕ
adler bytes = checksum_of (sums_from (record { a = 1; b = 0 }) bytes)
