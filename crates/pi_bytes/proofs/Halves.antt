-- Halves one behind the other.
use Rattle.std.proofs.Common.{◌≡◌, ℕ, zero, suc, ◌+◌, ◌-◌, ◌*◌, ◌<◌, ◌≤◌, List, [], ◌∷◌, ◌++◌, length, refl, ap, arith, append_assoc}
use Rattle.std.proofs.lemmas.List.{append-nil}
use Rattle.pi_bytes.specs.Numbers.{half_at, halves_at}

pub length_halves : (file : List ℕ) (at n : ℕ) → length (halves_at file at n) ≡ n
length_halves file at zero = refl
length_halves file at (suc n) = ap suc (length_halves file (at + 2) n)

-- one half more
pub halves_go : (file : List ℕ) (done : List ℕ) (at i n : ℕ) → i < n
    → (done ++ half_at file (at + 2 * i) ∷ []) ++ halves_at file (at + 2 * (i + 1)) (n - (i + 1)) ≡ done ++ halves_at file (at + 2 * i) (n - i)
halves_go file done at i n lt =
    let more : n - i ≡ suc (n - (i + 1)) = omega arith in
    let place : at + 2 * (i + 1) ≡ at + 2 * i + 2 = omega arith in
    rw (more, place) (append_assoc done (half_at file (at + 2 * i) ∷ []) (halves_at file (at + 2 * i + 2) (n - (i + 1))))

pub halves_end : (file : List ℕ) (done : List ℕ) (at i n : ℕ) → n ≤ i → done ++ halves_at file (at + 2 * i) (n - i) ≡ done
halves_end file done at i n le =
    let none : n - i ≡ zero = omega arith in
    rw none (append-nil done)
