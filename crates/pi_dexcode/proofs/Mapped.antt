-- The images of the elements of a list, one after another.
use Rattle.std.proofs.Common.{◌≡◌, ℕ, ◌+◌, ◌<◌, ◌≤◌, List, [], ◌∷◌, ◌++◌, length, drop, get_or, map, append_assoc}
use Rattle.std.proofs.Math.ListN.{drop_of_length-le}
use Rattle.std.proofs.lemmas.List.{drop_more, append-nil}

pub map_goes : {A : Type 0} (f : ℕ → A) (done : List A) (xs : List ℕ) (i : ℕ) → i < length xs
    → (done ++ f (get_or xs i 0) ∷ []) ++ map f (drop (i + 1) xs) ≡ done ++ map f (drop i xs)
map_goes f done xs i lt = rw (drop_more xs i 0 lt) (append_assoc done (f (get_or xs i 0) ∷ []) (map f (drop (i + 1) xs)))

pub map_ends : {A : Type 0} (f : ℕ → A) (done : List A) (xs : List ℕ) (i : ℕ) → length xs ≤ i → done ++ map f (drop i xs) ≡ done
map_ends f done xs i le = rw (drop_of_length-le xs le) (append-nil done)
