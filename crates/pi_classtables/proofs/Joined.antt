-- What holds of each thing of lists joined end to end.
use Rattle.std.proofs.Common.{List, [], ◌∷◌}
use Rattle.std.specs.List.{All, flat_map}
use Rattle.std.proofs.lemmas.List.Elements.{All-nil, All-cons, All-head, All-tail, All-append}
use Rattle.pi_format.proofs.Every.{all_left, all_right}

module _ {A B : Type 0} (P : B → Type 0) (f : A → List B) where
  pub all_in_pieces : (xs : List A) → All P (flat_map f xs) → All (λ x. All P (f x)) xs
  all_in_pieces [] all = All-nil (λ x. All P (f x))
  all_in_pieces (x ∷ xs) all =
      All-cons (λ x. All P (f x)) x xs (all_left P (f x) (flat_map f xs) all) (all_in_pieces xs (all_right P (f x) (flat_map f xs) all))

  pub all_from_pieces : (xs : List A) → All (λ x. All P (f x)) xs → All P (flat_map f xs)
  all_from_pieces [] all = All-nil P
  all_from_pieces (x ∷ xs) all =
      All-append P (f x) (flat_map f xs) (All-head (λ x. All P (f x)) x xs all) (all_from_pieces xs (All-tail (λ x. All P (f x)) x xs all))
