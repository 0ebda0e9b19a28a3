-- A property of each element of a list.
use Rattle.std.proofs.Common.{◌≡◌, ℕ, zero, suc, List, [], ◌∷◌, ◌++◌, map, replicate, slice_get, slice_set, Some, Bool, sym, ◌∙◌, subst}
use Rattle.std.specs.Prelude.{find, slice_index}
use Rattle.std.specs.List.{position_or_len}
use Rattle.std.proofs.lemmas.List.Folds.{find_at}
use Rattle.pi_machine.specs.Sound.{EachOf}
use Rattle.pi_machine.proofs.Truths.{some_same}

pub each_any : {A : Type 0} (xs : List A) → EachOf (λ x. Unit {0}) xs
each_any [] = tt
each_any (x ∷ xs) = (tt, each_any xs)

pub each_get : {A : Type 0} (P : A → Type 0) (xs : List A) (i : ℕ) (x : A) → EachOf P xs → slice_get xs i ≡ Some x → P x
each_get P [] i x h e = cc
each_get P (y ∷ xs) zero x h e = subst P (some_same y x e) h.0
each_get P (y ∷ xs) (suc i) x h e = each_get P xs i x h.1 e

pub each_found : {A : Type 0} (P : A → Type 0) (test : A → Bool) (xs : List A) (x : A) → EachOf P xs → find test xs ≡ Some x → P x
each_found P test xs x h e = each_get P xs (position_or_len test xs) x h (sym (find_at test xs) ∙ e)

pub each_index : (P : ℕ → Type 0) (xs : List ℕ) (i : ℕ) → EachOf P xs → P 0 → P (slice_index xs i)
each_index P [] i h z = z
each_index P (x ∷ xs) zero h z = h.0
each_index P (x ∷ xs) (suc i) h z = each_index P xs i h.1 z

pub each_mono : {A : Type 0} (P Q : A → Type 0) → ((x : A) → P x → Q x) → (xs : List A) → EachOf P xs → EachOf Q xs
each_mono P Q m [] h = tt
each_mono P Q m (x ∷ xs) h = (m x h.0, each_mono P Q m xs h.1)

pub each_joined : {A : Type 0} (P : A → Type 0) (xs ys : List A) → EachOf P xs → EachOf P ys → EachOf P (xs ++ ys)
each_joined P [] ys a b = b
each_joined P (x ∷ xs) ys a b = (a.0, each_joined P xs ys a.1 b)

pub each_set : {A : Type 0} (P : A → Type 0) (xs : List A) (i : ℕ) (y : A) → EachOf P xs → P y → EachOf P (slice_set xs i y)
each_set P [] i y h e = tt
each_set P (x ∷ xs) zero y h e = (e, h.1)
each_set P (x ∷ xs) (suc i) y h e = (h.0, each_set P xs i y h.1 e)

pub each_map : {A B : Type 0} (P : B → Type 0) (f : A → B) → ((x : A) → P (f x)) → (xs : List A) → EachOf P (map f xs)
each_map P f h [] = tt
each_map P f h (x ∷ xs) = (h x, each_map P f h xs)

pub each_replicate : {A : Type 0} (P : A → Type 0) (n : ℕ) (x : A) → P x → EachOf P (replicate n x)
each_replicate P zero x h = tt
each_replicate P (suc n) x h = (h, each_replicate P n x h)
