-- A fact of each element of a list.
use Rattle.std.proofs.Common.{◌≡◌, ℕ, zero, suc, ◌<◌, List, [], ◌∷◌, ◌++◌, length, get_or, sym, subst, arith}
use Rattle.std.specs.List.{All}

pub all_nothing : {A : Type 0} (P : A → Type 0) → All P []
all_nothing P k d lt = absurd (omega arith)

pub all_more : {A : Type 0} (P : A → Type 0) (x : A) (xs : List A) → P x → All P xs → All P (x ∷ xs)
all_more P x xs here rest zero d lt = here
all_more P x xs here rest (suc k) d lt = rest k d (omega arith)

pub all_first : {A : Type 0} (P : A → Type 0) (x : A) (xs : List A) → All P (x ∷ xs) → P x
all_first P x xs all = all 0 x (omega arith)

pub all_rest : {A : Type 0} (P : A → Type 0) (x : A) (xs : List A) → All P (x ∷ xs) → All P xs
all_rest P x xs all k d lt = all (suc k) d (omega arith)

pub all_weaker : {A : Type 0} (P Q : A → Type 0) (xs : List A) → ((x : A) → P x → Q x) → All P xs → All Q xs
all_weaker P Q [] f all = all_nothing Q
all_weaker P Q (x ∷ xs) f all = all_more Q x xs (f x (all_first P x xs all)) (all_weaker P Q xs f (all_rest P x xs all))

pub all_both : {A : Type 0} (P Q R : A → Type 0) (xs : List A) → ((x : A) → P x → Q x → R x) → All P xs → All Q xs → All R xs
all_both P Q R [] f ps qs = all_nothing R
all_both P Q R (x ∷ xs) f ps qs =
    all_more R x xs (f x (all_first P x xs ps) (all_first Q x xs qs)) (all_both P Q R xs f (all_rest P x xs ps) (all_rest Q x xs qs))

pub all_left : {A : Type 0} (P : A → Type 0) (xs ys : List A) → All P (xs ++ ys) → All P xs
all_left P [] ys all = all_nothing P
all_left P (x ∷ xs) ys all = all_more P x xs (all_first P x (xs ++ ys) all) (all_left P xs ys (all_rest P x (xs ++ ys) all))

pub all_right : {A : Type 0} (P : A → Type 0) (xs ys : List A) → All P (xs ++ ys) → All P ys
all_right P [] ys all = all
all_right P (x ∷ xs) ys all = all_right P xs ys (all_rest P x (xs ++ ys) all)

pub all_joined : {A : Type 0} (P : A → Type 0) (xs ys : List A) → All P xs → All P ys → All P (xs ++ ys)
all_joined P [] ys left right = right
all_joined P (x ∷ xs) ys left right = all_more P x (xs ++ ys) (all_first P x xs left) (all_joined P xs ys (all_rest P x xs left) right)

-- a fact of each element holds of the one that was read
pub all_at : {A : Type 0} (P : A → Type 0) (xs : List A) (i : ℕ) (x : A) → All P xs → i < length xs → x ≡ get_or xs i x → P x
all_at P xs i x all lt is = subst P (sym is) (all i x lt)
