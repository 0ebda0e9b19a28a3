-- Lists that grow at their end, each thing once: what stood stands, what was put in is found, and its place stays.
use Rattle.std.proofs.Common.{◌≡◌, ℕ, suc, ◌+◌, ◌<◌, Bool, true, false, List, [], ◌∷◌, ◌++◌, length, take, get_or, refl, sym, ap, ◌∙◌, arith, append_assoc}
use Rattle.std.specs.Prelude.{if◌then◌else◌}
use Rattle.std.specs.List.{All, list_any, position_or_len}
use Rattle.std.proofs.Math.Seq.{take-append_seam}
use Rattle.std.proofs.lemmas.List.Elements.{All-push}
use Rattle.std.proofs.lemmas.List.Sums.{passes_at_first}
use Rattle.std.proofs.lemmas.Bool.{or_left, or_right}
use Rattle.pi_dexpools.specs.Gathered.{with_new, place_of}

-- a list stands at the head of another
pub record Begins {A : Type 0} (xs ys : List A) : Type 0 where
  pub rest : List A
  pub whole : ys ≡ xs ++ rest

none_behind : {A : Type 0} (xs : List A) → xs ≡ xs ++ []
none_behind [] = refl
none_behind (x ∷ xs) = ap (λ (l : List _). x ∷ l) (none_behind xs)

pub begins_itself : {A : Type 0} (xs : List A) → Begins xs xs
begins_itself xs = record { rest = []; whole = none_behind xs }

pub begins_further : {A : Type 0} (xs ys zs : List A) → Begins xs ys → Begins ys zs → Begins xs zs
begins_further xs ys zs b c = record { rest = b.rest ++ c.rest; whole = c.whole ∙ ap (λ (l : List _). l ++ c.rest) b.whole ∙ append_assoc xs b.rest c.rest }

pub begins_taken : {A : Type 0} (xs ys : List A) → Begins xs ys → take (length xs) ys ≡ xs
begins_taken xs ys b = rw (b.whole) (take-append_seam xs b.rest)

-- what one test of two things tells
pub record IsExact {A : Type 0} (same : A → A → Bool) : Type 0 where
  pub sound : (x y : A) → same x y ≡ true → x ≡ y
  pub itself : (x : A) → same x x ≡ true

begins_if : {A : Type 0} (b : Bool) (xs : List A) (x : A) → Begins xs (if b then xs else xs ++ x ∷ [])
begins_if true xs x = begins_itself xs
begins_if false xs x = record { rest = x ∷ []; whole = refl }

pub begins_new : {A : Type 0} (same : A → A → Bool) (xs : List A) (x : A) → Begins xs (with_new same xs x)
begins_new same xs x = begins_if (list_any (same x) xs) xs x

-- a thing stands in a list where the test finds it
any_push : {A : Type 0} (p : A → Bool) (xs : List A) (x : A) → p x ≡ true → list_any p (xs ++ x ∷ []) ≡ true
any_push p [] x e = or_left (p x) false e
any_push p (y ∷ xs) x e = or_right (p y) (list_any p (xs ++ x ∷ [])) (any_push p xs x e)

any_if : {A : Type 0} (p : A → Bool) (b : Bool) (xs : List A) (x : A) → list_any p xs ≡ b → p x ≡ true → list_any p (if b then xs else xs ++ x ∷ []) ≡ true
any_if p true xs x e f = e
any_if p false xs x e f = any_push p xs x f

pub found_new : {A : Type 0} (same : A → A → Bool) (xs : List A) (x : A) → same x x ≡ true → list_any (same x) (with_new same xs x) ≡ true
found_new same xs x e = any_if (same x) (list_any (same x) xs) xs x refl e

all_if : {A : Type 0} (P : A → Type 0) (b : Bool) (xs : List A) (x : A) → All P xs → P x → All P (if b then xs else xs ++ x ∷ [])
all_if P true xs x all here = all
all_if P false xs x all here = All-push P xs x all here

pub all_new : {A : Type 0} (same : A → A → Bool) (P : A → Type 0) (xs : List A) (x : A) → All P xs → P x → All P (with_new same xs x)
all_new same P xs x all here = all_if P (list_any (same x) xs) xs x all here

-- what passes in a list passes in one that begins with it, at the same place
any_more : {A : Type 0} (p : A → Bool) (xs zs : List A) → list_any p xs ≡ true → list_any p (xs ++ zs) ≡ true
any_more p [] zs e = cc
any_more p (x ∷ xs) zs e = by_test (p x) refl (any_more p xs zs)
  where
    by_test : (b : Bool) → p x ≡ b → (list_any p xs ≡ true → list_any p (xs ++ zs) ≡ true) → list_any p (x ∷ xs ++ zs) ≡ true
    by_test true f more = or_left (p x) (list_any p (xs ++ zs)) f
    by_test false f more = (let rest : list_any p xs ≡ true = rw f at e in or_right (p x) (list_any p (xs ++ zs)) (more rest))

pub found_more : {A : Type 0} (p : A → Bool) (xs ys : List A) → Begins xs ys → list_any p xs ≡ true → list_any p ys ≡ true
found_more p xs ys b e = rw (b.whole) (any_more p xs b.rest e)

place_more : {A : Type 0} (p : A → Bool) (xs zs : List A) → list_any p xs ≡ true → position_or_len p (xs ++ zs) ≡ position_or_len p xs
place_more p [] zs e = cc
place_more p (x ∷ xs) zs e = by_test (p x) refl (place_more p xs zs)
  where
    by_test : (b : Bool) → p x ≡ b → (list_any p xs ≡ true → position_or_len p (xs ++ zs) ≡ position_or_len p xs)
        → position_or_len p (x ∷ xs ++ zs) ≡ position_or_len p (x ∷ xs)
    by_test true f more = rw f refl
    by_test false f more = (let rest : list_any p xs ≡ true = rw f at e in rw f (ap (λ (n : ℕ). 1 + n) (more rest)))

pub place_stays : {A : Type 0} (p : A → Bool) (xs ys : List A) → Begins xs ys → list_any p xs ≡ true → position_or_len p ys ≡ position_or_len p xs
place_stays p xs ys b e = rw (b.whole) (place_more p xs b.rest e)

-- the place of what passes is within the list
pub place_within : {A : Type 0} (p : A → Bool) (xs : List A) → list_any p xs ≡ true → position_or_len p xs < length xs
place_within p [] e = cc
place_within p (x ∷ xs) e = by_test (p x) refl (place_within p xs)
  where
    by_test : (b : Bool) → p x ≡ b → (list_any p xs ≡ true → position_or_len p xs < length xs) → position_or_len p (x ∷ xs) < suc (length xs)
    by_test true f more = rw f (omega arith)
    by_test false f more = (let rest : list_any p xs ≡ true = rw f at e in let lt = more rest in rw f (omega arith))

-- and the thing stands there
pub place_reads : {A : Type 0} {same : A → A → Bool} → IsExact same → (x : A) (xs : List A) (d : A) → list_any (same x) xs ≡ true → get_or xs (place_of same x xs) d ≡ x
place_reads {same = same} exact x xs d e =
    sym (exact.sound x (get_or xs (place_of same x xs) d) (passes_at_first (same x) xs d (place_within (same x) xs e)))
