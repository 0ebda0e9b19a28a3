-- The lists of handlers of groups: each is there once, and the number of one names it.
use Rattle.std.proofs.Common.{◌≡◌, ℕ, suc, ◌+◌, ◌<◌, Bool, true, false, List, [], ◌∷◌, Option, Some, None, length, get_or, inl, inr, refl, sym, ap, subst, arith}
use Rattle.std.specs.Prelude.{◌==◌, ◌&&◌, position, unwrap_or, slice_index_or, All, Contains}
use Rattle.std.specs.List.{list_any, position_or_len}
use Rattle.std.proofs.lemmas.Bool.{cases_Bool, and_parts, and_from, eqb-true, eq-eqb, lt-ltb}
use Rattle.std.proofs.lemmas.List.Elements.{All-nil, All-cons, All-head, All-tail, All-push, Contains-append_left, Contains-push}
use Rattle.std.proofs.lemmas.List.Folds.{list_any_at}
use Rattle.std.proofs.lemmas.List.Quantifiers.{position-Some}
use Rattle.std.proofs.lemmas.Map.Views.{Contains-from_any}
use Rattle.pi_dextables.specs.declared.tables.Catch.{Catch}
use Rattle.pi_dextables.specs.declared.tables.Catches.{Catches}
use Rattle.pi_tablesaid.specs.Content.{no_catches}
use Rattle.pi_classtables.specs.Ranges.{Group, same_last, same_typed, same_catches, with_list, lists_from, lists_of, list_no}

-- two lists of handlers are the same exactly where they are equal
last_equal : (a b : Option ℕ) → same_last a b ≡ true → a ≡ b
last_equal None None e = refl
last_equal None (Some b) e = cc
last_equal (Some a) None e = cc
last_equal (Some a) (Some b) e = ap Some (eqb-true a b e)

typed_equal : (hs ks : List Catch) → same_typed hs ks ≡ true → hs ≡ ks
typed_equal [] [] e = refl
typed_equal [] (k ∷ ks) e = cc
typed_equal (h ∷ hs) [] e = cc
typed_equal (h ∷ hs) (k ∷ ks) e =
    let parts = and_parts (h.ty == k.ty) ((h.to == k.to) && same_typed hs ks) e in
    let more = and_parts (h.to == k.to) (same_typed hs ks) parts.1 in
    let ty = eqb-true h.ty k.ty parts.0 in
    let to = eqb-true h.to k.to more.0 in
    let rest = typed_equal hs ks more.1 in
    λ i. record { ty = ty i; to = to i } ∷ rest i

catches_equal : (l m : Catches) → same_catches l m ≡ true → l ≡ m
catches_equal l m e =
    let parts = and_parts (same_typed l.typed m.typed) (same_last l.last m.last) e in
    let typed = typed_equal l.typed m.typed parts.0 in
    let last = last_equal l.last m.last parts.1 in
    λ i. record { typed = typed i; last = last i }

last_itself : (a : Option ℕ) → same_last a a ≡ true
last_itself None = refl
last_itself (Some a) = eq-eqb a a refl

typed_itself : (hs : List Catch) → same_typed hs hs ≡ true
typed_itself [] = refl
typed_itself (h ∷ hs) =
    and_from (h.ty == h.ty) ((h.to == h.to) && same_typed hs hs) (eq-eqb h.ty h.ty refl)
    (and_from (h.to == h.to) (same_typed hs hs) (eq-eqb h.to h.to refl) (typed_itself hs))

catches_itself : (l : Catches) → same_catches l l ≡ true
catches_itself l = and_from (same_typed l.typed l.typed) (same_last l.last l.last) (typed_itself l.typed) (last_itself l.last)

-- the list of each group is there, and nothing that was there goes
new_there : (lists : List Catches) (l : Catches) → Contains (with_list lists l) l
new_there lists l = elim (cases_Bool (list_any (same_catches l) lists)) [
  | inl old ↦ rw old (Contains-from_any {eq = same_catches} catches_equal l lists old)
  | inr new ↦ rw new (Contains-push lists l)
]

kept_new : (lists : List Catches) (m l : Catches) → Contains lists l → Contains (with_list lists m) l
kept_new lists m l h = elim (cases_Bool (list_any (same_catches m) lists)) [
  | inl old ↦ rw old h
  | inr new ↦ rw new (Contains-append_left lists (m ∷ []) l h)
]

kept_all : (lists : List Catches) (gs : List Group) (l : Catches) → Contains lists l → Contains (lists_from lists gs) l
kept_all lists [] l h = h
kept_all lists (g ∷ gs) l h = kept_all (with_list lists g.catches) gs l (kept_new lists g.catches l h)

all_from : (lists : List Catches) (gs : List Group) → All (λ (g : Group). Contains (lists_from lists gs) g.catches) gs
all_from lists [] = All-nil (λ (g : Group). Contains lists g.catches)
all_from lists (g ∷ gs) =
    All-cons (λ (h : Group). Contains (lists_from lists (g ∷ gs)) h.catches) g gs
    (kept_all (with_list lists g.catches) gs g.catches (new_there lists g.catches))
    (all_from (with_list lists g.catches) gs)

pub all_listed : (gs : List Group) → All (λ (g : Group). Contains (lists_of gs) g.catches) gs
all_listed gs = all_from [] gs

-- what holds of the handlers of each group holds of each list
module _ (P : Catches → Type 0) where
  list_holds : (lists : List Catches) (l : Catches) → All P lists → P l → All P (with_list lists l)
  list_holds lists l all here = elim (cases_Bool (list_any (same_catches l) lists)) [
    | inl old ↦ rw old all
    | inr new ↦ rw new (All-push P lists l all here)
  ]

  all_hold : (lists : List Catches) (gs : List Group) → All P lists → All (λ (g : Group). P g.catches) gs → All P (lists_from lists gs)
  all_hold lists [] all each = all
  all_hold lists (g ∷ gs) all each =
      let Here : Group → Type 0 = λ (h : Group). P h.catches in
      all_hold (with_list lists g.catches) gs (list_holds lists g.catches all (All-head Here g gs each)) (All-tail Here g gs each)

  pub lists_hold : (gs : List Group) → All (λ (g : Group). P g.catches) gs → All P (lists_of gs)
  lists_hold gs each = all_hold [] gs (All-nil P) each

-- the first place that passes a test, where one does
later : (a b : ℕ) → a < b → 1 + a < suc b
later a b lt = omega arith

place_found : {A : Type 0} (p : A → Bool) (xs : List A) → list_any p xs ≡ true → position_or_len p xs < length xs
place_found p [] e = cc
place_found p (x ∷ xs) e = by_test (p x) refl (place_found p xs)
  where
    by_test : (b : Bool) → p x ≡ b → (list_any p xs ≡ true → position_or_len p xs < length xs) → position_or_len p (x ∷ xs) < length (x ∷ xs)
    by_test true is rest = rw is (omega arith)
    by_test false is rest = (let any : list_any p xs ≡ true = rw is at e in rw is (later (position_or_len p xs) (length xs) (rest any)))

-- the number of a list that is there names it
pub record IsListed (lists : List Catches) (l : Catches) : Type 0 where
  pub number : list_no lists l < length lists
  pub is : slice_index_or lists (list_no lists l) no_catches ≡ l

pub list_found : (lists : List Catches) (l : Catches) → Contains lists l → IsListed lists l
list_found lists l h =
    let p : Catches → Bool = same_catches l in
    let any : list_any p lists ≡ true = list_any_at p lists h.0 l h.1 (rw h.2 (catches_itself l)) in
    let place : ℕ = position_or_len p lists in
    let within : place < length lists = place_found p lists any in
    let at : position p lists ≡ Some place = rw (lt-ltb place (length lists) within) refl in
    let no : place ≡ list_no lists l = sym (ap (λ (o : Option ℕ). unwrap_or o 0) at) in
    let told = position-Some p lists place no_catches at in
    let is : l ≡ get_or lists place no_catches = catches_equal l (get_or lists place no_catches) told.1 in
    record {
      number = subst (λ (n : ℕ). n < length lists) no within;
      is = subst (λ (n : ℕ). slice_index_or lists n no_catches ≡ l) no (sym is);
    }
