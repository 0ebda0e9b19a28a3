-- For each class the number of its first member.
use Rattle.std.proofs.Common.{◌≡◌, ℕ, zero, suc, ◌+◌, ◌<◌, List, [], ◌∷◌, ◌++◌, length, take, drop, sum_by, get_or, slice_get, Option, Some, None, IsSomeAnd, ◌-◌, ◌^◌, replicate, inl, inr, arith, refl, sym, ap}
use Rattle.std.proofs.lemmas.Bool.{cases_lt}
use Rattle.std.proofs.lemmas.List.{take-append-drop, take_all, take_more, take_rest}
use Rattle.std.proofs.lemmas.List.Sums.{sum_by-cons, sum_by_more, sum_by-take-drop}
use Rattle.std.proofs.lemmas.Option.{slice_get-get_or}
use Rattle.pi_model.specs.declared.describe.ClassDesc.{ClassDesc}
use Rattle.pi_model.specs.Index.{IsFirsts, starts_from}
use Rattle.pi_model.specs.declared.numbers.NameNo.{NameNo}
use Rattle.pi_model.specs.Search.{member_by, in_class}
use Rattle.pi_model.proofs.Members.{member_back}
use Rattle.pi_model.proofs.Firsts.{firsts_room}

pub length-starts : (count : ClassDesc → ℕ) (before : ℕ) (ds : List ClassDesc) → length (starts_from count before ds) ≡ length ds
length-starts count before [] = refl
length-starts count before (d ∷ ds) = ap suc (length-starts count (before + count d) ds)

pub start_at : (count : ClassDesc → ℕ) (before : ℕ) (ds : List ClassDesc) (c : ℕ) → c < length ds → get_or (starts_from count before ds) c 0 ≡ before + sum_by count (take c ds)
start_at count before [] c lt = absurd (omega arith)
start_at count before (d ∷ ds) zero lt = omega arith
start_at count before (d ∷ ds) (suc c) lt =
    let rest = start_at count (before + count d) ds c (omega arith) in
    omega (arith, sum_by-cons count d (take c ds), rest)

pub starts-append : (count : ClassDesc → ℕ) (before : ℕ) (xs ys : List ClassDesc) → starts_from count before (xs ++ ys) ≡ starts_from count before xs ++ starts_from count (before + sum_by count xs) ys
starts-append count before [] ys = let e : before + 0 ≡ before = omega arith in rw e refl
starts-append count before (x ∷ xs) ys =
    let e : before + sum_by count (x ∷ xs) ≡ before + count x + sum_by count xs = omega (arith, sum_by-cons count x xs) in
    rw e (ap (λ v. before ∷ v) (starts-append count (before + count x) xs ys))

-- one more class
pub starts_push : (count : ClassDesc → ℕ) (before : ℕ) (xs : List ClassDesc) (x : ClassDesc) → starts_from count before (xs ++ x ∷ []) ≡ starts_from count before xs ++ (before + sum_by count xs) ∷ []
starts_push count before xs x = starts-append count before xs (x ∷ [])

-- the starts of the first classes and those of the others
pub starts_whole : (count : ClassDesc → ℕ) (ds : List ClassDesc) (k total : ℕ) (ss ms ts : List ℕ) → ss ≡ starts_from count 0 (take k ds) → total ≡ sum_by count (take k ds) → ms ≡ starts_from count total (drop k ds) → ts ≡ ss ++ ms → ts ≡ starts_from count 0 ds
starts_whole count ds k total ss ms ts a b c d =
    let zero_first : 0 + sum_by count (take k ds) ≡ total = omega (arith, b) in
    let both = starts-append count 0 (take k ds) (drop k ds) in
    let whole : starts_from count 0 (take k ds ++ drop k ds) ≡ starts_from count 0 (take k ds) ++ starts_from count total (drop k ds) = rw zero_first at both in
    let all : starts_from count 0 ds ≡ starts_from count 0 (take k ds) ++ starts_from count total (drop k ds) = rw (take-append-drop k ds) at whole in
    rw (d, a, c) (sym all)

-- a number behind a class's start, and before the next one's, is of that class
pub in_place : (count : ClassDesc → ℕ) (ds : List ClassDesc) (c i number : ℕ) → c < length ds → sum_by count (take c ds) + i ≡ number → number < sum_by count ds → (c + 1 < length ds → number < sum_by count (take (c + 1) ds)) → IsSomeAnd (slice_get ds c) (λ d. i < count d)
in_place count [] c i number lt e below next = absurd (omega arith)
in_place count (d ∷ ds) c i number lt e below next =
    let more = sum_by_more count (d ∷ ds) c d lt in
    let upto : number < sum_by count (take (c + 1) (d ∷ ds)) =
    elim (cases_lt (c + 1) (length (d ∷ ds))) [
      | inl h ↦ next h
      | inr h ↦ rw (take_all (c + 1) (d ∷ ds) h) below
    ] in
    rw (slice_get-get_or (d ∷ ds) c d lt) (omega (arith, more, upto, e))

-- a step of the loop that writes the starts
pub starts_step : (count : ClassDesc → ℕ) (before : ℕ) (ds : List ClassDesc) (i : ℕ) (d : ClassDesc) (ss ts : List ℕ) (next : ℕ) → i < length ds → d ≡ get_or ds i d → ss ≡ starts_from count before (take i ds) → next ≡ before + sum_by count (take i ds) → ts ≡ ss ++ next ∷ [] → ts ≡ starts_from count before (take (i + 1) ds)
starts_step count before ds i d ss ts next lt is a b c =
    let more : take (i + 1) ds ≡ take i ds ++ d ∷ [] = rw (← is) at (take_more ds i d lt) in
    rw (c, a, b, more) (sym (starts_push count before (take i ds) d))

pub sum_step : (count : ClassDesc → ℕ) (before : ℕ) (ds : List ClassDesc) (i : ℕ) (d : ClassDesc) (next here : ℕ) → i < length ds → d ≡ get_or ds i d → next ≡ before + sum_by count (take i ds) → here ≡ count d → next + here ≡ before + sum_by count (take (i + 1) ds)
sum_step count before ds i d next here lt is a b =
    let more : sum_by count (take (i + 1) ds) ≡ sum_by count (take i ds) + count d = rw (← is) at (sum_by_more count ds i d lt) in
    omega (arith, more, a, b)

-- the members of the classes behind the first so many are no more than all
pub rest_fits : (count : ClassDesc → ℕ) (ds : List ClassDesc) (k total : ℕ) → total ≡ sum_by count (take k ds) → sum_by count ds < 2 ^ 32 → total + sum_by count (take (length ds - k) (drop k ds)) < 2 ^ 32
rest_fits count ds k total e few = rw (take_rest ds k) (omega (arith, sum_by-take-drop count ds k))

pub rest_total : (count : ClassDesc → ℕ) (ds : List ClassDesc) (k total all : ℕ) → total ≡ sum_by count (take k ds) → all ≡ total + sum_by count (take (length ds - k) (drop k ds)) → all ≡ sum_by count ds
rest_total count ds k total all e a =
    let b : all ≡ total + sum_by count (drop k ds) = rw (take_rest ds k) at a in
    omega (arith, sum_by-take-drop count ds k)

pub rest_starts : (count : ClassDesc → ℕ) (ds : List ClassDesc) (k total : ℕ) (ss ms ts : List ℕ) → ss ≡ starts_from count 0 (take k ds) → total ≡ sum_by count (take k ds) → ms ≡ starts_from count total (take (length ds - k) (drop k ds)) → ts ≡ ss ++ ms → ts ≡ starts_from count 0 ds
rest_starts count ds k total ss ms ts a b c d = starts_whole count ds k total ss ms ts a b (rw (take_rest ds k) at c) d

pub firsts_made : {X : Type 0} (name : X → NameNo) (old slots new : List (Option ℕ)) (n : ℕ) (xs : List X) → slots ≡ new → new ≡ old ++ replicate n None → IsFirsts name old xs → IsFirsts name slots xs
firsts_made name old slots new n xs a b k = rw (a, b) (firsts_room name old n xs k)

pub firsts_same : {X : Type 0} (name : X → NameNo) (slots other : List (Option ℕ)) (xs : List X) → slots ≡ other → IsFirsts name other xs → IsFirsts name slots xs
firsts_same name slots other xs e k = rw e k

pub room_same : (slots other : List (Option ℕ)) (n : ℕ) → slots ≡ other → length other ≡ n → length slots ≡ n
room_same slots other n e k = rw e k

pub some_within : {X : Type 0} (P : X → Type 0) (xs : List X) (c : ℕ) → IsSomeAnd (slice_get xs c) P → c < length xs
some_within P [] c h = absurd h
some_within P (x ∷ xs) zero h = omega arith
some_within P (x ∷ xs) (suc c) h = let k = some_within P xs c h in omega arith

pub any_class : (count : ClassDesc → ℕ) (ds : List ClassDesc) (ss : List ℕ) (number : ℕ) → ss ≡ starts_from count 0 ds → number < sum_by count ds → 0 < length ss
any_class count [] ss number e lt = absurd (omega arith)
any_class count (d ∷ ds) ss number e lt = rw e (omega arith)

pub few_starts : (count : ClassDesc → ℕ) (ds : List ClassDesc) (ss : List ℕ) → ss ≡ starts_from count 0 ds → length ds < 2 ^ 32 → length ss < 2 ^ 32
few_starts count ds ss e lt = rw e (omega (arith, length-starts count 0 ds))

pub first_start : (count : ClassDesc → ℕ) (ds : List ClassDesc) (ss : List ℕ) → ss ≡ starts_from count 0 ds → get_or ss 0 0 ≡ 0
first_start count [] ss e = rw e refl
first_start count (d ∷ ds) ss e = rw e refl

pub within_starts : (count : ClassDesc → ℕ) (ds : List ClassDesc) (ss : List ℕ) (c : ℕ) → ss ≡ starts_from count 0 ds → c < length ds → c < length ss
within_starts count ds ss c e lt = rw e (omega (arith, length-starts count 0 ds))

pub start_is : (count : ClassDesc → ℕ) (ds : List ClassDesc) (ss : List ℕ) (c : ℕ) → ss ≡ starts_from count 0 ds → c < length ds → get_or ss c 0 ≡ sum_by count (take c ds)
start_is count ds ss c e lt = rw e (omega (arith, start_at count 0 ds c lt))

-- what the class and the place of a number are
pub record IsPlace (count : ClassDesc → ℕ) (ds : List ClassDesc) (c i number : ℕ) : Type 0 where
  pub class : c < length ds
  pub total : sum_by count (take c ds) + i ≡ number
  pub place : IsSomeAnd (slice_get ds c) (λ d. i < count d)
  pub member : member_by count ds 0 number ≡ Some (in_class c i)

pub placed : (count : ClassDesc → ℕ) (ds : List ClassDesc) (ss : List ℕ) (c i number : ℕ) → ss ≡ starts_from count 0 ds → number < sum_by count ds → c < length ss → get_or ss c 0 + i ≡ number → (c + 1 < length ss → number < get_or ss (c + 1) 0) → IsPlace count ds c i number
placed count ds ss c i number e below lt at next =
    let long : length ss ≡ length ds = rw e (length-starts count 0 ds) in
    let within : c < length ds = omega arith in
    let start = start_is count ds ss c e within in
    let sum : sum_by count (take c ds) + i ≡ number = omega arith in
    let upto : c + 1 < length ds → number < sum_by count (take (c + 1) ds) =
    λ h. let k : c + 1 < length ss = omega arith in let s = start_is count ds ss (c + 1) e h in let n = next k in omega (arith, s, n) in
    let here = in_place count ds c i number within sum below upto in
    record {
      class = within;
      total = sum;
      place = here;
      member = member_back count ds 0 c i number c here (sym sum) (omega arith);
    }
