-- Names in the order of their contents: how a search narrows, and what more names leave as it is.
use Rattle.std.proofs.Common.{map, ◌⊎◌, inl, inr, ◌≡◌, ◌≢◌, ℕ, ◌+◌, ◌-◌, ◌<◌, ◌≤◌, List, [], ◌∷◌, ◌++◌, length, take, drop, get_or, Bool, Ordering, Less, Equal, Greater, Some, None, slice_get, refl, sym, ◌∙◌, ap, true, false, true≢false, arith, nat_cmp, length-append}
use Rattle.std.specs.Ordering.{is_lt, is_eq, ordering_index, ordering_then}
use Rattle.std.specs.Cmp.Lexicographic.{slice_cmp}
use Rattle.std.specs.Cmp.{IsStrictWeakOrder}
use Rattle.std.specs.Borrow.{Bor}
use Rattle.std.specs.declared.result.Result.{Result}
use Rattle.std.specs.declared.result.Result.TheVariants.{Ok, Err}
use Rattle.std.specs.Result.{OnOk}
use Rattle.std.specs.List.{All, Contains}
use Rattle.std.specs.List.Sorted.{IsNonDecreasingBy, IsSortedBy, IsSorted, IsPermutation}
use Rattle.std.proofs.lemmas.Bool.{cases_lt, lt-ltb, le-ltb}
use Rattle.std.proofs.lemmas.Bool.Decides.{nat_tests}
use Rattle.std.proofs.lemmas.Cmp.{tied_itself, nat_list_cmp_total, nat_cmp_total, then_total, on_total}
use Rattle.std.proofs.lemmas.List.Sorted.{searchable_from_sorted, sorted_far, ranks_by, All-permutation, Contains-permutation, IsPermutation-map, length_permutation}
use Rattle.std.proofs.lemmas.List.Elements.{All-push, All-weaker, All-map, Contains-append_left, Contains-push}
use Rattle.std.proofs.lemmas.List.{get_or_append_left, get_or_default, get_or-map, length-map, map-append, take-append-drop, length-take-le}
use Rattle.std.proofs.lemmas.Map.Lookups.{exact_bytes}
use Rattle.std.proofs.lemmas.Option.{slice_get-get_or, get_or_from_slice_get, slice_get_within}
use Rattle.std.specs.List.{position, position_or_len}
use Rattle.std.proofs.lemmas.List.Sums.{position_or_len_is}
use Rattle.std.proofs.lemmas.Slice.Eq.{bytes_eq-Decides}
use Rattle.std.proofs.Math.Logic.{⊎_elim}
use Rattle.pi_model.specs.Texts.{same_text}
use Rattle.pi_model.specs.Order.{IsOrder, AreOrders, text_at, is_before}

-- a pair that is not below another is not below it in its first part
first_of : (o p : Ordering) → is_lt (ordering_then o p) ≡ false → is_lt o ≡ false
first_of Less p h = h
first_of Equal p h = refl
first_of Greater p h = refl

-- how the names in order compare with a text: lower ones first
abbrev pub rank : List (List ℕ) → List ℕ → ℕ → ℕ
rank names text n = ordering_index (slice_cmp nat_cmp (text_at names n) text)

-- a name of the same content compares as the same
pub rank_of_same : (names : List (List ℕ)) (text : List ℕ) (n : ℕ) → slice_get names n ≡ Some text → rank names text n ≡ 1
rank_of_same names text n e =
    ap ordering_index {y = Equal} (rw (get_or_from_slice_get names n text [] e) (tied_itself nat_list_cmp_total text))

-- a number of an order is that of a name
pub in_names : (names : List (List ℕ)) (first count : ℕ) (order : List ℕ) → IsOrder names first count order → (k : ℕ) → k < length order → get_or order k 0 < length names
in_names names first count order o k l = omega (arith, o.within, o.in_range k 0 l)

-- ranks rise along an order
pub ranks_rise : (names : List (List ℕ)) (text : List ℕ) (order : List ℕ) → IsSortedBy (is_before names) order → IsNonDecreasingBy (rank names text) order
ranks_rise names text order up =
    searchable_from_sorted nat_list_cmp_total (text_at names) order text (λ k d low high. first_of _ _ (up k d low high))

-- the order of the numbers by content, then number
before_ranks : (names : List (List ℕ)) → IsStrictWeakOrder (is_before names)
before_ranks names = ranks_by (then_total (on_total (text_at names) nat_list_cmp_total) nat_cmp_total) (λ n. n)

-- more names behind leave the texts of the earlier ones
pub text_at_append : (names more : List (List ℕ)) (n : ℕ) → n < length names → text_at (names ++ more) n ≡ text_at names n
text_at_append names more n l = get_or_append_left names more [] n l

-- more names behind leave an order as it is
pub IsOrder-append : (names more : List (List ℕ)) (first count : ℕ) (order : List ℕ) → IsOrder names first count order → IsOrder (names ++ more) first count order
IsOrder-append names more first count order o = record {
  within = omega (arith, o.within, length-append names more);
  long = o.long;
  in_range = o.in_range;
  each = o.each;
  ascending = λ k d low high.
      rw (text_at_append names more (get_or order k d) (omega (arith, o.within, o.in_range k d (omega arith))), text_at_append names more (get_or order (k + 1) d) (omega (arith, o.within, o.in_range (k + 1) d high))) (o.ascending k d low high);
}

-- a comparison of a name's units
pub compared_at : (names : List (List ℕ)) (text : List ℕ) (n : ℕ) (x s : List ℕ) (r : Ordering) → n < length names → x ≡ get_or names n x → s ≡ x → r ≡ slice_cmp nat_cmp s text → r ≡ slice_cmp nat_cmp (text_at names n) text
compared_at names text n x s r l e f h =
    let here : s ≡ text_at names n = f ∙ e ∙ get_or_default names n x [] l in
    rw (← here) h

-- what the tests of an answer say of its place
is_low : (o : Ordering) → is_lt o ≡ true → ordering_index o < 1
is_low Less h = omega arith
is_low Equal h = absurd (true≢false (sym h))
is_low Greater h = absurd (true≢false (sym h))

not_low : (o : Ordering) → is_lt o ≡ false → 1 ≤ ordering_index o
not_low Less h = absurd (true≢false h)
not_low Equal h = omega arith
not_low Greater h = omega arith

is_level : (o : Ordering) → is_eq o ≡ true → o ≡ Equal
is_level Less h = absurd (true≢false (sym h))
is_level Equal h = refl
is_level Greater h = absurd (true≢false (sym h))

not_level : (o : Ordering) → is_eq o ≡ false → 1 ≤ ordering_index o → 1 < ordering_index o
not_level Less h l = omega (arith, l)
not_level Equal h l = absurd (true≢false h)
not_level Greater h l = omega arith

-- a name that compares as the same has the same content
pub text_of_level : (names : List (List ℕ)) (text : List ℕ) (n : ℕ) (o : Ordering) → o ≡ slice_cmp nat_cmp (text_at names n) text → is_eq o ≡ true → text_at names n ≡ text
text_of_level names text n o e t = exact_bytes (text_at names n) text (sym e ∙ is_level o t)

pub same_of_level : (names : List (List ℕ)) (text : List ℕ) (n : ℕ) (o : Ordering) → n < length names → o ≡ slice_cmp nat_cmp (text_at names n) text → is_eq o ≡ true → slice_get names n ≡ Some text
same_of_level names text n o l e t = slice_get-get_or names n [] l ∙ ap Some (text_of_level names text n o e t)

-- below a name that is lower than the text each is lower
pub lower_below : (names : List (List ℕ)) (text : List ℕ) (order : List ℕ) (o : Ordering) → IsSortedBy (is_before names) order → (m : ℕ) → m < length order → o ≡ slice_cmp nat_cmp (text_at names (get_or order m 0)) text → is_lt o ≡ true → (k : ℕ) → k < m + 1 → rank names text (get_or order k 0) < 1
lower_below names text order o up m l e t k b =
    let there : rank names text (get_or order m 0) < 1 = rw (← e) (is_low o t) in
    omega (arith, there, ranks_rise names text order up k m 0 (omega arith) l)

-- from a name that is not lower than the text none is lower
pub not_lower_from : (names : List (List ℕ)) (text : List ℕ) (order : List ℕ) (o : Ordering) → IsSortedBy (is_before names) order → (m : ℕ) → o ≡ slice_cmp nat_cmp (text_at names (get_or order m 0)) text → is_lt o ≡ false → (k : ℕ) → m ≤ k → k < length order → 1 ≤ rank names text (get_or order k 0)
not_lower_from names text order o up m e t k b l =
    let there : 1 ≤ rank names text (get_or order m 0) = rw (← e) (not_low o t) in
    omega (arith, there, ranks_rise names text order up m k 0 b l)

-- from a name that is neither lower nor the same each is higher
pub higher_from : (names : List (List ℕ)) (text : List ℕ) (order : List ℕ) (o : Ordering) → IsSortedBy (is_before names) order → (m : ℕ) → 1 ≤ rank names text (get_or order m 0) → o ≡ slice_cmp nat_cmp (text_at names (get_or order m 0)) text → is_eq o ≡ false → (k : ℕ) → m ≤ k → k < length order → 1 < rank names text (get_or order k 0)
higher_from names text order o up m a e t k b l =
    let there : 1 < rank names text (get_or order m 0) = rw (← e) (not_level o t (rw e a)) in
    omega (arith, there, ranks_rise names text order up m k 0 b l)

-- where each name of an order is lower or higher, none has that content
pub none_there : (names : List (List ℕ)) (text : List ℕ) (order : List ℕ) (low : ℕ) → ((k : ℕ) → k < low → rank names text (get_or order k 0) < 1) → ((k : ℕ) → low ≤ k → k < length order → 1 < rank names text (get_or order k 0)) → (first count : ℕ) → IsOrder names first count order → (k : ℕ) → first ≤ k → k < first + count → slice_get names k ≢ Some text
none_there names text order low below above first count o k from to e =
    let there = o.each k from to in
    let here : get_or order there.0 0 ≡ k = get_or_default order there.0 0 k there.1 ∙ there.2 in
    let same : rank names text (get_or order there.0 0) ≡ 1 = rw here (rank_of_same names text k e) in
    apart there.0 (rank names text (get_or order there.0 0)) same (below there.0) (λ h. above there.0 h there.1)
  where
    apart : (j r : ℕ) → r ≡ 1 → (j < low → r < 1) → (low ≤ j → 1 < r) → ⊥
    apart j r e f g = grind (arith, e, f, g)

-- the first of an order that has that content has the lowest number of those that have it
pub lowest_there : (names : List (List ℕ)) (text : List ℕ) (order : List ℕ) (low : ℕ) → low < length order → ((k : ℕ) → k < low → rank names text (get_or order k 0) < 1) → text_at names (get_or order low 0) ≡ text → (first count : ℕ) → IsOrder names first count order → (k : ℕ) → first ≤ k → k < get_or order low 0 → slice_get names k ≢ Some text
lowest_there names text order low l below here first count o k from to e =
    let there = o.each k from (omega (arith, to, o.in_range low 0 l)) in
    let at : get_or order there.0 0 ≡ k = get_or_default order there.0 0 k there.1 ∙ there.2 in
    let same : rank names text (get_or order there.0 0) ≡ 1 = rw at (rank_of_same names text k e) in
    let behind : low ≤ there.0 = apart there.0 (rank names text (get_or order there.0 0)) same (below there.0) in
    let up : is_before names (get_or order there.0 0) (get_or order low 0) ≡ false = sorted_far (is_before names) (before_ranks names) order o.ascending low there.0 0 behind there.1 in
    let level : slice_cmp nat_cmp (text_at names k) (text_at names (get_or order low 0)) ≡ Equal = rw (here, get_or_from_slice_get names k text [] e) (tied_itself nat_list_cmp_total text) in
    no_less k (get_or order low 0) to (rw level at (rw at at up))
  where
    apart : (j r : ℕ) → r ≡ 1 → (j < low → r < 1) → low ≤ j
    apart j r e f = grind (arith, e, f)

    no_less : (a b : ℕ) → a < b → is_lt (nat_cmp a b) ≡ false → ⊥
    no_less a b l h = grind (arith, nat_tests, l, h)

-- a name's units beside its number, of those from first below high
pub record IsKey (names : List (List ℕ)) (first high : ℕ) (key : Bor (List ℕ) × ℕ) : Type 0 where
  pub low : first ≤ key.1
  pub below : key.1 < high
  pub text : key.0.now ≡ text_at names key.1

-- the keys of the names from first below high, in the order of their numbers
pub record AreKeys (names : List (List ℕ)) (first high : ℕ) (keys : List (Bor (List ℕ) × ℕ)) : Type 0 where
  pub count : first + length keys ≡ high
  pub holds : All (IsKey names first high) keys
  pub each : (n : ℕ) → first ≤ n → n < high → Contains (map (λ key. key.1) keys) n

-- the order of keys, as std has it of pairs
abbrev pub key_cmp : Bor (List ℕ) × ℕ → Bor (List ℕ) × ℕ → Ordering
key_cmp x y = ordering_then (slice_cmp nat_cmp x.0.now y.0.now) (nat_cmp x.1 y.1)

-- with the next name's key
pub keys_more : (names : List (List ℕ)) (first high : ℕ) (keys : List (Bor (List ℕ) × ℕ)) (key : Bor (List ℕ) × ℕ) → AreKeys names first high keys → first ≤ high → key.1 ≡ high → key.0.now ≡ text_at names high → AreKeys names first (high + 1) (keys ++ key ∷ [])
keys_more names first high keys key k low n e = record {
  count = omega (arith, k.count, length-append keys (key ∷ []));
  holds = All-push (IsKey names first (high + 1)) keys key (All-weaker (IsKey names first high) (IsKey names first (high + 1)) (λ x h. record { low = h.low; below = omega (arith, h.below); text = h.text }) keys k.holds) (record { low = omega (arith, low, n); below = omega (arith, n); text = rw n e });
  each = λ m a b. rw (map-append (λ x. x.1) keys (key ∷ [])) (now m a b);
}
  where
    now : (m : ℕ) → first ≤ m → m < high + 1 → Contains (map (λ x. x.1) keys ++ key.1 ∷ []) m
    now m a b = by (cases_lt m high)
      where
        by : (m < high) ⊎ (high ≤ m) → Contains (map (λ x. x.1) keys ++ key.1 ∷ []) m
        by (inl l) = Contains-append_left (map (λ x. x.1) keys) (key.1 ∷ []) m (k.each m a l)
        by (inr l) = let same : m ≡ key.1 = omega (arith, l, b, n) in rw same (Contains-push (map (λ x. x.1) keys) key.1)

-- from the units to the names that have them
before_of : (names : List (List ℕ)) (m n : ℕ) (s t : List ℕ) → s ≡ text_at names m → t ≡ text_at names n → is_lt (ordering_then (slice_cmp nat_cmp s t) (nat_cmp m n)) ≡ false → is_before names m n ≡ false
before_of names m n s t e f h = rw (← e, ← f) h

-- the numbers of sorted keys go up by their names' contents
keys_ascend : (names : List (List ℕ)) (first high : ℕ) (sorted : List (Bor (List ℕ) × ℕ)) → All (IsKey names first high) sorted → IsSorted key_cmp sorted → IsSortedBy (is_before names) (map (λ key. key.1) sorted)
keys_ascend names first high [] holds s = λ k d low high'. let no : ⊥ = omega (arith, high') in absurd no
keys_ascend names first high (x ∷ xs) holds s = λ k d low high'.
    let long : k + 1 < length (x ∷ xs) = omega (arith, high', length-map (x ∷ xs) (λ key. key.1)) in
    let a = get_or-map (λ key. key.1) (x ∷ xs) k x d (omega (arith, long)) in
    let b = get_or-map (λ key. key.1) (x ∷ xs) (k + 1) x d long in
    rw (a, b) (before_of names _ _ _ _ (holds (k + 1) x long).text (holds k x (omega (arith, long))).text (s k x low long))

-- the numbers of sorted keys are an order
pub order_of_keys : (names : List (List ℕ)) (first high : ℕ) (keys sorted : List (Bor (List ℕ) × ℕ)) → AreKeys names first high keys → high ≤ length names → IsPermutation keys sorted → IsSorted key_cmp sorted → IsOrder names first (high - first) (map (λ key. key.1) sorted)
order_of_keys names first high keys sorted k l p s = record {
  within = omega (arith, l, k.count);
  long = omega (arith, k.count, length_permutation keys sorted p, length-map sorted (λ key. key.1));
  in_range = All-map (λ n. (first ≤ n) × (n < first + (high - first))) (λ key. key.1) sorted (All-weaker (IsKey names first high) (λ key. (first ≤ key.1) × (key.1 < first + (high - first))) (λ x h. (h.low, omega (arith, h.below))) sorted holds);
  each = λ n a b. Contains-permutation (map (λ key. key.1) keys) (map (λ key. key.1) sorted) n (IsPermutation-map (λ key. key.1) keys sorted p) (k.each n a (omega (arith, a, b)));
  ascending = keys_ascend names first high sorted holds s;
}
  where
    holds : All (IsKey names first high) sorted
    holds = All-permutation (IsKey names first high) keys sorted p k.holds

-- the names of a file in order, behind the orders of the files before it
pub AreOrders-push : (names more : List (List ℕ)) (from : ℕ) (orders : List (List ℕ)) (order : List ℕ) → AreOrders names from orders → IsOrder (names ++ more) (length names) (length more) order → AreOrders (names ++ more) from (orders ++ order ∷ [])
AreOrders-push names more from [] order h o =
    (rw (h, o.long) o, omega (arith, h, o.long, length-append names more))
AreOrders-push names more from (x ∷ xs) order h o = (IsOrder-append names more from (length x) x h.0, AreOrders-push names more (from + length x) xs order h.1 o)

-- the same, with the count as `order_of` has it
pub AreOrders-add : (names more : List (List ℕ)) (orders : List (List ℕ)) (order : List ℕ) → AreOrders names 0 orders → IsOrder (names ++ more) (length names) (length (names ++ more) - length names) order → AreOrders (names ++ more) 0 (orders ++ order ∷ [])
AreOrders-add names more orders order h o =
    let new : length (names ++ more) - length names ≡ length more = omega (arith, length-append names more) in
    AreOrders-push names more 0 orders order h (rw new at o)

-- the order of the names from one on, behind the orders of those before it
pub AreOrders-from : (names : List (List ℕ)) (k : ℕ) (orders : List (List ℕ)) (order : List ℕ) → k ≤ length names → AreOrders (take k names) 0 orders → IsOrder names k (length names - k) order → AreOrders names 0 (orders ++ order ∷ [])
AreOrders-from names k orders order l h o =
    rw (take-append-drop k names) at (AreOrders-add (take k names) (drop k names) orders order h (rw (take-append-drop k names, length-take-le k names l) o))

-- what holds, holds also where an answer is a value
pub at_any : {T E P : Type 0} (r : Result T E) → P → OnOk r P
at_any (Ok x) p = p
at_any (Err e) p = _

-- a text and itself, and two that differ
same_itself : (a : List ℕ) → same_text a a ≡ true
same_itself a = (bytes_eq-Decides a a).1 refl

not_same : (a b : List ℕ) → b ≢ a → same_text a b ≡ false
not_same a b n = by (same_text a b) (λ e. n (sym ((bytes_eq-Decides a b).0 e)))
  where
    by : (r : Bool) → (r ≢ true) → r ≡ false
    by true f = absurd (f refl)
    by false f = refl

-- a name of another content fails the test
differs : (names : List (List ℕ)) (text : List ℕ) (k : ℕ) → k < length names → slice_get names k ≢ Some text → same_text text (get_or names k []) ≡ false
differs names text k l n = not_same text (get_or names k []) (λ e. n (slice_get-get_or names k [] l ∙ ap Some e))

-- the number of the first name of a content
pub first_is_position : (names : List (List ℕ)) (text : List ℕ) (n : ℕ) → slice_get names n ≡ Some text → ((k : ℕ) → k < n → slice_get names k ≢ Some text) → position (same_text text) names ≡ Some n
first_is_position names text n e h =
    let l = slice_get_within names n text e in
    let here : same_text text (get_or names n []) ≡ true = rw (get_or_from_slice_get names n text [] e) (same_itself text) in
    let at : position_or_len (same_text text) names ≡ n = position_or_len_is (same_text text) names n [] (omega (arith, l)) (λ k b. differs names text k (omega (arith, b, l)) (h k b)) (λ _. here) in
    rw (at, lt-ltb n (length names) l) refl

-- and where there is none
pub none_is_position : (names : List (List ℕ)) (text : List ℕ) → ((k : ℕ) → k < length names → slice_get names k ≢ Some text) → position (same_text text) names ≡ None
none_is_position names text h =
    let at : position_or_len (same_text text) names ≡ length names = position_or_len_is (same_text text) names (length names) [] (omega arith) (λ k b. differs names text k b (h k b)) (λ l. let no : ⊥ = omega (arith, l) in absurd no) in
    rw (at, le-ltb (length names) (length names) (omega arith)) refl

-- the orders of the first files have been searched: none of their names has that content
pub record Searched (names : List (List ℕ)) (text : List ℕ) (left : List (List ℕ)) : Type 0 where
  pub from : ℕ
  pub rest : AreOrders names from left
  pub none : (k : ℕ) → k < from → slice_get names k ≢ Some text

-- one more file has been searched
pub Searched-more : (names : List (List ℕ)) (text order : List ℕ) (orders : List (List ℕ)) → (s : Searched names text (order ∷ orders)) → ((k : ℕ) → s.from ≤ k → k < s.from + length order → slice_get names k ≢ Some text) → Searched names text orders
Searched-more names text order orders s h = record {
  from = s.from + length order;
  rest = s.rest.1;
  none = λ k l. ⊎_elim (λ b. s.none k b) (λ b. h k b l) (cases_lt k s.from);
}

-- all files have been searched
pub searched_all : (names : List (List ℕ)) (text : List ℕ) → Searched names text [] → (k : ℕ) → slice_get names k ≢ Some text
searched_all names text s k e = s.none k (omega (arith, s.rest, slice_get_within names k text e)) e

-- a name is found in a file, and its number is the lowest there
pub searched_found : (names : List (List ℕ)) (text order : List ℕ) (orders : List (List ℕ)) (n : ℕ) → (s : Searched names text (order ∷ orders)) → slice_get names n ≡ Some text → ((first count : ℕ) → IsOrder names first count order → (k : ℕ) → first ≤ k → k < n → slice_get names k ≢ Some text) → position (same_text text) names ≡ Some n
searched_found names text order orders n s e h =
    first_is_position names text n e (λ k l. ⊎_elim (λ b. s.none k b) (λ b. h s.from (length order) s.rest.0 k b l) (cases_lt k s.from))
