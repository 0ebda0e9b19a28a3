-- One method after another: what is left of the numbers, and which rows are made.
use Rattle.std.proofs.Common.{◌≡◌, ℕ, zero, suc, ◌+◌, ◌<◌, ◌≤◌, Bool, true, false, List, [], ◌∷◌, ◌++◌, length, map, get_or, drop, Option, Some, None, refl, sym, ap, ◌∙◌, subst, arith, append_assoc, add-one, drop-cons}
use Rattle.std.specs.List.{All}
use Rattle.std.proofs.lemmas.List.{append-nil}
use Rattle.std.proofs.lemmas.List.Elements.{All-head, All-tail}
use Rattle.std.proofs.Math.ListN.{drop_of_length-le}
use Rattle.pi_model.specs.declared.describe.MethodDesc.{MethodDesc}
use Rattle.pi_model.specs.declared.numbers.NameNo.{NameNo}
use Rattle.pi_dextables.specs.declared.tables.MethodRow.{MethodRow}
use Rattle.pi_contents.specs.Asked.{is_direct}
use Rattle.pi_contents.specs.Named.{method_content}
use Rattle.pi_contents.specs.Naming.{named_by_method}
use Rattle.pi_classtables.specs.Numbers.{Pools, index_of}
use Rattle.pi_classtables.specs.Whole.{Method, for_each, method_row}
use Rattle.pi_dexrows.specs.declared.rows.MethodLists.{MethodLists}
use Rattle.pi_dexrows.specs.Taken.{behind_method}
use Rattle.pi_dexrows.specs.Rows.{method_numbers, methods_of, method_lists, directs_among, virtuals_among, with_row, lists_before}
use Rattle.pi_dexrows.proofs.CodeSteps.{other_numbers}

module _ (f : Method → Option MethodRow) (m : Method) (ms : List Method) where
  none_first : (d : Bool) (u : Option (List MethodRow)) → is_direct m.content ≡ d → f m ≡ None → for_each f (directs_among ms) ≡ u → method_lists f (m ∷ ms) ≡ None
  none_first true u e none first = rw (e, none) refl
  none_first false None e none first = rw (e, first) refl
  none_first false (Some ds) e none first = rw (e, first, none) refl

  -- no rows where one is not made
  pub no_row : f m ≡ None → method_lists f (m ∷ ms) ≡ None
  no_row none = none_first (is_direct m.content) (for_each f (directs_among ms)) refl none refl

  module _ (lists : MethodLists) (row : MethodRow) (made : f m ≡ Some row) where
    some_first : (d : Bool) (u v : Option (List MethodRow)) → is_direct m.content ≡ d → for_each f (directs_among ms) ≡ u → for_each f (virtuals_among ms) ≡ v
        → lists_before lists (method_lists f (m ∷ ms)) ≡ lists_before (with_row d row lists) (method_lists f ms)
    some_first true None v e first second = rw (e, made, first) refl
    some_first true (Some ds) None e first second = rw (e, made, first, second) refl
    some_first true (Some ds) (Some vs) e first second =
        rw (e, made, first, second) (λ i. Some (record { directs = sym (append_assoc lists.directs (row ∷ []) ds) i; virtuals = lists.virtuals ++ vs }))
    some_first false None v e first second = rw (e, first) refl
    some_first false (Some ds) None e first second = rw (e, made, first, second) refl
    some_first false (Some ds) (Some vs) e first second =
        rw (e, made, first, second) (λ i. Some (record { directs = lists.directs ++ ds; virtuals = sym (append_assoc lists.virtuals (row ∷ []) vs) i }))

    pub one_row : lists_before lists (method_lists f (m ∷ ms)) ≡ lists_before (with_row (is_direct m.content) row lists) (method_lists f ms)
    one_row = some_first (is_direct m.content) (for_each f (directs_among ms)) (for_each f (virtuals_among ms)) refl refl refl

module _ (text : NameNo → List ℕ) where
  abbrev method_at : List MethodDesc → List (List ℕ) → ℕ → MethodDesc → Method
  method_at ms ss i d = record { content = method_content text (get_or ms i d); sparse = get_or ss i [] }

  -- each method has the addresses at its place
  each_with_own : (P : Method → Type 0) (ms : List MethodDesc) (ss : List (List ℕ)) (i : ℕ) (d : MethodDesc) → All P (methods_of text ms ss) → i < length ms → P (method_at ms ss i d)
  each_with_own P [] ss i d all lt = absurd (omega arith)
  each_with_own P (m ∷ ms) [] zero d all lt = All-head P (record { content = method_content text m; sparse = [] }) (methods_of text ms []) all
  each_with_own P (m ∷ ms) (s ∷ ss) zero d all lt = All-head P (record { content = method_content text m; sparse = s }) (methods_of text ms ss) all
  each_with_own P (m ∷ ms) [] (suc i) d all lt =
      each_with_own P ms [] i d (All-tail P (record { content = method_content text m; sparse = [] }) (methods_of text ms []) all) (omega arith)
  each_with_own P (m ∷ ms) (s ∷ ss) (suc i) d all lt =
      each_with_own P ms ss i d (All-tail P (record { content = method_content text m; sparse = s }) (methods_of text ms ss) all) (omega arith)

  pub own_of : (P : Method → Type 0) (ms : List MethodDesc) (ss : List (List ℕ)) (i : ℕ) (m : MethodDesc) (listed : List ℕ) → All P (methods_of text ms ss) → i < length ms
      → m ≡ get_or ms i m → listed ≡ get_or ss i [] → P (record { content = method_content text m; sparse = listed })
  own_of P ms ss i m listed all lt is has =
      let here : P (record { content = method_content text (get_or ms i m); sparse = get_or ss i [] }) = each_with_own P ms ss i m all lt in
      let same : record { content = method_content text (get_or ms i m); sparse = get_or ss i [] } ≡ record { content = method_content text m; sparse = listed } =
      λ j. record { content = method_content text (sym is j); sparse = sym has j } in
      subst P same here

  own_first : (m : MethodDesc) (ms : List MethodDesc) (ss : List (List ℕ)) (i : ℕ)
      → methods_of text (m ∷ ms) (drop i ss) ≡ record { content = method_content text m; sparse = get_or ss i [] } ∷ methods_of text ms (drop (suc i) ss)
  own_first m ms [] zero = refl
  own_first m ms [] (suc i) = refl
  own_first m ms (s ∷ ss) zero = refl
  own_first m ms (s ∷ ss) (suc i) = own_first m ms ss i

-- the rows of the methods so far are made, and the numbers of the others are left
pub record MethodsMade (p : Pools) (text : NameNo → List ℕ) (class : List ℕ) (all : List MethodDesc) (sparse : List (List ℕ)) (i : ℕ) (left : List ℕ) (made : MethodLists) : Type 0 where
  pub numbers : left ≡ method_numbers p text class (drop i all)
  pub rows : lists_before made (method_lists (method_row p class) (methods_of text (drop i all) (drop i sparse))) ≡ method_lists (method_row p class) (methods_of text all sparse)

module _ (p : Pools) (text : NameNo → List ℕ) (class : List ℕ) (all : List MethodDesc) (sparse : List (List ℕ)) (i : ℕ) (left : List ℕ) (made : MethodLists)
    (m : MethodDesc) (is : m ≡ get_or all i m) (listed : List ℕ) (has : listed ≡ get_or sparse i []) (lt : i < length all) (before : MethodsMade p text class all sparse i left made) where
  abbrev own : Method
  own = record { content = method_content text m; sparse = listed }

  abbrev others : List Method
  others = methods_of text (drop (i + 1) all) (drop (i + 1) sparse)

  first_desc : drop i all ≡ m ∷ drop (i + 1) all
  first_desc = rw (add-one, drop-cons all i m) (ap (λ (x : MethodDesc). x ∷ drop (suc i) all) (sym is))

  first_method : methods_of text (drop i all) (drop i sparse) ≡ own ∷ others
  first_method =
      ap (λ (ms : List MethodDesc). methods_of text ms (drop i sparse)) first_desc
      ∙ own_first text m (drop (i + 1) all) sparse i
      ∙ (λ j. record { content = method_content text m; sparse = sym has j } ∷ methods_of text (drop (i + 1) all) (drop (sym (add-one i) j) sparse))

  pub numbers_first : left ≡ map (index_of p) (named_by_method class (method_content text m)) ++ method_numbers p text class (drop (i + 1) all)
  numbers_first = before.numbers ∙ ap (method_numbers p text class) first_desc

  pub none_made : method_row p class own ≡ None → None ≡ method_lists (method_row p class) (methods_of text all sparse)
  none_made none =
      let nothing = no_row (method_row p class) own others none in
      let now : lists_before made (method_lists (method_row p class) (own ∷ others)) ≡ method_lists (method_row p class) (methods_of text all sparse) =
      ap (λ (ms : List Method). lists_before made (method_lists (method_row p class) ms)) (sym first_method) ∙ before.rows in
      ap (lists_before made) (sym nothing) ∙ now

  pub one_made : (row : MethodRow) (after : List ℕ) (more : MethodLists) → method_row p class own ≡ Some row → more ≡ with_row (is_direct (method_content text m)) row made
      → after ≡ behind_method m left → MethodsMade p text class all sparse (i + 1) after more
  one_made row after more gives added behind = record {
    numbers = behind ∙ ap (behind_method m) numbers_first
        ∙ other_numbers p text m.code (method_numbers p text class (drop (i + 1) all));
    rows = ap (λ (lists : MethodLists). lists_before lists (method_lists (method_row p class) others)) added
        ∙ sym (one_row (method_row p class) own others made row gives)
        ∙ ap (λ (ms : List Method). lists_before made (method_lists (method_row p class) ms)) (sym first_method) ∙ before.rows;
  }

-- at the end all are made
pub all_made : (p : Pools) (text : NameNo → List ℕ) (class : List ℕ) (all : List MethodDesc) (sparse : List (List ℕ)) (i : ℕ) (left : List ℕ) (made : MethodLists)
    → length all ≤ i → MethodsMade p text class all sparse i left made → Some made ≡ method_lists (method_row p class) (methods_of text all sparse)
all_made p text class all sparse i left made le before =
    let none : drop i all ≡ [] = drop_of_length-le all le in
    let whole : lists_before made (method_lists (method_row p class) (methods_of text [] (drop i sparse))) ≡ method_lists (method_row p class) (methods_of text all sparse) =
    ap (λ (ms : List MethodDesc). lists_before made (method_lists (method_row p class) (methods_of text ms (drop i sparse)))) (sym none) ∙ before.rows in
    (λ i. Some (record { directs = sym (append-nil made.directs) i; virtuals = sym (append-nil made.virtuals) i })) ∙ whole
