-- Rows one behind the other.
use Rattle.std.proofs.Common.{◌≡◌, ℕ, zero, suc, List, [], ◌∷◌, ◌++◌, Option, Some, None, Bool, true, false, refl, ap, sym, subst, ◌∙◌, append_assoc}
use Rattle.std.specs.Prelude.{◌&&◌, if◌then◌else◌}
use Rattle.std.specs.List.{list_all}
use Rattle.std.proofs.lemmas.List.{append-nil}
use Rattle.pi_bytes.specs.Place.{Place}
use Rattle.pi_insn.specs.Chain.{◌>>=◌}
use Rattle.pi_format.specs.declared.lists.MemberList.{MemberList}
use Rattle.pi_format.specs.Rules.Rows.{MemberRow, is_behind, member_row, rows_from}
use Rattle.pi_format.specs.Rules.ClassData.{Owner, row_holds, rows_of_list}
use Rattle.pi_format.proofs.Held.{both}
use Rattle.pi_classdata.specs.Held.{held_row, rise}

-- a row that holds behind the one before it
abbrev pub held_first : (MemberRow → Bool) → Option ℕ → Option (MemberRow × Place) → Option (MemberRow × Place)
held_first holds before m = m >>= (λ row. if is_behind before row.0.id && holds row.0 then Some row else None)

-- that row and those behind it
abbrev pub first_and_others : (MemberRow → Bool) → MemberList → ℕ → Option (MemberRow × Place) → Option (List MemberRow × Place)
first_and_others holds list n m = m >>= (λ row. rows_from holds list n (Some row.0.id) row.1 >>= (λ others. Some (row.0 ∷ others.0, others.1)))

-- a test of what was read, apart from what comes behind it
pub test_apart : {A B : Type 0} (test : A → Bool) (f : A → Option B) (m : Option A)
    → (m >>= (λ x. if test x then f x else None)) ≡ ((m >>= (λ x. if test x then Some x else None)) >>= f)
test_apart test f None = refl
test_apart test f (Some x) = elim (test x) as (λ b. (if b then f x else None) ≡ ((if b then Some x else None) >>= f)) [ true ↦ refl | false ↦ refl ]

rows_step : (holds : MemberRow → Bool) (list : MemberList) (n : ℕ) (before : Option ℕ) (p : Place)
    → rows_from holds list (suc n) before p ≡ first_and_others holds list n (held_first holds before (member_row list before p))
rows_step holds list n before p =
    test_apart (λ row. is_behind before row.0.id && holds row.0) (λ row. rows_from holds list n (Some row.0.id) row.1 >>= (λ others. Some (row.0 ∷ others.0, others.1)))
    (member_row list before p)

-- those that were read, before the others where there are any
abbrev pub with_others : {A : Type 0} → List A → Option (List A × Place) → Option (List A × Place)
with_others done None = None
with_others done (Some others) = Some (done ++ others.0, others.1)

joined_more : {A : Type 0} (done : List A) (x : A) (rest : Option (List A × Place))
    → with_others (done ++ x ∷ []) rest ≡ with_others done (rest >>= (λ others. Some (x ∷ others.0, others.1)))
joined_more done x None = refl
joined_more done x (Some others) = ap (λ all. Some (all, others.1)) (append_assoc done (x ∷ []) others.0)

pub rows_more : (file : List ℕ) (o : Owner) (list : MemberList) (done : List MemberRow) (n more : ℕ) (before : Option ℕ) (p q : Place) (row : MemberRow)
    → n ≡ suc more → held_row file o list before p ≡ Some (row, q)
    → with_others (done ++ row ∷ []) (rows_from (row_holds file o list) list more (Some row.id) q)
    ≡ with_others done (rows_from (row_holds file o list) list n before p)
unfolding held_row
rows_more file o list done n more before p q row e is =
    joined_more done row (rows_from (row_holds file o list) list more (Some row.id) q)
    ∙ ap (with_others done) (sym (ap (λ k. rows_from (row_holds file o list) list k before p) e
    ∙ rows_step (row_holds file o list) list more before p
    ∙ ap (first_and_others (row_holds file o list) list more) is))

pub rows_stop : (file : List ℕ) (o : Owner) (list : MemberList) (done : List MemberRow) (n more : ℕ) (before : Option ℕ) (p : Place)
    → n ≡ suc more → held_row file o list before p ≡ None
    → with_others done (rows_from (row_holds file o list) list n before p) ≡ None
unfolding held_row
rows_stop file o list done n more before p e is =
    ap (with_others done) (ap (λ k. rows_from (row_holds file o list) list k before p) e
    ∙ rows_step (row_holds file o list) list more before p
    ∙ ap (first_and_others (row_holds file o list) list more) is)

pub rows_done : (file : List ℕ) (o : Owner) (list : MemberList) (done : List MemberRow) (n : ℕ) (before : Option ℕ) (p : Place)
    → n ≡ zero → with_others done (rows_from (row_holds file o list) list n before p) ≡ Some (done, p)
rows_done file o list done n before p e = rw e (ap (λ all. Some (all, p)) (append-nil done))

-- what holds of rows that were read
pub record AreGood (holds : MemberRow → Bool) (before : Option ℕ) (rows : List MemberRow) : Type 0 where
  pub rising : rise before rows ≡ true
  pub all : list_all holds rows ≡ true

behind_row : MemberRow → Option (List MemberRow × Place) → Option (List MemberRow × Place)
behind_row row rest = rest >>= (λ others. Some (row ∷ others.0, others.1))

more_good : (holds : MemberRow → Bool) (before : Option ℕ) (row : MemberRow) (rest : Option (List MemberRow × Place)) (x : List MemberRow × Place)
    → (is_behind before row.id && holds row) ≡ true
    → ((others : List MemberRow × Place) → rest ≡ Some others → AreGood holds (Some row.id) others.0)
    → behind_row row rest ≡ Some x
    → AreGood holds before x.0
unfolding behind_row
more_good holds before row None x b later e = cc
more_good holds before row (Some others) x b later e =
    let good = later others refl in
    let here = both (is_behind before row.id) (holds row) b in
    let is : ◌≡◌ {A = List MemberRow × Place} (row ∷ others.0, others.1) x = cc in
    subst (λ (y : List MemberRow × Place). AreGood holds before y.0) is (record { rising = rw here.0 good.rising; all = rw here.1 good.all })

one_good : (holds : MemberRow → Bool) (before : Option ℕ) (m : Option (MemberRow × Place)) (row : MemberRow × Place) → held_first holds before m ≡ Some row
    → (is_behind before row.0.id && holds row.0) ≡ true
one_good holds before None row e = cc
one_good holds before (Some x) row e = kept (is_behind before x.0.id && holds x.0) refl e
  where
    kept : (b : Bool) → (is_behind before x.0.id && holds x.0) ≡ b → (if b then Some x else None) ≡ Some row
        → (is_behind before row.0.id && holds row.0) ≡ true
    kept true is e =
        let same : x ≡ row = cc in
        subst (λ (y : MemberRow × Place). (is_behind before y.0.id && holds y.0) ≡ true) same is
    kept false is e = cc

onward_good : (holds : MemberRow → Bool) (list : MemberList) (n : ℕ) (before : Option ℕ) (m : Option (MemberRow × Place)) (x : List MemberRow × Place)
    → ((row : MemberRow × Place) → m ≡ Some row → (is_behind before row.0.id && holds row.0) ≡ true)
    → ((first : Option ℕ) (p : Place) (others : List MemberRow × Place) → rows_from holds list n first p ≡ Some others → AreGood holds first others.0)
    → first_and_others holds list n m ≡ Some x
    → AreGood holds before x.0
unfolding behind_row
onward_good holds list n before None x here later e = cc
onward_good holds list n before (Some row) x here later e =
    more_good holds before row.0 (rows_from holds list n (Some row.0.id) row.1) x (here row refl) (later (Some row.0.id) row.1) e

-- rows rise, and each of them holds
pub rows_good : (holds : MemberRow → Bool) (list : MemberList) (n : ℕ) (before : Option ℕ) (p : Place) (x : List MemberRow × Place)
    → rows_from holds list n before p ≡ Some x → AreGood holds before x.0
rows_good holds list zero before p x e =
    let is : ◌≡◌ {A = List MemberRow × Place} ([], p) x = cc in
    subst (λ (y : List MemberRow × Place). AreGood holds before y.0) is (record { rising = refl; all = refl })
rows_good holds list (suc n) before p x e =
    onward_good holds list n before (held_first holds before (member_row list before p)) x
    (one_good holds before (member_row list before p))
    (λ first at others is. rows_good holds list n first at others is)
    (sym (rows_step holds list n before p) ∙ e)

pub rows_rise : (file : List ℕ) (o : Owner) (list : MemberList) (n : ℕ) (p : Place) (rows : List MemberRow) (q : Place)
    → rows_of_list file o list n p ≡ Some (rows, q) → rise None rows ≡ true
rows_rise file o list n p rows q e = (rows_good (row_holds file o list) list n None p (rows, q) e).rising
