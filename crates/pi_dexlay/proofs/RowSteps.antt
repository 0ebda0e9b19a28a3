-- One more row of class data, and the class data of a class.
use Rattle.std.proofs.Common.{◌≡◌, ℕ, suc, ◌+◌, ◌<◌, List, [], ◌∷◌, ◌++◌, length, drop, get_or, map, Option, Some, None, refl, sym, ap, ◌∙◌, arith, append_assoc}
use Rattle.std.specs.Prelude.{Bool, true, false, ◌==◌, ◌&&◌, if◌then◌else◌}
use Rattle.std.proofs.lemmas.Bool.Decides.{nat_tests}
use Rattle.std.proofs.lemmas.List.{drop_more, drop-drop, length-map, append-nil}
use Rattle.pi_format.specs.declared.lists.MemberList.TheVariants.{StaticFields, InstanceFields, DirectMethods, VirtualMethods}
use Rattle.pi_format.specs.declared.lists.MemberList.{MemberList}
use Rattle.pi_dextables.specs.declared.tables.FieldRow.{FieldRow}
use Rattle.pi_dextables.specs.declared.tables.MethodRow.{MethodRow}
use Rattle.pi_dextables.specs.declared.tables.Body.{Body}
use Rattle.pi_dextables.specs.declared.tables.Class.{Class}
use Rattle.pi_parts.specs.Lebs.{uleb_bytes}
use Rattle.pi_dexlay.proofs.Steps.{join4}
use Rattle.pi_dextables.specs.Rows.{bodies_of, class_rows_with, count_bytes, has_no_rows, class_item, class_data, bodies_in, with_body, offsets_left, field_row, method_row, method_rows, row_bytes, rows_bytes}

pub field_step : (list : MemberList) (before : Option ℕ) (i : ℕ) (fields : List FieldRow) (x : FieldRow) (old new whole : List ℕ) → i < length fields → x ≡ get_or fields i x
    → new ≡ old ++ row_bytes list before (field_row x) → old ++ rows_bytes list before (map field_row (drop i fields)) ≡ whole
    → new ++ rows_bytes list (Some x.id) (map field_row (drop (i + 1) fields)) ≡ whole
field_step list before i fields x old new whole lt is put laid =
    let d : drop i fields ≡ x ∷ drop (i + 1) fields = drop_more fields i x lt ∙ ap (λ z. z ∷ drop (i + 1) fields) (sym is) in
    ap (λ z. z ++ rows_bytes list (Some x.id) (map field_row (drop (i + 1) fields))) put
    ∙ append_assoc old (row_bytes list before (field_row x)) (rows_bytes list (Some x.id) (map field_row (drop (i + 1) fields)))
    ∙ ap (λ z. old ++ rows_bytes list before (map field_row z)) (sym d) ∙ laid

pub method_step : (list : MemberList) (before : Option ℕ) (i : ℕ) (methods : List MethodRow) (x : MethodRow) (offsets left old new whole : List ℕ) → i < length methods → x ≡ get_or methods i x
    → new ≡ old ++ row_bytes list before (method_row offsets x) → left ≡ offsets_left x.code offsets
    → old ++ rows_bytes list before (method_rows offsets (drop i methods)) ≡ whole
    → new ++ rows_bytes list (Some x.id) (method_rows left (drop (i + 1) methods)) ≡ whole
method_step list before i methods x offsets left old new whole lt is put next laid =
    let d : drop i methods ≡ x ∷ drop (i + 1) methods = drop_more methods i x lt ∙ ap (λ z. z ∷ drop (i + 1) methods) (sym is) in
    ap (λ z. new ++ rows_bytes list (Some x.id) (method_rows z (drop (i + 1) methods))) next
    ∙ ap (λ z. z ++ rows_bytes list (Some x.id) (method_rows (offsets_left x.code offsets) (drop (i + 1) methods))) put
    ∙ append_assoc old (row_bytes list before (method_row offsets x)) (rows_bytes list (Some x.id) (method_rows (offsets_left x.code offsets) (drop (i + 1) methods)))
    ∙ ap (λ z. old ++ rows_bytes list before (method_rows offsets z)) (sym d) ∙ laid

one_left : (code : Option Body) (bodies : List Body) (offsets : List ℕ) → drop (length bodies) (offsets_left code offsets) ≡ drop (length (with_body code bodies)) offsets
one_left None bodies offsets = refl
one_left (Some b) bodies offsets = drop-drop (length bodies) 1 offsets ∙ ap (λ k. drop k offsets) (let e : 1 + length bodies ≡ suc (length bodies) = omega arith in e)

pub left_step : (i : ℕ) (methods : List MethodRow) (x : MethodRow) (offsets left all : List ℕ) → i < length methods → x ≡ get_or methods i x
    → left ≡ offsets_left x.code offsets → drop (length (bodies_in (drop i methods))) offsets ≡ all
    → drop (length (bodies_in (drop (i + 1) methods))) left ≡ all
left_step i methods x offsets left all lt is next laid =
    let d : drop i methods ≡ x ∷ drop (i + 1) methods = drop_more methods i x lt ∙ ap (λ z. z ∷ drop (i + 1) methods) (sym is) in
    ap (drop (length (bodies_in (drop (i + 1) methods)))) next ∙ one_left x.code (bodies_in (drop (i + 1) methods)) offsets
    ∙ ap (λ z. drop (length (bodies_in z)) offsets) (sym d) ∙ laid

-- the rows of a class
length_method_rows : (offsets : List ℕ) (methods : List MethodRow) → length (method_rows offsets methods) ≡ length methods
length_method_rows offsets [] = refl
length_method_rows offsets (m ∷ ms) = ap suc (length_method_rows (offsets_left m.code offsets) ms)

pub counts_of : (c : Class) (offsets : List ℕ)
    → count_bytes (class_rows_with offsets c) ≡ uleb_bytes (length c.statics) ++ (uleb_bytes (length c.instances) ++ (uleb_bytes (length c.directs) ++ uleb_bytes (length c.virtuals)))
counts_of c offsets =
    let later = drop (length (bodies_in c.directs)) offsets in
    rw (length-map c.statics field_row, length-map c.instances field_row, length_method_rows offsets c.directs, length_method_rows later c.virtuals) refl

-- the tests of its fields and of its methods say whether a class has no members
four_tests : (a b c d : Bool) → (a && b) && (c && d) ≡ a && (b && (c && d))
four_tests true b c d = refl
four_tests false b c d = refl

pub no_rows : (c : Class) (offsets : List ℕ)
    → has_no_rows (class_rows_with offsets c) ≡ ((length c.statics == 0) && (length c.instances == 0)) && ((length c.directs == 0) && (length c.virtuals == 0))
no_rows c offsets =
    let later = drop (length (bodies_in c.directs)) offsets in
    rw (length-map c.statics field_row, length-map c.instances field_row, length_method_rows offsets c.directs, length_method_rows later c.virtuals)
    (sym (four_tests (length c.statics == 0) (length c.instances == 0) (length c.directs == 0) (length c.virtuals == 0)))

-- a class without rows has no codes
none_of : {X : Type 0} (xs : List X) → length xs ≡ 0 → xs ≡ []
none_of [] e = refl
none_of (x ∷ xs) e = absurd (omega arith)

last_two : (a b c d : Bool) → a && (b && (c && d)) ≡ true → (c ≡ true) × (d ≡ true)
last_two true true true true e = (refl, refl)
last_two true true true false e = absurd cc
last_two true true false d e = absurd cc
last_two true false c d e = absurd cc
last_two false b c d e = absurd cc

is_zero : (n : ℕ) → (n == 0) ≡ true → n ≡ 0
is_zero n e = grind (arith, nat_tests)

pub no_data : (c : Class) (offsets out : List ℕ) (b : Bool) → b ≡ true → b ≡ has_no_rows (class_rows_with offsets c) → out ≡ out ++ class_data (class_rows_with offsets c)
unfolding class_data
no_data c offsets out b t e = sym (ap (λ z. out ++ (if z then [] else class_item (class_rows_with offsets c))) (sym e ∙ t) ∙ append-nil out)

pub no_codes : (c : Class) (offsets : List ℕ) (b : Bool) → b ≡ true → b ≡ has_no_rows (class_rows_with offsets c) → offsets ≡ drop (length (bodies_of c)) offsets
no_codes c offsets b t e =
    let later = drop (length (bodies_in c.directs)) offsets in
    let tests = last_two (length (map field_row c.statics) == 0) (length (map field_row c.instances) == 0) (length (method_rows offsets c.directs) == 0) (length (method_rows later c.virtuals) == 0) (sym e ∙ t) in
    let d : c.directs ≡ [] = none_of c.directs (sym (length_method_rows offsets c.directs) ∙ is_zero (length (method_rows offsets c.directs)) tests.0) in
    let v : c.virtuals ≡ [] = none_of c.virtuals (sym (length_method_rows later c.virtuals) ∙ is_zero (length (method_rows later c.virtuals)) tests.1) in
    sym (ap (λ z. drop (length (bodies_in z ++ bodies_in c.virtuals)) offsets) d ∙ ap (λ z. drop (length (bodies_in z)) offsets) v)

pub data_put : (c : Class) (offsets left old o1 o2 o3 o4 new : List ℕ) (b : Bool) → b ≡ false → b ≡ has_no_rows (class_rows_with offsets c)
    → o1 ≡ old ++ count_bytes (class_rows_with offsets c)
    → o2 ≡ o1 ++ rows_bytes StaticFields None (map field_row c.statics)
    → o3 ≡ o2 ++ rows_bytes InstanceFields None (map field_row c.instances)
    → o4 ≡ o3 ++ rows_bytes DirectMethods None (method_rows offsets c.directs)
    → left ≡ drop (length (bodies_in c.directs)) offsets
    → new ≡ o4 ++ rows_bytes VirtualMethods None (method_rows left c.virtuals)
    → new ≡ old ++ class_data (class_rows_with offsets c)
unfolding class_data class_item
data_put c offsets left old o1 o2 o3 o4 new b f e h1 h2 h3 h4 hl h5 =
    let rows = class_rows_with offsets c in
    let sb = rows_bytes StaticFields None rows.statics in
    let ib = rows_bytes InstanceFields None rows.instances in
    let db = rows_bytes DirectMethods None rows.directs in
    let vb = rows_bytes VirtualMethods None rows.virtuals in
    let last : new ≡ o4 ++ vb = h5 ∙ ap (λ z. o4 ++ rows_bytes VirtualMethods None (method_rows z c.virtuals)) hl in
    let four : o4 ≡ old ++ (count_bytes rows ++ (sb ++ (ib ++ db))) = join4 old (count_bytes rows) sb ib db o1 o2 o3 o4 h1 h2 h3 h4 in
    let all : (count_bytes rows ++ (sb ++ (ib ++ db))) ++ vb ≡ count_bytes rows ++ (sb ++ (ib ++ (db ++ vb))) = simp append_assoc refl in
    last ∙ ap (λ z. z ++ vb) four ∙ append_assoc old (count_bytes rows ++ (sb ++ (ib ++ db))) vb ∙ ap (λ z. old ++ z) all
    ∙ ap (λ z. old ++ (if z then [] else class_item rows)) (sym f ∙ e)
