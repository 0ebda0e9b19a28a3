-- The lowest place that the methods with code of a file give: there is none where the code of each method of the tables gives
-- none.
use Rattle.std.proofs.Common.{◌≡◌, ℕ, zero, suc, ◌+◌, ◌<◌, ◌≤◌, List, [], ◌∷◌, ◌++◌, length, Option, Some, None, Bool, true, false, inl, inr, refl, subst, arith}
use Rattle.std.specs.Prelude.{◌==◌, All, IfSome, if◌then◌else◌}
use Rattle.std.proofs.lemmas.List.Elements.{All-head, All-tail, All-cons, All-nil, All-append}
use Rattle.std.proofs.lemmas.Option.{slice_get_cases}
use Rattle.pi_format.specs.Tables.{count_at, class_defs}
use Rattle.pi_format.specs.Rules.Lowest.{lowest_from, lowest_of}
use Rattle.pi_format.specs.Rules.Rows.{MemberRow}
use Rattle.pi_format.specs.Rules.ClassData.{ClassRows, rows_in, rows_of, methods_in}
use Rattle.pi_format.specs.Rules.CodeItems.{of_code, lowest_in_code}
use Rattle.pi_format.proofs.Every.{all_left, all_right}
use Rattle.pi_dextables.specs.declared.tables.Body.{Body}
use Rattle.pi_dextables.specs.declared.tables.Class.{Class}
use Rattle.pi_dextables.specs.declared.tables.MethodRow.{MethodRow}
use Rattle.pi_dextables.specs.declared.tables.Tables.{Tables}
use Rattle.pi_dextables.specs.Rows.{with_body, bodies_in, bodies_of, all_bodies}
use Rattle.pi_dextables.proofs.Each.{all_got}
use Rattle.pi_dextables.specs.Said.{held, BodySaid, CodeSaid, MethodSaid, MethodsSaid, ClassSaid, IsSaid}

-- numbers and things that give no place
pub none_from : (place : ℕ → Option ℕ) (i n : ℕ) → ((k : ℕ) → i ≤ k → k < i + n → place k ≡ None) → lowest_from place i n ≡ None
none_from place i zero none = refl
none_from place i (suc n) none =
    rw (none i (omega arith) (omega arith)) (none_from place (i + 1) n (λ k le lt. none k (omega (arith, le)) (omega (arith, lt))))

none_of : {A : Type 0} (place : A → Option ℕ) (xs : List A) → All (λ x. place x ≡ None) xs → lowest_of place xs ≡ None
none_of place [] all = refl
none_of place (x ∷ xs) all =
    rw (All-head (λ y. place y ≡ None) x xs all) (none_of place xs (All-tail (λ y. place y ≡ None) x xs all))

-- a code of the tables, and the row of the file by which it stands there
pub record CodeStands (file : List ℕ) (row : MemberRow) (m : MethodRow) (b : Body) : Type 0 where
  pub said : MethodSaid file row m
  pub has : m.code ≡ Some b
  pub body : BodySaid file row.code b

-- what gives no place for each code of which something holds
abbrev pub NoneFor : List ℕ → (MemberRow → Option ℕ) → (MethodRow → Type 0) → Type 0
NoneFor file place Good = (row : MemberRow) (m : MethodRow) (b : Body) → CodeStands file row m b → Good m → place row ≡ None

if_none : (b : Bool) (o : Option ℕ) → o ≡ None → (if b then None else o) ≡ None
if_none true o e = refl
if_none false o e = e

row_gives : (file : List ℕ) (place : MemberRow → Option ℕ) (Good : MethodRow → Type 0) → NoneFor file place Good
    → (row : MemberRow) (m : MethodRow) → MethodSaid file row m → Good m → of_code place row ≡ None
row_gives file place Good none row m said good = by_code m.code refl said.code
  where
    by_code : (code : Option Body) → m.code ≡ code → CodeSaid file row.code code → of_code place row ≡ None
    by_code None is at = rw at refl
    by_code (Some b) is body = if_none (row.code == 0) (place row) (none row m b (record { said = said; has = is; body = body }) good)

rows_give : (file : List ℕ) (place : MemberRow → Option ℕ) (Good : MethodRow → Type 0) → NoneFor file place Good
    → (rows : List MemberRow) (ms : List MethodRow) → MethodsSaid file rows ms → All Good ms → All (λ row. of_code place row ≡ None) rows
rows_give file place Good none [] [] said all = All-nil (λ (row : MemberRow). of_code place row ≡ None)
rows_give file place Good none (row ∷ rows) (m ∷ ms) said all =
    All-cons (λ (r : MemberRow). of_code place r ≡ None) row rows
    (row_gives file place Good none row m said.0 (All-head Good m ms all)) (rows_give file place Good none rows ms said.1 (All-tail Good m ms all))
rows_give file place Good none [] (m ∷ ms) said all = absurd said
rows_give file place Good none (row ∷ rows) [] said all = absurd said

-- the rows of a class, of which none count where they do not hold
rows_held : (P : MemberRow → Type 0) (holds : Bool) (rows : ClassRows) → All P (methods_in rows) → All P (methods_in (rows_in (held holds rows)))
rows_held P true rows all = all
rows_held P false rows all = All-nil P

class_gives : (file : List ℕ) (place : MemberRow → Option ℕ) (Good : MethodRow → Type 0) → NoneFor file place Good
    → (i : ℕ) (c : Class) → ClassSaid file i c → All Good (c.directs ++ c.virtuals) → lowest_of (of_code place) (methods_in (rows_of file i)) ≡ None
class_gives file place Good none i c said all =
    let P = λ (row : MemberRow). of_code place row ≡ None in
    let directs = rows_give file place Good none said.rows.directs c.directs said.directs (all_left Good c.directs c.virtuals all) in
    let virtuals = rows_give file place Good none said.rows.virtuals c.virtuals said.virtuals (all_right Good c.directs c.virtuals all) in
    let rows : All P (methods_in said.rows) = All-append P said.rows.directs said.rows.virtuals directs virtuals in
    none_of (of_code place) (methods_in (rows_of file i)) (rw said.listed (rows_held P _ said.rows rows))

-- something holds of each method of the classes
abbrev pub EachMethod : (MethodRow → Type 0) → List Class → Type 0
EachMethod Good cs = All (λ (c : Class). All Good (c.directs ++ c.virtuals)) cs

pub none_in_code : (file : List ℕ) (t : Tables) (place : MemberRow → Option ℕ) (Good : MethodRow → Type 0) → IsSaid file t
    → NoneFor file place Good → EachMethod Good t.classes → lowest_in_code file place ≡ None
none_in_code file t place Good said none all =
    none_from (λ i. lowest_of (of_code place) (methods_in (rows_of file i))) 0 (count_at file class_defs) (λ i le lt. by_class i (omega (arith, lt, said.classes)))
  where
    by_class : (i : ℕ) → i < length t.classes → lowest_of (of_code place) (methods_in (rows_of file i)) ≡ None
    by_class i lt =
        elim ((slice_get_cases t.classes i).1) [
          | inl w ↦ class_gives file place Good none i w.0 (said.class i w.0 w.2) (all_got (λ (c : Class). All Good (c.directs ++ c.virtuals)) t.classes i w.0 all w.2)
          | inr w ↦ absurd (omega (arith, lt, w.0))
        ]

-- the same where the code alone decides
abbrev pub NoneForBody : List ℕ → (MemberRow → Option ℕ) → (Body → Type 0) → Type 0
NoneForBody file place P = (row : MemberRow) (b : Body) → BodySaid file row.code b → P b → place row ≡ None

-- the code of each method of the classes, if it has one
abbrev pub EachCode : (Body → Type 0) → List Class → Type 0
EachCode P cs = EachMethod (λ (m : MethodRow). IfSome m.code P) cs

pub none_in_bodies : (file : List ℕ) (t : Tables) (place : MemberRow → Option ℕ) (P : Body → Type 0) → IsSaid file t
    → NoneForBody file place P → EachCode P t.classes → lowest_in_code file place ≡ None
none_in_bodies file t place P said none all =
    none_in_code file t place (λ (m : MethodRow). IfSome m.code P) said
    (λ row m b stands good. none row b stands.body (subst (λ (code : Option Body). IfSome code P) stands.has good)) all

-- what holds of all codes holds of that of each method
first_body : (P : Body → Type 0) (code : Option Body) (bodies : List Body) → All P (with_body code bodies) → IfSome code P × All P bodies
first_body P None bodies all = (tt, all)
first_body P (Some b) bodies all = (All-head P b bodies all, All-tail P b bodies all)

methods_have : (P : Body → Type 0) (ms : List MethodRow) → All P (bodies_in ms) → All (λ m. IfSome m.code P) ms
methods_have P [] all = All-nil (λ (m : MethodRow). IfSome m.code P)
methods_have P (m ∷ ms) all =
    let r = first_body P m.code (bodies_in ms) all in
    All-cons (λ (n : MethodRow). IfSome n.code P) m ms r.0 (methods_have P ms r.1)

pub classes_have : (P : Body → Type 0) (cs : List Class) → All P (all_bodies cs) → EachCode P cs
classes_have P [] all = All-nil (λ (c : Class). All (λ (m : MethodRow). IfSome m.code P) (c.directs ++ c.virtuals))
classes_have P (c ∷ cs) all =
    let here : All P (bodies_of c) = all_left P (bodies_of c) (all_bodies cs) all in
    All-cons (λ (d : Class). All (λ (m : MethodRow). IfSome m.code P) (d.directs ++ d.virtuals)) c cs
    (All-append (λ (m : MethodRow). IfSome m.code P) c.directs c.virtuals
    (methods_have P c.directs (all_left P (bodies_in c.directs) (bodies_in c.virtuals) here))
    (methods_have P c.virtuals (all_right P (bodies_in c.directs) (bodies_in c.virtuals) here)))
    (classes_have P cs (all_right P (bodies_of c) (all_bodies cs) all))
