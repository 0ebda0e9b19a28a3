-- What rows and values that hold name is there.
use Rattle.std.proofs.Common.{◌≡◌, ℕ, zero, suc, ◌<◌, List, [], ◌∷◌, Option, Some, None, Bool, true, false, refl, sym, subst, ◌∙◌, arith}
use Rattle.std.specs.Prelude.{◌==◌, ◌&&◌, nat_lt, codes, if◌then◌else◌}
use Rattle.std.specs.List.{list_all, All}
use Rattle.std.proofs.lemmas.Bool.Decides.{nat_tests}
use Rattle.pi_bytes.specs.Place.{Place}
use Rattle.pi_insn.specs.Chain.{◌>>=◌}
use Rattle.pi_insn.proofs.Steps.{bind_some}
use Rattle.pi_format.specs.declared.lists.MemberList.{MemberList}
use Rattle.pi_format.specs.declared.lists.MemberList.TheVariants.{StaticFields, InstanceFields, DirectMethods, VirtualMethods}
use Rattle.pi_format.specs.Tables.{count_at, string_ids, type_ids, field_ids, method_ids}
use Rattle.pi_format.specs.Rules.Members.{member_entry}
use Rattle.pi_format.specs.Rules.Classes.{class_entry}
use Rattle.pi_format.specs.Rules.Rows.{MemberRow, readable}
use Rattle.pi_format.specs.Rules.ClassData.{ClassRows, Owner, owner, class_data_at, class_values_at, no_rows, row_counts, rows_at, class_rows, rows_in, rows_of, rows_of_list, row_holds}
use Rattle.pi_format.specs.Rules.Strings.{type_units}
use Rattle.pi_format.specs.Rules.Values.{EncodedValue, encoded_value, is_reference, names_reference, value_fits, field_type, values_from, values_at, class_values}
use Rattle.pi_model.specs.Texts.{same_text}
use Rattle.pi_bytes.specs.Leb.{uleb_at}
use Rattle.pi_format.proofs.Held.{both, below}
use Rattle.pi_format.proofs.Every.{all_nothing, all_more}
use Rattle.pi_classdata.specs.There.{IsMember, AreMembers, NamesThere}
use Rattle.pi_classdata.specs.Held.{held_value}
use Rattle.pi_classdata.proofs.Chains.{rows_good}
use Rattle.pi_classdata.proofs.Fits.{values_step}

chosen : {A : Type 0} (b : Bool) (x y : A) → (if b then Some x else None) ≡ Some y → x ≡ y
chosen true x y e = cc
chosen false x y e = cc

-- each row of the four lists holds
pub record AllHold (file : List ℕ) (o : Owner) (rows : ClassRows) : Type 0 where
  pub statics : list_all (row_holds file o StaticFields) rows.statics ≡ true
  pub instances : list_all (row_holds file o InstanceFields) rows.instances ≡ true
  pub directs : list_all (row_holds file o DirectMethods) rows.directs ≡ true
  pub virtuals : list_all (row_holds file o VirtualMethods) rows.virtuals ≡ true

all_of : (file : List ℕ) (o : Owner) (list : MemberList) (n : ℕ) (p : Place) (x : List MemberRow × Place) → rows_of_list file o list n p ≡ Some x
    → list_all (row_holds file o list) x.0 ≡ true
all_of file o list n p x e = (rows_good (row_holds file o list) list n None p x e).all

pub rows_hold : (file : List ℕ) (o : Owner) (p : Place) (rows : ClassRows) → rows_at file o p ≡ Some rows → AllHold file o rows
unfolding rows_at
rows_hold file o p rows e =
    let counts = bind_some (row_counts p) _ rows e in
    let n = counts.0.0 in
    let statics = bind_some (rows_of_list file o StaticFields n.statics counts.0.1) _ rows counts.1.1 in
    let instances = bind_some (rows_of_list file o InstanceFields n.instances statics.0.1) _ rows statics.1.1 in
    let directs = bind_some (rows_of_list file o DirectMethods n.directs instances.0.1) _ rows instances.1.1 in
    let virtuals = bind_some (rows_of_list file o VirtualMethods n.virtuals directs.0.1) _ rows directs.1.1 in
    let is = chosen _ _ rows virtuals.1.1 in
    subst (AllHold file o) is (record {
      statics = all_of file o StaticFields n.statics counts.0.1 statics.0 statics.1.0;
      instances = all_of file o InstanceFields n.instances statics.0.1 instances.0 instances.1.0;
      directs = all_of file o DirectMethods n.directs instances.0.1 directs.0 directs.1.0;
      virtuals = all_of file o VirtualMethods n.virtuals directs.0.1 virtuals.0 virtuals.1.0;
    })

-- a fact of all elements of which a test holds
pub all_from : {A : Type 0} (test : A → Bool) (P : A → Type 0) → ((x : A) → test x ≡ true → P x) → (xs : List A) → list_all test xs ≡ true → All P xs
all_from test P step [] e k d lt = absurd (omega arith)
all_from test P step (x ∷ xs) e zero d lt = step x (both (test x) (list_all test xs) e).0
all_from test P step (x ∷ xs) e (suc k) d lt = all_from test P step xs (both (test x) (list_all test xs) e).1 k d (omega arith)

same : (a b : ℕ) → (a == b) ≡ true → a ≡ b
same a b e = grind (arith, nat_tests)

member_of : (file : List ℕ) (table class : ℕ) (row : MemberRow) (rest : Bool)
    → ((nat_lt row.id (count_at file table) && ((member_entry file table row.id).class == class)) && rest) ≡ true → IsMember file table class row
member_of file table class row rest e =
    let of = (both (nat_lt row.id (count_at file table) && ((member_entry file table row.id).class == class)) rest e).0 in
    let parts = both (nat_lt row.id (count_at file table)) ((member_entry file table row.id).class == class) of in
    record { there = below row.id (count_at file table) parts.0; owned = same (member_entry file table row.id).class class parts.1 }

-- the lists of rows that hold have members
pub members_of : (file : List ℕ) (o : Owner) (rows : ClassRows) → AllHold file o rows → AreMembers file o.class rows
members_of file o rows all = record {
  statics = all_from (row_holds file o StaticFields) (IsMember file field_ids o.class) (λ row e. member_of file field_ids o.class row _ e) rows.statics all.statics;
  instances = all_from (row_holds file o InstanceFields) (IsMember file field_ids o.class) (λ row e. member_of file field_ids o.class row _ e) rows.instances all.instances;
  directs = all_from (row_holds file o DirectMethods) (IsMember file method_ids o.class) (λ row e. member_of file method_ids o.class row _ e) rows.directs all.directs;
  virtuals = all_from (row_holds file o VirtualMethods) (IsMember file method_ids o.class) (λ row e. member_of file method_ids o.class row _ e) rows.virtuals all.virtuals;
}

no_members : (file : List ℕ) (class : ℕ) → AreMembers file class no_rows
no_members file class = record { statics = all_nothing _; instances = all_nothing _; directs = all_nothing _; virtuals = all_nothing _ }

members_if : (file : List ℕ) (o : Owner) (b : Bool) (p : Place) (rows : ClassRows) → (if b then Some no_rows else rows_at file o p) ≡ Some rows
    → AreMembers file o.class rows
members_if file o true p rows e =
    let is : no_rows ≡ rows = cc in
    subst (AreMembers file o.class) is (no_members file o.class)
members_if file o false p rows e = members_of file o rows (rows_hold file o p rows e)

pub rows_members : (file : List ℕ) (i : ℕ) (rows : ClassRows) → class_rows file i ≡ Some rows → AreMembers file (class_entry file i).class rows
unfolding class_rows
rows_members file i rows e = members_if file (owner file i) (class_data_at file i == 0) (record { bytes = file; at = class_data_at file i }) rows e

in_members : (file : List ℕ) (i : ℕ) (o : Option ClassRows) → class_rows file i ≡ o → AreMembers file (class_entry file i).class (rows_in o)
in_members file i None e = no_members file (class_entry file i).class
in_members file i (Some rows) e = rows_members file i rows e

pub of_members : (file : List ℕ) (i : ℕ) → AreMembers file (class_entry file i).class (rows_of file i)
of_members file i = in_members file i (class_rows file i) refl

pub statics_there : (file : List ℕ) (i : ℕ) → All (λ (field : MemberRow). field.id < count_at file field_ids) (rows_of file i).statics
statics_there file i k d lt = ((of_members file i).statics k d lt).there

-- what values name
string_below : (file ty : List ℕ) (arg number : ℕ) → value_fits file ty (record { kind = 0x17; arg = arg; number = number }) ≡ true → number < count_at file string_ids
unfolding value_fits
string_below file ty arg number e =
    let a = both (same_text (codes "Ljava/lang/String;") ty) (nat_lt arg 4 && nat_lt number (count_at file string_ids)) e in
    below number (count_at file string_ids) (both (nat_lt arg 4) (nat_lt number (count_at file string_ids)) a.1).1

class_below : (file ty : List ℕ) (arg number : ℕ) → value_fits file ty (record { kind = 0x18; arg = arg; number = number }) ≡ true → number < count_at file type_ids
unfolding value_fits
class_below file ty arg number e =
    let a = both (same_text (codes "Ljava/lang/Class;") ty) (nat_lt arg 4 && names_reference file number) e in
    let b = both (nat_lt arg 4) (names_reference file number) a.1 in
    below number (count_at file type_ids) (both (nat_lt number (count_at file type_ids)) (is_reference (type_units file number)) b.1).0

value_there : (file ty : List ℕ) (v : EncodedValue) → value_fits file ty v ≡ true → NamesThere file v
value_there file ty v e = record {
  string = λ is. string_below file ty v.arg v.number (subst (λ (k : ℕ). value_fits file ty (record { kind = k; arg = v.arg; number = v.number }) ≡ true) is e);
  class = λ is. class_below file ty v.arg v.number (subst (λ (k : ℕ). value_fits file ty (record { kind = k; arg = v.arg; number = v.number }) ≡ true) is e);
}

held_fits : (file : List ℕ) (field : MemberRow) (m : Option (EncodedValue × Place)) (x : EncodedValue × Place)
    → (m >>= (λ value. if value_fits file (field_type file field.id) value.0 then Some value else None)) ≡ Some x
    → value_fits file (field_type file field.id) x.0 ≡ true
held_fits file field None x e = cc
held_fits file field (Some value) x e = kept (value_fits file (field_type file field.id) value.0) refl e
  where
    kept : (b : Bool) → value_fits file (field_type file field.id) value.0 ≡ b → (if b then Some value else None) ≡ Some x
        → value_fits file (field_type file field.id) x.0 ≡ true
    kept true is e =
        let one : value ≡ x = cc in
        subst (λ (y : EncodedValue × Place). value_fits file (field_type file field.id) y.0 ≡ true) one is
    kept false is e = cc

held_there : (file : List ℕ) (field : MemberRow) (p : Place) (x : EncodedValue × Place) → held_value file field p ≡ Some x → NamesThere file x.0
unfolding held_value
held_there file field p x e = value_there file (field_type file field.id) x.0 (held_fits file field (encoded_value p) x e)

all_there : (file : List ℕ) (fields : List MemberRow) (n : ℕ) (p : Place) (vs : List EncodedValue) → values_from file fields n p ≡ Some vs → All (NamesThere file) vs
all_there file fields zero p vs e =
    let is : [] ≡ vs = cc in
    subst (All (NamesThere file)) is (all_nothing (NamesThere file))
all_there file [] (suc n) p vs e = cc
all_there file (field ∷ fields) (suc n) p vs e =
    let first = bind_some (held_value file field p) _ vs (sym (values_step file field fields n p) ∙ e) in
    let others = bind_some (values_from file fields n first.0.1) _ vs first.1.1 in
    let is : first.0.0 ∷ others.0 ≡ vs = cc (others.1.1) in
    subst (All (NamesThere file)) is
    (all_more (NamesThere file) first.0.0 others.0 (held_there file field p first.0 first.1.0)
    (all_there file fields n first.0.1 others.0 others.1.0))

all_at : (file : List ℕ) (fields : List MemberRow) (p : Place) (vs : List EncodedValue) → values_at file fields p ≡ Some vs → All (NamesThere file) vs
unfolding values_at
all_at file fields p vs e =
    let count = bind_some (readable (uleb_at p)) _ vs e in
    all_there file fields count.0.0 count.0.1 vs count.1.1

all_if : (file : List ℕ) (fields : List MemberRow) (b : Bool) (p : Place) (vs : List EncodedValue) → (if b then Some [] else values_at file fields p) ≡ Some vs
    → All (NamesThere file) vs
all_if file fields true p vs e =
    let is : [] ≡ vs = cc in
    subst (All (NamesThere file)) is (all_nothing (NamesThere file))
all_if file fields false p vs e = all_at file fields p vs e

pub values_name : (file : List ℕ) (i : ℕ) (vs : List EncodedValue) → class_values file i ≡ Some vs → All (NamesThere file) vs
unfolding class_values
values_name file i vs e = all_if file (rows_of file i).statics (class_values_at file i == 0) (record { bytes = file; at = class_values_at file i }) vs e
