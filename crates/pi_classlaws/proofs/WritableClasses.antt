-- The numbers in the row of a class fit the places that they have.
use Rattle.std.proofs.Common.{◌≡◌, ℕ, ◌^◌, ◌<◌, ◌≤◌, List, map, length, Option, Some, None, IfSome, option_map, sym, subst, arith}
use Rattle.std.specs.List.{All}
use Rattle.std.proofs.lemmas.List.Elements.{All-map, All-weaker}
use Rattle.pi_format.proofs.Every.{all_both}
use Rattle.pi_dextables.specs.declared.tables.Class.{Class}
use Rattle.pi_dextables.specs.declared.tables.MethodRow.{MethodRow}
use Rattle.pi_dextables.specs.Writable.{IsHalf, IsWord, ValueFits, BodyFits, FieldFits, MethodFits, ClassFits}
use Rattle.pi_contents.specs.Contents.{CodeContent, InitContent, NoInit, WordInit, LongInit, TextInit, TypeInit, FieldContent}
use Rattle.pi_classtables.specs.Numbers.{Pools, type_no}
use Rattle.pi_classtables.specs.Sized.{CodeSized, FieldSized, MethodSized, IsSized}
use Rattle.pi_classtables.specs.Spelled.{IsLaid, MethodSpelled, IsSpelled}
use Rattle.pi_classtables.specs.Values.{values_of}
use Rattle.pi_classtables.specs.Whole.{Added, Method, statics_of, instances_of, directs_of, virtuals_of, field_row, method_row, class_row, for_each}
use Rattle.pi_classlaws.proofs.Known.{HoldsType}
use Rattle.pi_classlaws.proofs.HeldMembers.{InitHeld, FieldHeld as FieldKept}
use Rattle.pi_classlaws.proofs.MembersHold.{statics_sized, instances_sized, directs_sized, virtuals_sized, directs_spelled, virtuals_spelled}
use Rattle.pi_classlaws.proofs.NamingsFiled.{HoldsInit, CodeHeld, FieldHeld, MethodHeld, ClassHeld, statics_held, instances_held, directs_held, virtuals_held}
use Rattle.pi_classlaws.proofs.ValuesFit.{values_fit}
use Rattle.pi_classlaws.proofs.ClassRows.{MethodRowIs, ClassRowIs, class_row_is, method_rows_beside, bodies_made, all_beside}
use Rattle.pi_classlaws.proofs.RowsRise.{IdsRise}
use Rattle.pi_classlaws.proofs.WritableBodies.{CodeIs, body_fits}

-- what pools hold of a field, as its value asks for it
init_kept : (p : Pools) (init : InitContent) → HoldsInit p init → InitHeld p init
init_kept p NoInit held = tt
init_kept p (WordInit w) held = tt
init_kept p (LongInit l) held = tt
init_kept p (TextInit s) held = held
init_kept p (TypeInit t) held = held

-- what is known of the code of a method, where there is one
code_is : (p : Pools) (m : Method) (code : Option CodeContent) → IfSome code (IsLaid m.sparse) → IfSome code CodeSized → IfSome code (CodeHeld p)
    → IfSome code (CodeIs p m)
code_is p m None laid sized held = tt
code_is p m (Some c) laid sized held = record { laid = laid; sized = sized; held = held }

-- what is known of a method
record MethodIs (p : Pools) (class : List ℕ) (m : Method) : Type 0 where
  spelled : MethodSpelled m
  sized : MethodSized m.content
  held : MethodHeld p class m.content

methods_are : (p : Pools) (class : List ℕ) (ms : List Method) → All MethodSpelled ms → All (λ (m : Method). MethodSized m.content) ms
    → All (λ (m : Method). MethodHeld p class m.content) ms → All (MethodIs p class) ms
methods_are p class ms spelled sized held k d lt = record { spelled = spelled k d lt; sized = sized k d lt; held = held k d lt }

-- where there are few of what a class names, its numbers fit
module _ (p : Pools) (few_strings : length p.strings < 2 ^ 32) (few_types : length p.types ≤ 65535) (few_fields : length p.fields < 2 ^ 32)
    (few_methods : length p.methods < 2 ^ 32) where
  type_fits : (t : List ℕ) → HoldsType p t → IsHalf (type_no p t)
  type_fits t held = let number = held.number in omega (arith, number)

  parent_fits : (parent : Option (List ℕ)) → IfSome parent (HoldsType p) → IfSome (option_map (type_no p) parent) IsHalf
  parent_fits None held = tt
  parent_fits (Some t) held = type_fits t held

  fields_fit : (class : List ℕ) (fs : List FieldContent) → All FieldSized fs → All (FieldHeld p class) fs → All FieldFits (map (field_row p class) fs)
  fields_fit class fs sized held =
      All-map FieldFits (field_row p class) fs
      (all_both FieldSized (FieldHeld p class) (λ (f : FieldContent). FieldFits (field_row p class f)) fs
      (λ f s h. record { id = (let number = h.field.number in omega (arith, number)); flags = s.flags }) sized held)

  statics_fit : (class : List ℕ) (fs : List FieldContent) → All FieldSized fs → All (FieldHeld p class) fs → All ValueFits (values_of p fs)
  statics_fit class fs sized held =
      values_fit p few_strings (omega arith) class fs sized
      (All-weaker (FieldHeld p class) (FieldKept p class) (λ f h. record { field = h.field; init = init_kept p f.init h.init }) fs held)

  -- a method's code fits, and so do its other numbers
  methods_fit : (class : List ℕ) (ms : List Method) (rs : List MethodRow) → All (MethodIs p class) ms → for_each (method_row p class) ms ≡ Some rs
      → All MethodFits rs
  methods_fit class ms rs all e =
      let HasBody : MethodRow → Type 0 = λ r. IfSome r.code BodyFits in
      let bodies : All HasBody rs =
      bodies_made p class (CodeIs p) BodyFits (body_fits p few_types) ms rs e
      (All-weaker (MethodIs p class) (λ (m : Method). IfSome m.content.code (CodeIs p m))
      (λ m is. code_is p m m.content.code is.spelled is.sized.code is.held.code) ms all) in
      let fit : All (λ (r : MethodRow). HasBody r → MethodFits r) rs =
      all_beside (MethodRowIs p class) (MethodIs p class) (λ (r : MethodRow). HasBody r → MethodFits r) (λ m r row is code. row_fits m r row is code) ms rs
      (method_rows_beside p class ms rs e) all in
      all_both (λ (r : MethodRow). HasBody r → MethodFits r) HasBody MethodFits rs (λ r f x. f x) fit bodies
    where
      row_fits : (m : Method) (r : MethodRow) → MethodRowIs p class m r → MethodIs p class m → IfSome r.code BodyFits → MethodFits r
      row_fits m r row is code = record {
        id = subst IsWord (sym row.id) (let number = is.held.method.number in omega (arith, number));
        flags = subst IsWord (sym row.flags) is.sized.flags;
        code = code;
      }

  pub class_fits : (e : Added) (c : Class) → IsSpelled e → IsSized e.class → ClassHeld p e.class → IdsRise c → class_row p e ≡ Some c → ClassFits c
  class_fits e c spelled sized held rise made = row_fits (class_row_is p e c made)
    where
      class : List ℕ
      class = e.class.name

      row_fits : ClassRowIs p e c → ClassFits c
      row_fits is = record {
        class = subst IsHalf (sym is.class) (type_fits class held.class);
        flags = subst IsWord (sym is.flags) sized.flags;
        parent = subst (λ (o : Option ℕ). IfSome o IsHalf) (sym is.parent) (parent_fits e.class.parent held.parent);
        faces = subst (All IsHalf) (sym is.faces)
            (All-map IsHalf (type_no p) e.class.faces (All-weaker (HoldsType p) (λ t. IsHalf (type_no p t)) type_fits e.class.faces held.faces));
        values = subst (All ValueFits) (sym is.values)
            (statics_fit class (statics_of e.class) (statics_sized e.class sized) (statics_held p e held));
        statics = subst (All FieldFits) (sym is.statics)
            (fields_fit class (statics_of e.class) (statics_sized e.class sized) (statics_held p e held));
        statics_rise = rise.statics;
        instances = subst (All FieldFits) (sym is.instances)
            (fields_fit class (instances_of e.class) (instances_sized e.class sized) (instances_held p e held));
        instances_rise = rise.instances;
        directs = methods_fit class (directs_of e) c.directs
            (methods_are p class (directs_of e) (directs_spelled e spelled) (directs_sized e sized) (directs_held p e held)) is.directs;
        directs_rise = rise.directs;
        virtuals = methods_fit class (virtuals_of e) c.virtuals
            (methods_are p class (virtuals_of e) (virtuals_spelled e spelled) (virtuals_sized e sized) (virtuals_held p e held)) is.virtuals;
        virtuals_rise = rise.virtuals;
      }
