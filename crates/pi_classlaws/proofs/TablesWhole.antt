-- The tables of classes: they are closed, say the classes again, and keep each rule of which what it asks of classes holds.
use Rattle.std.proofs.Common.{◌≡◌, Bool, true, List, [], ◌∷◌, ◌++◌, Option, Some, None, IfSome, IsTrue, sym, subst, ◌∙◌}
use Rattle.std.specs.List.{All, AllZip, list_all}
use Rattle.std.proofs.lemmas.List.Elements.{All-nil, All-cons, All-head, All-tail, All-append}
use Rattle.std.proofs.lemmas.List.Folds.{list_all-map}
use Rattle.std.proofs.lemmas.List.Sums.{AllPass-from_list_all, list_all-from_AllPass}
use Rattle.pi_format.proofs.Every.{all_both, all_left, all_right}
use Rattle.pi_dextables.specs.declared.tables.Body.{Body}
use Rattle.pi_dextables.specs.declared.tables.Class.{Class}
use Rattle.pi_dextables.specs.declared.tables.MethodRow.{MethodRow}
use Rattle.pi_dextables.specs.declared.tables.Tables.{Tables}
use Rattle.pi_dextables.specs.Rows.{with_body, bodies_in, bodies_of, all_bodies}
use Rattle.pi_contents.specs.Contents.{ClassContent}
use Rattle.pi_contents.specs.Asked.{inits_fit, bodies_fit, codes_fit}
use Rattle.pi_tablesaid.specs.Content.{class_said}
use Rattle.pi_tablesaid.specs.Closed.{IsClosed}
use Rattle.pi_tablesaid.specs.Kept.{class_values_hold, class_codes_hold, WalkEnds, PointsWell}
use Rattle.pi_tablesaid.proofs.EachCode.{EachCode}
use Rattle.pi_classtables.specs.Numbers.{Pools}
use Rattle.pi_classtables.specs.Whole.{Added, classes_added, filed, class_row, for_each, pools_for, tables_with, tables_of}
use Rattle.pi_classtables.specs.Spelled.{IsSpelled}
use Rattle.pi_classtables.specs.Sized.{IsSized, sparse_rises}
use Rattle.pi_classtables.proofs.Parts.{tables_parts}
use Rattle.pi_classlaws.proofs.ClassRows.{each_given, all_beside, map_beside, beside_known}
use Rattle.pi_classlaws.proofs.ClassesWhole.{ClassKeeps, class_keeps}
use Rattle.pi_classlaws.proofs.EntriesClosed.{entries_closed}
use Rattle.pi_classlaws.proofs.MembersFiled.{all_members_filed, classes_filed}
use Rattle.pi_classlaws.proofs.NamingsFiled.{ClassHeld, all_classes_held}
use Rattle.pi_classlaws.proofs.RowsListed.{CodeCloses, table_classes_close}
use Rattle.pi_classlaws.proofs.Written.{TablesKeep}

-- what holds of the code of each method holds of all codes
module _ (P : Body → Type 0) where
  with_each : (code : Option Body) (bodies : List Body) → IfSome code P → All P bodies → All P (with_body code bodies)
  with_each None bodies here rest = rest
  with_each (Some b) bodies here rest = All-cons P b bodies here rest

  in_each : (ms : List MethodRow) → All (λ (m : MethodRow). IfSome m.code P) ms → All P (bodies_in ms)
  in_each [] all = All-nil P
  in_each (m ∷ ms) all =
      with_each m.code (bodies_in ms) (All-head (λ (n : MethodRow). IfSome n.code P) m ms all) (in_each ms (All-tail (λ (n : MethodRow). IfSome n.code P) m ms all))

  of_each : (cs : List Class) → EachCode P cs → All P (all_bodies cs)
  of_each [] all = All-nil P
  of_each (c ∷ cs) all =
      let Has : MethodRow → Type 0 = λ (m : MethodRow). IfSome m.code P in
      let Each : Class → Type 0 = λ (d : Class). All Has (d.directs ++ d.virtuals) in
      let here : All Has (c.directs ++ c.virtuals) = All-head Each c cs all in
      All-append P (bodies_of c) (all_bodies cs)
      (All-append P (bodies_in c.directs) (bodies_in c.virtuals)
      (in_each c.directs (all_left Has c.directs c.virtuals here)) (in_each c.virtuals (all_right Has c.directs c.virtuals here)))
      (of_each cs (All-tail Each c cs all))

-- what each class that is added passes
each_passes : (p : ClassContent → Bool) (es : List Added) → list_all p (classes_added es) ≡ true → All (λ (e : Added). p e.class ≡ true) es
each_passes p es h = AllPass-from_list_all (λ (e : Added). p e.class) es (sym (list_all-map p (λ (e : Added). e.class) es) ∙ h)

-- and what each holds, as a class
from_classes : (P : ClassContent → Type 0) (es : List Added) → All P (classes_added es) → All (λ (e : Added). P e.class) es
from_classes P [] all = All-nil (λ (e : Added). P e.class)
from_classes P (e ∷ es) all =
    All-cons (λ (f : Added). P f.class) e es (All-head P e.class (classes_added es) all) (from_classes P es (All-tail P e.class (classes_added es) all))

-- what is known of a class that is added
record ClassGiven (p : Pools) (e : Added) : Type 0 where
  spelled : IsSpelled e
  sized : IsSized e.class
  held : ClassHeld p e.class

module _ (es : List Added) (spelled : All IsSpelled es) (sized : All IsSized (classes_added es)) where
  all_given : All (ClassGiven (pools_for es)) es
  all_given k d less = record { spelled = spelled k d less; sized = from_classes IsSized es sized k d less; held = all_classes_held es k d less }

  classes_keep : (classes : List Class) → for_each (class_row (pools_for es)) es ≡ Some classes
      → AllZip (ClassKeeps (tables_with (pools_for es) classes)) es classes
  classes_keep classes made =
      let p : Pools = pools_for es in
      beside_known (λ e c. class_row p e ≡ Some c) (ClassGiven p) (ClassKeeps (tables_with p classes))
      (λ e c is given. class_keeps p classes e c is given.spelled given.sized given.held) es classes (each_given (class_row p) es classes made) all_given

  rows_keep : (t : Tables) → tables_of es ≡ Some t → AllZip (ClassKeeps t) es t.classes
  rows_keep t made =
      let parts = tables_parts es t made in
      subst (λ (s : Tables). AllZip (ClassKeeps s) es s.classes) (sym parts.2) (classes_keep parts.0 parts.1)

  module _ (t : Tables) (made : tables_of es ≡ Some t) where
    each_class : (P : Added → Type 0) (Q : Class → Type 0) → ((e : Added) (c : Class) → ClassKeeps t e c → P e → Q c) → All P es → All Q t.classes
    each_class P Q tells all = all_beside (ClassKeeps t) P Q tells es t.classes (rows_keep t made) all

    of_all : (Q : Class → Type 0) → ((e : Added) (c : Class) → ClassKeeps t e c → Q c) → All Q t.classes
    of_all Q tells = each_class (λ (e : Added). Unit {0}) Q (λ e c k known. tells e c k) (λ k d less. tt)

    all_close : IsClosed t
    all_close =
        let entries = entries_closed es t made in
        record {
          types = entries.types;
          types_rise = entries.types_rise;
          protos = entries.protos;
          protos_rise = entries.protos_rise;
          fields = entries.fields;
          fields_rise = entries.fields_rise;
          methods = entries.methods;
          methods_rise = entries.methods_rise;
          classes = table_classes_close es t made
              (of_all (λ (c : Class). All (CodeCloses t) c.directs) (λ e c k. all_left (CodeCloses t) c.directs c.virtuals k.closes))
              (of_all (λ (c : Class). All (CodeCloses t) c.virtuals) (λ e c k. all_right (CodeCloses t) c.directs c.virtuals k.closes));
        }

    values_hold : IsTrue (list_all inits_fit (classes_added es)) → IsTrue (list_all (class_values_hold t) t.classes)
    values_hold fit =
        list_all-from_AllPass (class_values_hold t) t.classes
        (each_class (λ (e : Added). inits_fit e.class ≡ true) (λ (c : Class). class_values_hold t c ≡ true) (λ e c k known. k.values known) (each_passes inits_fit es fit))

    codes_hold : IsTrue (list_all bodies_fit (classes_added es)) → IsTrue (list_all (class_codes_hold t) t.classes)
    codes_hold fit =
        list_all-from_AllPass (class_codes_hold t) t.classes
        (each_class (λ (e : Added). bodies_fit e.class ≡ true) (λ (c : Class). class_codes_hold t c ≡ true) (λ e c k known. k.codes known) (each_passes bodies_fit es fit))

    codes_point : IsTrue (list_all codes_fit (classes_added es)) → IsTrue (list_all sparse_rises es) → All PointsWell (all_bodies t.classes)
    codes_point fit rise =
        let Fits : Added → Type 0 = λ (e : Added). codes_fit e.class ≡ true in
        let Rises : Added → Type 0 = λ (e : Added). sparse_rises e ≡ true in
        of_each PointsWell t.classes
        (each_class (λ (e : Added). Fits e × Rises e) (λ (c : Class). All (λ (m : MethodRow). IfSome m.code PointsWell) (c.directs ++ c.virtuals))
        (λ e c k known. k.points known.0 known.1)
        (all_both Fits Rises (λ (e : Added). Fits e × Rises e) es (λ e f r. (f, r)) (each_passes codes_fit es fit) (AllPass-from_list_all sparse_rises es rise)))

    pub tables_keep : TablesKeep es t
    tables_keep = record {
      closed = all_close;
      said = map_beside (ClassKeeps t) filed (class_said t) (λ e c k. k.said) es t.classes (rows_keep t made);
      x17 = classes_filed es;
      x18 = all_members_filed es;
      x19 = values_hold;
      x20 = codes_hold;
      x21 = of_each WalkEnds t.classes (of_all (λ (c : Class). All (λ (m : MethodRow). IfSome m.code WalkEnds) (c.directs ++ c.virtuals)) (λ e c k. k.ends));
      x23 = codes_point;
    }
