-- The row of a class: it says the class again, with its members in the order of a file, and keeps what is known of its values
-- and its codes.
use Rattle.std.proofs.Common.{◌≡◌, ℕ, Bool, true, false, not, List, ◌++◌, map, Option, Some, None, IfSome, option_map, refl, ap, ◌∙◌}
use Rattle.std.specs.Prelude.{◌||◌}
use Rattle.std.specs.List.{All, AllZip}
use Rattle.std.proofs.lemmas.Bool.{and_parts, not-true}
use Rattle.std.proofs.lemmas.List.Sums.{AllPass-from_list_all}
use Rattle.pi_format.proofs.Every.{all_both}
use Rattle.pi_model.specs.Flags.{is_static}
use Rattle.pi_dextables.specs.declared.tables.Class.{Class}
use Rattle.pi_dextables.specs.declared.tables.FieldRow.{FieldRow}
use Rattle.pi_dextables.specs.declared.tables.MethodRow.{MethodRow}
use Rattle.pi_dextables.specs.declared.tables.Tables.{Tables}
use Rattle.pi_contents.specs.Contents.{FieldContent, NoInit}
use Rattle.pi_contents.specs.Asked.{has_init, inits_fit, bodies_fit, codes_fit}
use Rattle.pi_tablesaid.specs.Entries.{type_at}
use Rattle.pi_tablesaid.specs.Content.{field_said, statics_said, class_said}
use Rattle.pi_tablesaid.specs.Kept.{class_values_hold, class_codes_hold, WalkEnds, PointsWell}
use Rattle.pi_classtables.specs.Numbers.{Pools, type_no}
use Rattle.pi_classtables.specs.Whole.{Added, statics_of, instances_of, field_row, filed, class_row, tables_with}
use Rattle.pi_classtables.specs.Spelled.{init_spelled, field_spelled, IsSpelled}
use Rattle.pi_classtables.specs.Sized.{IsSized, sparse_rises}
use Rattle.pi_classlaws.proofs.Known.{HoldsType, type_again, types_again, each_again}
use Rattle.pi_classlaws.proofs.ClassRows.{ClassRowIs, class_row_is}
use Rattle.pi_classlaws.proofs.MembersFiled.{inits_filed}
use Rattle.pi_classlaws.proofs.MembersHold.{statics_spelled, instances_spelled, instances_not_static}
use Rattle.pi_classlaws.proofs.MethodsWhole.{MethodKeeps, methods_keep, methods_of, methods_said, codes_close, walks_end, codes_hold, codes_point}
use Rattle.pi_classlaws.proofs.NamingsFiled.{FieldHeld, ClassHeld, statics_held, instances_held}
use Rattle.pi_classlaws.proofs.RowsListed.{CodeCloses}
use Rattle.pi_classlaws.proofs.ValuesAgain.{row_again, unset, statics_again}
use Rattle.pi_classlaws.proofs.ValuesHold.{values_held}

-- what the row of a class keeps
pub record ClassKeeps (t : Tables) (e : Added) (c : Class) : Type 0 where
  pub said : class_said t c ≡ filed e
  pub closes : All (CodeCloses t) (c.directs ++ c.virtuals)
  pub values : inits_fit e.class ≡ true → class_values_hold t c ≡ true
  pub codes : bodies_fit e.class ≡ true → class_codes_hold t c ≡ true
  pub ends : All (λ (m : MethodRow). IfSome m.code WalkEnds) (c.directs ++ c.virtuals)
  pub points : codes_fit e.class ≡ true → sparse_rises e ≡ true → All (λ (m : MethodRow). IfSome m.code PointsWell) (c.directs ++ c.virtuals)

-- a field that is not static is not set
not_set : (f : FieldContent) → is_static f.flags ≡ false → field_spelled f ≡ true → has_init f.init ≡ false
not_set f apart spelled =
    by_flag (is_static f.flags) (has_init f.init) apart (and_parts (init_spelled f.init) (is_static f.flags || not (has_init f.init)) spelled).1
  where
    by_flag : (static set : Bool) → static ≡ false → (static || not set) ≡ true → set ≡ false
    by_flag true set apart h = cc
    by_flag false set apart h = not-true set h

module _ (p : Pools) (classes : List Class) where
  parent_again : (parent : Option (List ℕ)) → IfSome parent (HoldsType p) → option_map (type_at (tables_with p classes)) (option_map (type_no p) parent) ≡ parent
  parent_again None held = refl
  parent_again (Some u) held = ap Some (type_again p classes u held)

  instances_again : (e : Added) → IsSpelled e → ClassHeld p e.class
      → map (field_said (tables_with p classes) NoInit) (map (field_row p e.class.name) (instances_of e.class)) ≡ instances_of e.class
  instances_again e spelled held =
      let class : List ℕ = e.class.name in
      let Unset : FieldContent → Type 0 = λ (f : FieldContent). has_init f.init ≡ false in
      let unset_all : All Unset (instances_of e.class) =
      all_both (λ (f : FieldContent). is_static f.flags ≡ false) (λ (f : FieldContent). field_spelled f ≡ true) Unset (instances_of e.class) not_set
      (instances_not_static e.class) (AllPass-from_list_all field_spelled (instances_of e.class) (instances_spelled e spelled)) in
      each_again (λ (f : FieldContent). FieldHeld p class f × Unset f) (field_said (tables_with p classes) NoInit) (field_row p class)
      (λ f known. row_again p classes class f NoInit known.0 (unset p classes f known.1)) (instances_of e.class)
      (all_both (FieldHeld p class) Unset (λ (f : FieldContent). FieldHeld p class f × Unset f) (instances_of e.class) (λ f h u. (h, u)) (instances_held p e held) unset_all)

  module _ (e : Added) (c : Class) (spelled : IsSpelled e) (sized : IsSized e.class) (held : ClassHeld p e.class) (is : ClassRowIs p e c) where
    name_again : type_at (tables_with p classes) c.class ≡ e.class.name
    name_again = ap (type_at (tables_with p classes)) is.class ∙ type_again p classes e.class.name held.class

    super_again : option_map (type_at (tables_with p classes)) c.parent ≡ e.class.parent
    super_again = ap (option_map (type_at (tables_with p classes))) is.parent ∙ parent_again e.class.parent held.parent

    faces_again : map (type_at (tables_with p classes)) c.faces ≡ e.class.faces
    faces_again = ap (map (type_at (tables_with p classes))) is.faces ∙ types_again p classes e.class.faces held.faces

    fields_again : statics_said (tables_with p classes) c.statics c.values ++ map (field_said (tables_with p classes) NoInit) c.instances
        ≡ statics_of e.class ++ instances_of e.class
    fields_again =
        let t : Tables = tables_with p classes in
        let statics : statics_said t c.statics c.values ≡ statics_of e.class =
        ap (λ (fs : List FieldRow). statics_said t fs c.values) is.statics
        ∙ ap (statics_said t (map (field_row p e.class.name) (statics_of e.class))) is.values
        ∙ statics_again p classes e.class.name (statics_of e.class) (statics_held p e held) (statics_spelled e spelled) in
        let instances : map (field_said t NoInit) c.instances ≡ instances_of e.class = ap (map (field_said t NoInit)) is.instances ∙ instances_again e spelled held in
        λ i. statics i ++ instances i

    values_kept : inits_fit e.class ≡ true → class_values_hold (tables_with p classes) c ≡ true
    values_kept fit =
        rw (is.statics, is.values)
        (values_held p classes e.class.name (statics_of e.class) (statics_held p e held) (inits_filed e.class fit))

    rows : AllZip (MethodKeeps (tables_with p classes)) (methods_of e) (c.directs ++ c.virtuals)
    rows = methods_keep p classes e c spelled sized held is

    class_again : class_said (tables_with p classes) c ≡ filed e
    unfolding class_said filed
    class_again =
        let methods = methods_said (tables_with p classes) e c rows in
        λ i. record {
          name = name_again i;
          flags = is.flags i;
          parent = super_again i;
          faces = faces_again i;
          fields = fields_again i;
          methods = methods i;
        }

    class_is_kept : ClassKeeps (tables_with p classes) e c
    class_is_kept = record {
      said = class_again;
      closes = codes_close (tables_with p classes) e c rows;
      values = values_kept;
      codes = codes_hold (tables_with p classes) e c rows;
      ends = walks_end (tables_with p classes) e c rows;
      points = codes_point (tables_with p classes) e c rows;
    }

  pub class_keeps : (e : Added) (c : Class) → class_row p e ≡ Some c → IsSpelled e → IsSized e.class → ClassHeld p e.class → ClassKeeps (tables_with p classes) e c
  class_keeps e c is spelled sized held = class_is_kept e c spelled sized held (class_row_is p e c is)
