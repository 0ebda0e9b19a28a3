-- A file that says the tables of classes: each rule that it keeps, and what it says.
use Rattle.std.proofs.Common.{◌≡◌, ℕ, List, [], map, None, Some, refl, ap, subst, sym, ◌∙◌}
use Rattle.std.specs.Prelude.{IsTrue}
use Rattle.std.specs.List.{All, list_all}
use Rattle.pi_model.specs.Program.{no_files}
use Rattle.pi_format.specs.Rules.ClassData.{broken_class_data}
use Rattle.pi_format.specs.Says.{named_file, with_said}
use Rattle.pi_format.specs.Says.Classes.{classes_said}
use Rattle.pi_dextables.specs.declared.tables.Tables.{Tables}
use Rattle.pi_dextables.specs.Rows.{all_bodies}
use Rattle.pi_dextables.specs.Said.{IsSaid}
use Rattle.pi_dextables.specs.Writable.{IsWritable}
use Rattle.pi_contents.specs.Contents.{ClassContent}
use Rattle.pi_contents.specs.Named.{content_in}
use Rattle.pi_contents.specs.Asked.{classes_fit, members_fit, inits_fit, bodies_fit, codes_fit}
use Rattle.pi_tablesaid.specs.Content.{content_of}
use Rattle.pi_tablesaid.specs.Closed.{IsClosed}
use Rattle.pi_tablesaid.specs.Kept.{class_values_hold, class_codes_hold, WalkEnds, PointsWell}
use Rattle.pi_tablesaid.proofs.TypesKept.{types_kept}
use Rattle.pi_tablesaid.proofs.ProtosKept.{protos_kept}
use Rattle.pi_tablesaid.proofs.FieldsKept.{fields_kept}
use Rattle.pi_tablesaid.proofs.MethodsKept.{methods_kept}
use Rattle.pi_tablesaid.proofs.ClassesKept.{classes_kept}
use Rattle.pi_tablesaid.proofs.MembersKept.{members_kept}
use Rattle.pi_tablesaid.proofs.ValuesKept.{values_kept}
use Rattle.pi_tablesaid.proofs.CodesKept.{codes_kept}
use Rattle.pi_tablesaid.proofs.WalksKept.{walks_kept}
use Rattle.pi_tablesaid.proofs.IndicesKept.{indices_kept}
use Rattle.pi_tablesaid.proofs.PayloadsKept.{payloads_kept}
use Rattle.pi_tablesaid.proofs.ClassesSaid.{tables_say_contents}
use Rattle.pi_classtables.specs.Whole.{Added, classes_added, filed, tables_of}
use Rattle.pi_classtables.specs.Sized.{sparse_rises}
use Rattle.pi_classlaws.specs.Written.{KeepsRules, SaysAgain}
use Rattle.pi_classlaws.proofs.EntriesKept.{types_fit, protos_fit_all, fields_fit, methods_fit}

-- what a law says of the tables of classes
pub record TablesKeep (es : List Added) (t : Tables) : Type 0 where
  pub closed : IsClosed t
  pub said : content_of t ≡ map filed es
  pub x17 : classes_fit (map (λ (c : ClassContent). c.name) (map filed es)) [] (map filed es)
      ≡ classes_fit (map (λ (c : ClassContent). c.name) (classes_added es)) [] (classes_added es)
  pub x18 : IsTrue (list_all members_fit (classes_added es)) → IsTrue (list_all members_fit (map filed es))
  pub x19 : IsTrue (list_all inits_fit (classes_added es)) → IsTrue (list_all (class_values_hold t) t.classes)
  pub x20 : IsTrue (list_all bodies_fit (classes_added es)) → IsTrue (list_all (class_codes_hold t) t.classes)
  pub x21 : All WalkEnds (all_bodies t.classes)
  pub x23 : IsTrue (list_all codes_fit (classes_added es)) → IsTrue (list_all sparse_rises es) → All PointsWell (all_bodies t.classes)

abbrev names_of : List ClassContent → List (List ℕ)
names_of cs = map (λ (c : ClassContent). c.name) cs

-- behind no file the program has the classes of the file alone
alone : (file : List ℕ) → (with_said no_files file).classes ≡ classes_said (named_file no_files file) 0
unfolding with_said
alone file = refl

module _ (es : List Added) (t : Tables) (file : List ℕ) (made : tables_of es ≡ Some t) (keep : TablesKeep es t) (fits : IsWritable t) (is : IsSaid file t) where
  members_written : IsTrue (list_all members_fit (classes_added es)) → broken_class_data file ≡ None
  members_written h = members_kept file t is fits keep.closed (subst (λ cs. IsTrue (list_all members_fit cs)) (sym keep.said) (keep.x18 h))

  classes_written : IsTrue (classes_fit (names_of (classes_added es)) [] (classes_added es)) → IsTrue (classes_fit (names_of (content_of t)) [] (content_of t))
  classes_written h =
      subst (λ cs. IsTrue (classes_fit (names_of cs) [] cs)) (sym keep.said) (subst IsTrue (sym keep.x17) h)

  pub rules_written : KeepsRules es file
  rules_written = record {
    x13 = λ h. types_kept file t is fits keep.closed (types_fit es t made h);
    x14 = λ h. protos_kept file t is fits keep.closed (protos_fit_all es t made h);
    x15 = λ h. fields_kept file t is fits keep.closed (fields_fit es t made h);
    x16 = λ h. methods_kept file t is fits keep.closed (methods_fit es t made h);
    x17 = λ h. classes_kept file t is fits keep.closed (classes_written h);
    x18 = members_written;
    x19 = λ h i. values_kept file t is fits keep.closed (members_written h) (keep.x19 i);
    x20 = λ h. codes_kept file t is fits keep.closed (keep.x20 h);
    x21 = walks_kept file t is fits keep.closed keep.x21;
    x22 = indices_kept file t is fits keep.closed;
    x23 = λ h r. payloads_kept file t is fits keep.closed (keep.x23 h r);
  }

  pub said_written : SaysAgain es file
  said_written members values codes =
      ap (map (content_in (with_said no_files file))) (alone file) ∙ tables_say_contents no_files file 0 t is fits keep.closed members values codes ∙ keep.said
