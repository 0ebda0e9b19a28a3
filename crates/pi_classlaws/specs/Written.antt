-- What a file is that classes are written to: it says them again, each with its members in the order of a file, and keeps each
-- rule of which what it asks of classes holds.
use Rattle.std.specs.Prelude.{◌≡◌, ℕ, List, [], map, None, IsTrue}
use Rattle.std.specs.List.{list_all}
use Rattle.pi_model.specs.Program.{no_files}
use Rattle.pi_format.specs.Rules.ClassData.{broken_class_data}
use Rattle.pi_format.specs.Rules.Classes.{broken_classes}
use Rattle.pi_format.specs.Rules.CodeItems.{broken_code}
use Rattle.pi_format.specs.Rules.Descriptors.{is_descriptor}
use Rattle.pi_format.specs.Rules.Members.{broken_protos, broken_fields, broken_methods}
use Rattle.pi_format.specs.Rules.Pieces.{broken_walk, broken_index, broken_payload}
use Rattle.pi_format.specs.Rules.Strings.{broken_types}
use Rattle.pi_format.specs.Rules.Values.{broken_values}
use Rattle.pi_format.specs.Says.{with_said}
use Rattle.pi_contents.specs.Contents.{ClassContent}
use Rattle.pi_contents.specs.Named.{content_in}
use Rattle.pi_contents.specs.Naming.{named_by, types_named, protos_named, fields_named, methods_named}
use Rattle.pi_contents.specs.Asked.{proto_fits, field_fits, method_fits, classes_fit, members_fit, inits_fit, bodies_fit, codes_fit}
use Rattle.pi_classtables.specs.Whole.{Added, classes_added, filed}
use Rattle.pi_classtables.specs.Sized.{sparse_rises}

-- the rules that the file keeps, each by itself; X19 asks for what X18 asks as well
pub record KeepsRules (es : List Added) (file : List ℕ) : Type 0 where
  pub x13 : IsTrue (list_all is_descriptor (types_named (named_by (classes_added es)))) → broken_types file ≡ None
  pub x14 : IsTrue (list_all proto_fits (protos_named (named_by (classes_added es)))) → broken_protos file ≡ None
  pub x15 : IsTrue (list_all field_fits (fields_named (named_by (classes_added es)))) → broken_fields file ≡ None
  pub x16 : IsTrue (list_all method_fits (methods_named (named_by (classes_added es)))) → broken_methods file ≡ None
  pub x17 : IsTrue (classes_fit (map (λ (c : ClassContent). c.name) (classes_added es)) [] (classes_added es)) → broken_classes file ≡ None
  pub x18 : IsTrue (list_all members_fit (classes_added es)) → broken_class_data file ≡ None
  pub x19 : IsTrue (list_all members_fit (classes_added es)) → IsTrue (list_all inits_fit (classes_added es)) → broken_values file ≡ None
  pub x20 : IsTrue (list_all bodies_fit (classes_added es)) → broken_code file ≡ None
  pub x21 : broken_walk file ≡ None
  pub x22 : broken_index file ≡ None
  pub x23 : IsTrue (list_all codes_fit (classes_added es)) → IsTrue (list_all sparse_rises es) → broken_payload file ≡ None

-- where X18 to X20 are kept, the program of the file alone has exactly the classes, in order
abbrev pub SaysAgain : List Added → List ℕ → Type 0
SaysAgain es file =
    broken_class_data file ≡ None → broken_values file ≡ None → broken_code file ≡ None
    → map (content_in (with_said no_files file)) (with_said no_files file).classes ≡ map filed es
