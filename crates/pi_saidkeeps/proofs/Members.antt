-- What rule X18 asks of the members of the classes of a file.
use Rattle.std.proofs.Common.{◌≡◌, ℕ, List, map, true}
use Rattle.std.specs.Prelude.{◌&&◌, IsTrue}
use Rattle.std.specs.List.{list_all}
use Rattle.std.proofs.lemmas.Bool.{and_from}
use Rattle.pi_model.specs.declared.numbers.NameNo.{NameNo}
use Rattle.pi_model.specs.Distinct.{all_distinct}
use Rattle.pi_format.specs.Tables.{count_at, class_defs}
use Rattle.pi_format.specs.Rules.ClassData.{owner, rows_of, methods_in}
use Rattle.pi_format.specs.Says.Names.{Named}
use Rattle.pi_format.specs.Says.Classes.{fields_said, method_desc, class_desc, classes_said}
use Rattle.pi_said.proofs.Lists.{listed_all}
use Rattle.pi_contents.specs.Named.{field_content, method_content, class_content}
use Rattle.pi_contents.specs.Asked.{same_field, same_method, field_is_listed, method_is_listed, members_fit}
use Rattle.pi_saidkeeps.proofs.Lists.{map-listed}
use Rattle.pi_saidkeeps.proofs.Spelled.{IsRead}
use Rattle.pi_saidkeeps.proofs.ListedFields.{fields_distinct, fields_listed}
use Rattle.pi_saidkeeps.proofs.ListedMethods.{methods_distinct, methods_listed}

class_members : (text : NameNo → List ℕ) (n : Named) (number : ℕ) → IsRead text n → (i : ℕ) → members_fit (class_content text (class_desc n number i)) ≡ true
unfolding class_desc
class_members text n number read i =
    let interface = (owner n.file i).interface in
    let fields = map (field_content text) (fields_said n i) in
    let methods = map (method_content text) (map (method_desc n) (methods_in (rows_of n.file i))) in
    and_from (all_distinct same_field fields && list_all (field_is_listed interface) fields) (all_distinct same_method methods && list_all (method_is_listed interface) methods)
    (and_from (all_distinct same_field fields) (list_all (field_is_listed interface) fields) (fields_distinct text n read i) (fields_listed text n i))
    (and_from (all_distinct same_method methods) (list_all (method_is_listed interface) methods) (methods_distinct text n read i) (methods_listed text n read i))

pub members_hold : (text : NameNo → List ℕ) (n : Named) (number : ℕ) → IsRead text n → IsTrue (list_all members_fit (map (class_content text) (classes_said n number)))
members_hold text n number read =
    rw (map-listed (class_content text) (class_desc n number) 0 (count_at n.file class_defs))
    (listed_all members_fit (λ k. class_content text (class_desc n number k)) 0 (count_at n.file class_defs) (λ k lt. class_members text n number read k))
