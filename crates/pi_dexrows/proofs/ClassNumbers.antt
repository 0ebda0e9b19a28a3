-- The numbers of what a class names, part by part.
use Rattle.std.proofs.Common.{◌≡◌, ℕ, suc, List, [], ◌∷◌, ◌++◌, length, map, take, drop, Option, Some, None, option_map, refl, sym, ap, ◌∙◌, append_assoc}
use Rattle.std.specs.List.{flat_map}
use Rattle.std.proofs.lemmas.List.{map-append}
use Rattle.std.proofs.Math.Seq.{take-append_seam, drop-append_seam}
use Rattle.pi_model.specs.declared.describe.ClassDesc.{ClassDesc}
use Rattle.pi_model.specs.declared.describe.FieldDesc.{FieldDesc}
use Rattle.pi_model.specs.declared.describe.MethodDesc.{MethodDesc}
use Rattle.pi_model.specs.declared.numbers.NameNo.{NameNo}
use Rattle.pi_contents.specs.Contents.{Naming, OfType}
use Rattle.pi_contents.specs.Named.{field_content, method_content, class_content}
use Rattle.pi_contents.specs.Naming.{named_by_type, named_by_field, named_by_method, named_by_class}
use Rattle.pi_classtables.specs.Numbers.{Pools, index_of, type_no}
use Rattle.pi_dexrows.specs.Taken.{first_no, behind_first, behind_fields}
use Rattle.pi_dexrows.specs.Parts.{field_numbers}
use Rattle.pi_dexrows.specs.Rows.{method_numbers}
use Rattle.pi_dexrows.specs.Heads.{parent_no, behind_parent, behind_head}
use Rattle.pi_dexrows.proofs.FieldSteps.{field_passed}

module _ (p : Pools) (text : NameNo → List ℕ) (class : List ℕ) where
  fields_joined : (fs : List FieldDesc) (rest : List ℕ)
      → map (index_of p) (flat_map (named_by_field class) (map (field_content text) fs)) ++ rest ≡ field_numbers p text class fs rest
  fields_joined [] rest = refl
  fields_joined (f ∷ fs) rest =
      let own : List Naming = named_by_field class (field_content text f) in
      let others : List Naming = flat_map (named_by_field class) (map (field_content text) fs) in
      ap (λ (ns : List ℕ). ns ++ rest) (map-append (index_of p) own others)
      ∙ append_assoc (map (index_of p) own) (map (index_of p) others) rest
      ∙ ap (λ (ns : List ℕ). map (index_of p) own ++ ns) (fields_joined fs rest)

  methods_joined : (ms : List MethodDesc) → map (index_of p) (flat_map (named_by_method class) (map (method_content text) ms)) ≡ method_numbers p text class ms
  methods_joined [] = refl
  methods_joined (m ∷ ms) =
      let own : List Naming = named_by_method class (method_content text m) in
      let others : List Naming = flat_map (named_by_method class) (map (method_content text) ms) in
      map-append (index_of p) own others ∙ ap (λ (ns : List ℕ). map (index_of p) own ++ ns) (methods_joined ms)

  -- the numbers of fields are passed
  pub fields_passed : (fs : List FieldDesc) (rest : List ℕ) → behind_fields fs (field_numbers p text class fs rest) ≡ rest
  fields_passed [] rest = refl
  fields_passed (f ∷ fs) rest = ap (behind_fields fs) (field_passed p text class f (field_numbers p text class fs rest)) ∙ fields_passed fs rest

module _ (p : Pools) (text : NameNo → List ℕ) where
  types_joined : (ts : List (List ℕ)) → map (index_of p) (map OfType ts) ≡ map (type_no p) ts
  types_joined [] = refl
  types_joined (t ∷ ts) = ap (λ (ns : List ℕ). type_no p t ∷ ns) (types_joined ts)

  faces_counted : (ts : List NameNo) → length (map (type_no p) (map text ts)) ≡ length ts
  faces_counted [] = refl
  faces_counted (t ∷ ts) = ap suc (faces_counted ts)

  parent_found : (o : Option NameNo) (rest : List ℕ) → parent_no o (map (index_of p) (named_by_type (option_map text o)) ++ rest) ≡ option_map (type_no p) (option_map text o)
  parent_found None rest = refl
  parent_found (Some t) rest = refl

  parent_passed : (o : Option NameNo) (rest : List ℕ) → behind_parent o (map (index_of p) (named_by_type (option_map text o)) ++ rest) ≡ rest
  parent_passed None rest = refl
  parent_passed (Some t) rest = refl

  module _ (d : ClassDesc) where
    abbrev class : List ℕ
    class = text d.name

    abbrev parent_numbers : List ℕ
    parent_numbers = map (index_of p) (named_by_type (option_map text d.parent))

    abbrev face_numbers : List ℕ
    face_numbers = map (type_no p) (map text d.faces)

    abbrev members : List ℕ
    members = field_numbers p text class d.fields (method_numbers p text class d.methods)

    joined : map (index_of p) (named_by_class (class_content text d)) ≡ type_no p class ∷ (parent_numbers ++ (face_numbers ++ members))
    joined =
        let fields : List Naming = flat_map (named_by_field class) (map (field_content text) d.fields) in
        let methods : List Naming = flat_map (named_by_method class) (map (method_content text) d.methods) in
        let faces : List Naming = map OfType (map text d.faces) in
        let last : map (index_of p) (fields ++ methods) ≡ members =
        map-append (index_of p) fields methods ∙ ap (λ (ns : List ℕ). map (index_of p) fields ++ ns) (methods_joined p text class d.methods)
        ∙ fields_joined p text class d.fields (method_numbers p text class d.methods) in
        let middle : map (index_of p) (faces ++ (fields ++ methods)) ≡ face_numbers ++ members =
        map-append (index_of p) faces (fields ++ methods) ∙ (λ i. types_joined (map text d.faces) i ++ last i) in
        ap (λ (ns : List ℕ). type_no p class ∷ ns)
        (map-append (index_of p) (named_by_type (option_map text d.parent)) (faces ++ (fields ++ methods)) ∙ ap (λ (ns : List ℕ). parent_numbers ++ ns) middle)

    module _ (ns : List ℕ) (are : ns ≡ map (index_of p) (named_by_class (class_content text d))) where
      pub class_found : first_no ns ≡ type_no p class
      class_found = ap first_no (are ∙ joined)

      rest_is : behind_first ns ≡ parent_numbers ++ (face_numbers ++ members)
      rest_is = ap behind_first (are ∙ joined)

      pub superclass_found : parent_no d.parent (behind_first ns) ≡ option_map (type_no p) (option_map text d.parent)
      superclass_found = ap (parent_no d.parent) rest_is ∙ parent_found d.parent (face_numbers ++ members)

      behind_is : behind_parent d.parent (behind_first ns) ≡ face_numbers ++ members
      behind_is = ap (behind_parent d.parent) rest_is ∙ parent_passed d.parent (face_numbers ++ members)

      pub faces_found : take (length d.faces) (behind_parent d.parent (behind_first ns)) ≡ face_numbers
      faces_found = (λ i. take (sym (faces_counted d.faces) i) (behind_is i)) ∙ take-append_seam face_numbers members

      pub members_found : behind_head d ns ≡ members
      members_found = (λ i. drop (sym (faces_counted d.faces) i) (behind_is i)) ∙ drop-append_seam face_numbers members
