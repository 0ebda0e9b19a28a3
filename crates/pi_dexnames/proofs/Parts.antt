-- What the parts of a code and of a class name, one behind the other.
use Rattle.std.proofs.Common.{◌≡◌, ℕ, List, [], ◌∷◌, ◌++◌, map, Option, Some, Result, Ok, refl, sym, ap, ap₂, ◌∙◌, subst}
use Rattle.std.specs.Option.{option_map}
use Rattle.std.specs.List.{flat_map}
use Rattle.std.proofs.lemmas.List.{append_assoc}
use Rattle.std.proofs.lemmas.List.Folds.{flat_map-map}
use Rattle.pi_model.specs.declared.numbers.NameNo.{NameNo}
use Rattle.pi_model.specs.declared.describe.Catch.{Catch}
use Rattle.pi_model.specs.declared.describe.Code.{Code}
use Rattle.pi_model.specs.declared.describe.FieldDesc.{FieldDesc}
use Rattle.pi_model.specs.declared.describe.Line.{Line}
use Rattle.pi_model.specs.declared.describe.MethodDesc.{MethodDesc}
use Rattle.pi_contents.specs.Contents.{Naming, OfType, ClassContent}
use Rattle.pi_contents.specs.Named.{line_content, catch_content, code_content, field_content, method_content}
use Rattle.pi_contents.specs.Naming.{named_by_line, named_by_catch, named_by_code, named_by_type, named_by_field, named_by_method, named_by_class}
use Rattle.pi_dexpools.specs.declared.gathered.Gathered.{Gathered}
use Rattle.pi_dexpools.specs.declared.gathered.Place.{Place}
use Rattle.pi_dexnames.specs.Named.{Names, named_by_heading, named_by_members}
use Rattle.pi_dexnames.proofs.Together.{names_then}

-- what is named is the same things
pub names_same : {B E : Type 0} {r : Result B E} {a b : Gathered} {p q : List Place} {ns ms : List Naming} → ns ≡ ms
    → Names r a p b q ns → Names r a p b q ms
names_same {r = r} {a = a} {b = b} {p = p} {q = q} same named = subst (λ ns. Names r a p b q ns) same named

named_in_code : (text : NameNo → List ℕ) (code : Option Code) (own : Code) (lines : List Line) (catches : List Catch)
    → code ≡ Some own → lines ≡ own.insns → catches ≡ own.tries
    → (flat_map (λ (l : Line). named_by_line (line_content text l)) lines ++ flat_map (λ (c : Catch). named_by_catch (catch_content text c)) catches)
    ≡ named_by_code (option_map (code_content text) code)
named_in_code text code own lines catches is of_lines of_catches =
    ap₂ (λ ls cs. flat_map (λ (l : Line). named_by_line (line_content text l)) ls ++ flat_map (λ (c : Catch). named_by_catch (catch_content text c)) cs)
    of_lines of_catches
    ∙ ap₂ (λ ns ms. ns ++ ms) (sym (flat_map-map named_by_line (line_content text) own.insns))
    (sym (flat_map-map named_by_catch (catch_content text) own.tries))
    ∙ ap (λ o. named_by_code (option_map (code_content text) o)) (sym is)

pub names_code : {A B E F : Type 0} {x : A} {r : Result B E} {a b c : Gathered} {p q s : List Place}
    (text : NameNo → List ℕ) (code : Option Code) (own : Code) (lines : List Line) (catches : List Catch)
    → code ≡ Some own → lines ≡ own.insns → catches ≡ own.tries
    → Names {A = A} {E = F} (Ok x) a p b q (flat_map (λ (l : Line). named_by_line (line_content text l)) lines)
    → Names r b q c s (flat_map (λ (c : Catch). named_by_catch (catch_content text c)) catches)
    → Names r a p c s (named_by_code (option_map (code_content text) code))
names_code text code own lines catches is of_lines of_catches first then =
    names_same (named_in_code text code own lines catches is of_lines of_catches) (names_then first then)

types_each : (text : NameNo → List ℕ) (types : List NameNo) → flat_map (λ (t : NameNo). OfType (text t) ∷ []) types ≡ map OfType (map text types)
types_each text [] = refl
types_each text (t ∷ types) = ap (λ ns. OfType (text t) ∷ ns) (types_each text types)

-- types that are named by the list of their names
pub names_types : {B E : Type 0} {r : Result B E} {a b : Gathered} {p q : List Place} (text : NameNo → List ℕ) (types own : List NameNo) → types ≡ own
    → Names r a p b q (flat_map (λ (t : NameNo). OfType (text t) ∷ []) types) → Names r a p b q (map OfType (map text own))
names_types text types own are named =
    names_same (types_each text types ∙ ap (λ ts. map OfType (map text ts)) are) named

-- members that are named by the lists of their descriptions
pub names_fields : {B E : Type 0} {r : Result B E} {a b : Gathered} {p q : List Place} (text : NameNo → List ℕ) (class : List ℕ)
    (fields own : List FieldDesc) → fields ≡ own
    → Names r a p b q (flat_map (λ (f : FieldDesc). named_by_field class (field_content text f)) fields)
    → Names r a p b q (flat_map (named_by_field class) (map (field_content text) own))
names_fields text class fields own are named =
    names_same
    (sym (flat_map-map (named_by_field class) (field_content text) fields)
    ∙ ap (λ fs. flat_map (named_by_field class) (map (field_content text) fs)) are)
    named

pub names_methods : {B E : Type 0} {r : Result B E} {a b : Gathered} {p q : List Place} (text : NameNo → List ℕ) (class : List ℕ)
    (methods own : List MethodDesc) → methods ≡ own
    → Names r a p b q (flat_map (λ (m : MethodDesc). named_by_method class (method_content text m)) methods)
    → Names r a p b q (flat_map (named_by_method class) (map (method_content text) own))
names_methods text class methods own are named =
    names_same
    (sym (flat_map-map (named_by_method class) (method_content text) methods)
    ∙ ap (λ ms. flat_map (named_by_method class) (map (method_content text) ms)) are)
    named

-- a class names its members behind its heading
pub class_in_parts : (c : ClassContent) → (named_by_heading c ++ named_by_members c) ≡ named_by_class c
class_in_parts c =
    ap (λ ns. OfType c.name ∷ ns) (append_assoc (named_by_type c.parent) (map OfType c.faces) (named_by_members c))
