-- One field after another: what is left of the numbers, and what is made of those that were taken.
use Rattle.std.proofs.Common.{◌≡◌, ℕ, ◌+◌, ◌<◌, true, List, [], ◌∷◌, ◌++◌, length, map, get_or, drop, refl, sym, ap, ◌∙◌, subst, arith, append_assoc, add-one, drop-cons}
use Rattle.std.specs.Prelude.{◌&&◌, nat_lt}
use Rattle.std.specs.List.{list_all}
use Rattle.std.proofs.lemmas.Bool.{and_parts}
use Rattle.std.proofs.lemmas.Bool.Decides.{nat_tests}
use Rattle.std.proofs.lemmas.List.Sums.{AllPass-from_list_all}
use Rattle.pi_model.specs.declared.describe.FieldDesc.{FieldDesc}
use Rattle.pi_model.specs.declared.describe.Init.{Init}
use Rattle.pi_model.specs.declared.describe.Init.TheVariants.{Zero, Word, Long, Str, Cls}
use Rattle.pi_model.specs.declared.numbers.NameNo.{NameNo}
use Rattle.pi_model.specs.Uses.{field_below, name_below, init_below}
use Rattle.pi_contents.specs.Named.{field_content, init_content}
use Rattle.pi_contents.specs.Naming.{named_by_field, named_by_init}
use Rattle.pi_classtables.specs.Numbers.{Pools, index_of}
use Rattle.pi_dexdata.specs.Numbers.{init_number}
use Rattle.pi_dexrows.specs.declared.fields.FieldPart.{FieldPart}
use Rattle.pi_dexrows.specs.Taken.{init_no, behind_init, behind_field}
use Rattle.pi_dexrows.specs.Parts.{part_of, parts_of, field_numbers}

-- the number of what a value names stands first
pub init_found : (p : Pools) (text : NameNo → List ℕ) (init : Init) (rest : List ℕ)
    → init_number p (init_content text init) ≡ init_no init (map (index_of p) (named_by_init (init_content text init)) ++ rest)
init_found p text Zero rest = refl
init_found p text (Word w) rest = refl
init_found p text (Long l) rest = refl
init_found p text (Str s) rest = refl
init_found p text (Cls t) rest = refl

init_passed : (p : Pools) (text : NameNo → List ℕ) (init : Init) (rest : List ℕ)
    → behind_init init (map (index_of p) (named_by_init (init_content text init)) ++ rest) ≡ rest
init_passed p text Zero rest = refl
init_passed p text (Word w) rest = refl
init_passed p text (Long l) rest = refl
init_passed p text (Str s) rest = refl
init_passed p text (Cls t) rest = refl

-- the fields so far are made, and the numbers of the others are left
pub record FieldsMade (p : Pools) (text : NameNo → List ℕ) (class : List ℕ) (all : List FieldDesc) (rest : List ℕ) (others : List FieldDesc) (left : List ℕ) (made : List FieldPart) : Type 0 where
  pub numbers : left ≡ field_numbers p text class others rest
  pub parts : made ++ parts_of p text class others ≡ parts_of p text class all

one_more : (p : Pools) (text : NameNo → List ℕ) (class : List ℕ) (all : List FieldDesc) (rest : List ℕ) (f : FieldDesc) (others : List FieldDesc) (left : List ℕ) (made : List FieldPart)
    (part : FieldPart) → part ≡ part_of p class (field_content text f)
    → FieldsMade p text class all rest (f ∷ others) left made → FieldsMade p text class all rest others (behind_field f left) (made ++ part ∷ [])
one_more p text class all rest f others left made part is before = record {
  numbers = ap (behind_field f) before.numbers ∙ init_passed p text f.init (field_numbers p text class others rest);
  parts = append_assoc made (part ∷ []) (parts_of p text class others) ∙ ap (λ (x : FieldPart). made ++ x ∷ parts_of p text class others) is ∙ before.parts;
}

pub field_made : (p : Pools) (text : NameNo → List ℕ) (class : List ℕ) (all : List FieldDesc) (rest : List ℕ) (i : ℕ) (d : FieldDesc) (left after : List ℕ) (made more : List FieldPart) (part : FieldPart)
    → i < length all → after ≡ behind_field (get_or all i d) left
    → ((rest : List ℕ) → left ≡ map (index_of p) (named_by_field class (field_content text (get_or all i d))) ++ rest → part ≡ part_of p class (field_content text (get_or all i d)))
    → more ≡ made ++ part ∷ []
    → FieldsMade p text class all rest (drop i all) left made → FieldsMade p text class all rest (drop (i + 1) all) after more
field_made p text class all rest i d left after made more part lt behind says pushed before =
    let f : FieldDesc = get_or all i d in
    let first : drop i all ≡ f ∷ drop (i + 1) all = rw (add-one, drop-cons all i d) refl in
    let now = subst (λ (others : List FieldDesc). FieldsMade p text class all rest others left made) first before in
    let whole = one_more p text class all rest f (drop (i + 1) all) left made part (says (field_numbers p text class (drop (i + 1) all) rest) now.numbers) now in
    rw (pushed, behind) whole

-- the type of a field is a name
pub type_below : (count : ℕ) (fs : List FieldDesc) (i : ℕ) (f : FieldDesc) → list_all (field_below count) fs ≡ true → i < length fs → f ≡ get_or fs i f → f.ty.0 < count
type_below count fs i f all lt is =
    let here : field_below count (get_or fs i f) ≡ true = AllPass-from_list_all (field_below count) fs all i f lt in
    let own : field_below count f ≡ true = subst (λ (g : FieldDesc). field_below count g ≡ true) (sym is) here in
    let parts = and_parts (name_below count f.name) (name_below count f.ty && init_below count f.init) own in
    let more = and_parts (name_below count f.ty) (init_below count f.init) parts.1 in
    let test : nat_lt f.ty.0 count ≡ true = more.0 in
    grind (arith, nat_tests)

-- the numbers of a field are passed
pub field_passed : (p : Pools) (text : NameNo → List ℕ) (class : List ℕ) (f : FieldDesc) (rest : List ℕ)
    → behind_field f (map (index_of p) (named_by_field class (field_content text f)) ++ rest) ≡ rest
field_passed p text class f rest = init_passed p text f.init rest
