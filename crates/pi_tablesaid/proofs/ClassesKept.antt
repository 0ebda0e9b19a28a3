-- Classes that fit by their names make a file keep X17: two types are one exactly where their descriptors are the same.
use Rattle.std.proofs.Common.{◌≡◌, ℕ, zero, suc, ◌+◌, ◌<◌, ◌≤◌, not, List, [], ◌∷◌, ◌++◌, length, take, get_or, map, Bool, true, false, Option, Some, None, option_map, Less, Equal, inl, inr, refl, sym, ap, ap₂, ◌∙◌, subst, arith, append_assoc, append-nil, take_all}
use Rattle.std.specs.Prelude.{◌==◌, ◌&&◌, ◌||◌, nat_eq, slice_get, IfSome, IsTrue, All, if◌then◌else◌}
use Rattle.std.specs.Cmp.Lexicographic.{slice_cmp}
use Rattle.std.specs.List.{list_all, list_any}
use Rattle.std.specs.List.Sorted.{IsStrictlySortedBy}
use Rattle.std.specs.Ordering.{nat_cmp}
use Rattle.std.proofs.lemmas.Bool.{and_parts, cases_Bool, cases_order, eq-eqb, ne_eqb, lt-ltb}
use Rattle.std.proofs.lemmas.Cmp.{nat_eq_equiv, nat_list_eq_equiv, nat_list_cmp_total, tied_itself}
use Rattle.std.proofs.lemmas.List.{length-map}
use Rattle.std.proofs.lemmas.List.Elements.{All-head, All-tail}
use Rattle.std.proofs.lemmas.List.Folds.{list_all-map}
use Rattle.std.proofs.lemmas.Map.Keys.{Less-from_sorted, below_from_sorted}
use Rattle.std.proofs.lemmas.Option.{slice_get-map, slice_get_within, same_Some}
use Rattle.pi_model.specs.Distinct.{all_distinct}
use Rattle.pi_model.specs.Texts.{same_text}
use Rattle.pi_bytes.specs.Numbers.{no_index}
use Rattle.pi_format.specs.Tables.{class_defs}
use Rattle.pi_format.specs.Rules.Entries.{some_from}
use Rattle.pi_format.specs.Rules.Descriptors.{is_class_type}
use Rattle.pi_format.specs.Rules.Classes.{ClassEntry, class_entry, is_class_id, is_defined_in, stands_earlier, is_object, parent_holds, faces_hold, class_holds, broken_classes}
use Rattle.pi_format.proofs.Every.{all_weaker}
use Rattle.pi_said.proofs.Names.{text_equal}
use Rattle.pi_dextables.specs.declared.tables.Class.{Class}
use Rattle.pi_dextables.specs.declared.tables.Tables.{Tables}
use Rattle.pi_dextables.specs.Image.{parent_word}
use Rattle.pi_dextables.specs.Said.{ListSaid, ClassSaid, IsSaid}
use Rattle.pi_dextables.specs.Writable.{IsHalf, ClassFits, IsWritable}
use Rattle.pi_dextables.proofs.Each.{all_got}
use Rattle.pi_contents.specs.Contents.{ClassContent}
use Rattle.pi_contents.specs.Asked.{is_object as is_object_name, stands_earlier as stands_before, parent_fits, faces_fit, class_fits, classes_fit}
use Rattle.pi_tablesaid.specs.Entries.{type_at}
use Rattle.pi_tablesaid.specs.Content.{class_said, content_of}
use Rattle.pi_tablesaid.specs.Closed.{IsString, IsType, ClassCloses, IsClosed}
use Rattle.pi_tablesaid.proofs.TypesKept.{entries_keep, type_is}

-- an element stands at each place of a list
pub there : {X : Type 0} (xs : List X) (k : ℕ) → k < length xs → (x : X) × (slice_get xs k ≡ Some x)
there [] k lt = absurd (omega arith)
there (x ∷ xs) zero lt = (x, refl)
there (x ∷ xs) (suc k) lt = there xs k (omega arith)

-- the strings of types are there, and types rise with them
pub record TypesRise (t : Tables) : Type 0 where
  pub strings : IsStrictlySortedBy (slice_cmp nat_cmp) t.strings
  pub named : All (IsString t) t.types
  pub types : IsStrictlySortedBy nat_cmp t.types

texts_differ : (a b : List ℕ) → slice_cmp nat_cmp a b ≡ Less → same_text a b ≡ false
texts_differ a b less =
    elim (cases_Bool (same_text a b)) [
      | inl e ↦
          let same : a ≡ b = text_equal a b e in
          let tie : slice_cmp nat_cmp b b ≡ Equal = tied_itself nat_list_cmp_total b in
          let here : slice_cmp nat_cmp b b ≡ Less = subst (λ (x : List ℕ). slice_cmp nat_cmp x b ≡ Less) same less in
          cc
      | inr e ↦ e
    ]

types_differ : (t : Tables) → TypesRise t → (i j : ℕ) → i < j → IsType t j → same_text (type_at t i) (type_at t j) ≡ false
types_differ t rise i j less lt =
    texts_differ (type_at t i) (type_at t j)
    (Less-from_sorted (slice_cmp nat_cmp) t.strings (get_or t.types i 0) (get_or t.types j 0) [] rise.strings
    (below_from_sorted t.types i j 0 rise.types less lt) (rise.named j 0 lt))

pub types_rise : (t : Tables) → IsWritable t → IsClosed t → TypesRise t
types_rise t fits closed = record { strings = fits.strings_rise; named = closed.types; types = closed.types_rise }

-- two types have one descriptor exactly where they are one
pub same_type : (t : Tables) → TypesRise t → (i j : ℕ) → IsType t i → IsType t j → same_text (type_at t i) (type_at t j) ≡ (i == j)
same_type t rise i j at_i at_j =
    elim (cases_order i j) [
      | inl e ↦
          let yes : (i == j) ≡ true = eq-eqb i j e in
          let itself : same_text (type_at t i) (type_at t i) ≡ true = nat_list_eq_equiv.refl (type_at t i) in
          subst (λ (k : ℕ). same_text (type_at t i) (type_at t k) ≡ true) e itself ∙ sym yes
      | inr (inl lt) ↦
          let no : (i == j) ≡ false = ne_eqb i j (λ e. omega arith) in
          types_differ t rise i j lt at_j ∙ sym no
      | inr (inr gt) ↦
          let no : (i == j) ≡ false = ne_eqb i j (λ e. omega arith) in
          nat_list_eq_equiv.symm (type_at t i) (type_at t j) ∙ types_differ t rise j i gt at_i ∙ sym no
    ]

-- the same of tests on lists of types
alike : {X : Type 0} (P : X → Type 0) (p q : X → Bool) (xs : List X) → All P xs → ((x : X) → P x → p x ≡ q x) → list_all p xs ≡ list_all q xs
alike P p q [] all same = refl
alike P p q (x ∷ xs) all same =
    ap₂ (λ (a b : Bool). a && b) (same x (All-head P x xs all)) (alike P p q xs (All-tail P x xs all) same)

any_alike : (t : Tables) → TypesRise t → (i : ℕ) → IsType t i → (types : List ℕ) → All (IsType t) types
    → list_any (same_text (type_at t i)) (map (type_at t) types) ≡ list_any (nat_eq i) types
any_alike t rise i lt [] all = refl
any_alike t rise i lt (j ∷ js) all =
    ap₂ (λ (a b : Bool). a || b) (same_type t rise i j lt (All-head (IsType t) j js all)) (any_alike t rise i lt js (All-tail (IsType t) j js all))

distinct_alike : (t : Tables) → TypesRise t → (types : List ℕ) → All (IsType t) types
    → all_distinct same_text (map (type_at t) types) ≡ all_distinct nat_eq types
distinct_alike t rise [] all = refl
distinct_alike t rise (i ∷ is) all =
    ap₂ (λ (a b : Bool). if a then false else b) (any_alike t rise i (All-head (IsType t) i is all) is (All-tail (IsType t) i is all))
    (distinct_alike t rise is (All-tail (IsType t) i is all))

-- a test of the first numbers is one of the first elements of a list, if each number passes it as the element there does
some_listed : {X : Type 0} (test : ℕ → Bool) (p : X → Bool) (i n : ℕ) (xs : List X) → n ≤ length xs
    → ((k : ℕ) (x : X) → slice_get xs k ≡ Some x → test (i + k) ≡ p x) → some_from test i n ≡ list_any p (take n xs)
some_listed test p i zero xs le same = refl
some_listed test p i (suc n) [] le same = absurd (omega arith)
some_listed test p i (suc n) (x ∷ xs) le same =
    let here : i + 0 ≡ i = omega arith in
    let first : test i ≡ p x = subst (λ (j : ℕ). test j ≡ p x) here (same 0 x refl) in
    let place : (k : ℕ) → i + suc k ≡ i + 1 + k = λ k. omega arith in
    ap₂ (λ (a b : Bool). a || b) first
    (some_listed test p (i + 1) n xs (omega arith) (λ k y e. subst (λ (j : ℕ). test j ≡ p y) (place k) (same (suc k) y e)))

-- the names of the classes
abbrev names : Tables → List (List ℕ)
names t = map (λ (c : ClassContent). c.name) (content_of t)

length-names : (t : Tables) → length (names t) ≡ length t.classes
length-names t = omega (arith, length-map (content_of t) (λ (c : ClassContent). c.name), length-map t.classes (class_said t))

name_there : (t : Tables) (k : ℕ) (c : Class) → slice_get t.classes k ≡ Some c → slice_get (names t) k ≡ Some (type_at t c.class)
unfolding class_said
name_there t k c e = rw (slice_get-map (λ (d : ClassContent). d.name) (content_of t) k, slice_get-map (class_said t) t.classes k, e) refl

-- the classes of a file are those of the tables, with types that there are
record ClassesStand (file : List ℕ) (t : Tables) : Type 0 where
  said : IsSaid file t
  rise : TypesRise t
  types : All (λ c. IsType t c.class) t.classes

class_told : (file : List ℕ) (t : Tables) → ClassesStand file t → (i k : ℕ) (c : Class) → IsType t i → slice_get t.classes k ≡ Some c
    → ((class_entry file (0 + k)).class == i) ≡ same_text (type_at t i) (type_at t c.class)
class_told file t stand i k c lt e =
    let said : (class_entry file k).class ≡ c.class = (stand.said.class k c e).class in
    let place : 0 + k ≡ k = omega arith in
    let type : IsType t c.class = all_got (λ (d : Class). IsType t d.class) t.classes k c stand.types e in
    rw (place, said) (nat_eq_equiv.symm c.class i ∙ sym (same_type t stand.rise i c.class lt type))

defined_alike : (file : List ℕ) (t : Tables) → ClassesStand file t → (n i : ℕ) → n ≤ length t.classes → IsType t i
    → is_defined_in file n i ≡ list_any (same_text (type_at t i)) (take n (names t))
unfolding is_defined_in
defined_alike file t stand n i le lt =
    some_listed (λ k. (class_entry file k).class == i) (same_text (type_at t i)) 0 n (names t) (omega (arith, length-names t))
    (λ k name e. by_class k name e (there t.classes k (omega (arith, slice_get_within (names t) k name e, length-names t))))
  where
    by_class : (k : ℕ) (name : List ℕ) → slice_get (names t) k ≡ Some name → (c : Class) × (slice_get t.classes k ≡ Some c)
        → ((class_entry file (0 + k)).class == i) ≡ same_text (type_at t i) name
    by_class k name e (c, is) =
        let same : type_at t c.class ≡ name = same_Some (type_at t c.class) name (sym (name_there t k c is) ∙ e) in
        class_told file t stand i k c lt is ∙ ap (same_text (type_at t i)) same

earlier_alike : (file : List ℕ) (t : Tables) → ClassesStand file t → (n i : ℕ) → n ≤ length t.classes → IsType t i
    → stands_earlier file n i ≡ stands_before (names t) (take n (names t)) (type_at t i)
unfolding stands_earlier
earlier_alike file t stand n i le lt =
    let all : take (length t.classes) (names t) ≡ names t = take_all (length t.classes) (names t) (omega (arith, length-names t)) in
    rw (stand.said.classes, defined_alike file t stand (length t.classes) i (omega arith) lt, defined_alike file t stand n i le lt, all) refl

-- a class type, by its number
class_alike : (file : List ℕ) (t : Tables) → ClassesStand file t → (i : ℕ) → IsType t i → is_class_id file i ≡ is_class_type (type_at t i)
class_alike file t stand i lt =
    rw (stand.said.types, lt-ltb i (length t.types) lt, type_is file t stand.said stand.rise.named i lt) refl

object_alike : (file : List ℕ) (t : Tables) → ClassesStand file t → (i : ℕ) → IsType t i → is_object file i ≡ is_object_name (type_at t i)
unfolding is_object
object_alike file t stand i lt = rw (type_is file t stand.said stand.rise.named i lt) refl

-- a superclass, and interfaces
parent_alike : (file : List ℕ) (t : Tables) → ClassesStand file t → (n : ℕ) (e : ClassEntry) (class : ℕ) (parent : Option ℕ) → n ≤ length t.classes
    → IsType t class → IfSome parent (IsType t) → IfSome parent IsHalf → e.class ≡ class → e.parent ≡ parent_word parent
    → parent_holds file n e ≡ parent_fits (names t) (take n (names t)) (type_at t class) (option_map (type_at t) parent)
unfolding parent_holds
parent_alike file t stand n e class None le at type half is at_none =
    let none : (e.parent == no_index) ≡ true = eq-eqb e.parent no_index at_none in
    rw (none, is) (object_alike file t stand class at)
parent_alike file t stand n e class (Some parent) le at type half is at_parent =
    let some : (parent == no_index) ≡ false = ne_eqb parent no_index (λ same. omega arith) in
    rw (at_parent, some, is, object_alike file t stand class at, stand.said.types, lt-ltb parent (length t.types) type, earlier_alike file t stand n parent le type) refl

faces_alike : (file : List ℕ) (t : Tables) → ClassesStand file t → (n : ℕ) (e : ClassEntry) (faces : List ℕ) → n ≤ length t.classes
    → All (IsType t) faces → ListSaid file e.faces faces → faces_hold file n e ≡ faces_fit (names t) (take n (names t)) (map (type_at t) faces)
unfolding faces_hold
faces_alike file t stand n e faces le types list =
    let test : ℕ → Bool = λ i. is_class_id file i && stands_earlier file n i in
    let named : List ℕ → Bool = λ name. is_class_type name && stands_before (names t) (take n (names t)) name in
    let each : list_all test faces ≡ list_all named (map (type_at t) faces) =
    alike (IsType t) test (λ i. named (type_at t i)) faces types
    (λ i lt. ap₂ (λ (a b : Bool). a && b) (class_alike file t stand i lt) (earlier_alike file t stand n i le lt))
    ∙ sym (list_all-map named (type_at t) faces) in
    rw (list.fits, list.is, each, distinct_alike t stand.rise faces types) refl

class_holds_as : (file : List ℕ) (t : Tables) → ClassesStand file t → (n : ℕ) (c : Class) → n ≤ length t.classes → ClassSaid file n c → ClassCloses t c
    → ClassFits c → class_holds file n ≡ class_fits (names t) (take n (names t)) (class_said t c)
unfolding class_said
class_holds_as file t stand n c le said closed fits =
    let both : (a b c d : Bool) → a ≡ b → c ≡ d → (a && c) ≡ (b && d) = λ a b c d f g. ap₂ (λ (x y : Bool). x && y) f g in
    both _ _ _ _ (ap (is_class_id file) said.class ∙ class_alike file t stand c.class closed.class)
    (both _ _ _ _ (ap (λ (i : ℕ). not (is_defined_in file n i)) said.class ∙ ap not (defined_alike file t stand n c.class le closed.class))
    (both _ _ _ _ (parent_alike file t stand n (class_entry file n) c.class c.parent le closed.class closed.parent fits.parent said.class said.parent)
    (faces_alike file t stand n (class_entry file n) c.faces le closed.faces said.faces)))

-- each class fits behind the names of those before it
fits_at : (all before : List (List ℕ)) (cs : List ClassContent) (k : ℕ) (c : ClassContent) → classes_fit all before cs ≡ true → slice_get cs k ≡ Some c
    → class_fits all (before ++ take k (map (λ (d : ClassContent). d.name) cs)) c ≡ true
fits_at all before [] k c fit e = cc
fits_at all before (d ∷ cs) zero c fit e =
    let first = (and_parts (class_fits all before d) (classes_fit all (before ++ d.name ∷ []) cs) fit).0 in
    rw (append-nil before, ← same_Some d c e) first
fits_at all before (d ∷ cs) (suc k) c fit e =
    let rest = (and_parts (class_fits all before d) (classes_fit all (before ++ d.name ∷ []) cs) fit).1 in
    rw append_assoc at (fits_at all (before ++ d.name ∷ []) cs k c rest e)

class_kept : (file : List ℕ) (t : Tables) → ClassesStand file t → IsWritable t → IsClosed t → classes_fit (names t) [] (content_of t) ≡ true
    → (k : ℕ) (c : Class) → slice_get t.classes k ≡ Some c → class_holds file k ≡ true
class_kept file t stand fits closed fit k c e =
    let lt : k < length t.classes = slice_get_within t.classes k c e in
    let said : ClassSaid file k c = stand.said.class k c e in
    let content : slice_get (content_of t) k ≡ Some (class_said t c) = slice_get-map (class_said t) t.classes k ∙ ap (option_map (class_said t)) e in
    class_holds_as file t stand k c (omega arith) said (all_got (ClassCloses t) t.classes k c closed.classes e) (all_got ClassFits t.classes k c fits.classes e)
    ∙ fits_at (names t) [] (content_of t) k (class_said t c) fit content

-- X17
pub classes_kept : (file : List ℕ) (t : Tables) → IsSaid file t → IsWritable t → IsClosed t
    → IsTrue (classes_fit (map (λ (c : ClassContent). c.name) (content_of t)) [] (content_of t)) → broken_classes file ≡ None
classes_kept file t said fits closed fit =
    let stand : ClassesStand file t = record {
      said = said;
      rise = types_rise t fits closed;
      types = all_weaker (ClassCloses t) (λ (c : Class). IsType t c.class) t.classes (λ c h. h.class) closed.classes;
    } in
    entries_keep file class_defs 32 (class_holds file) (length t.classes) said.classes
    (λ k lt. let c = there t.classes k lt in class_kept file t stand fits closed fit k c.0 c.1)
