-- What every program keeps is kept when a file is added behind it.
use Rattle.std.proofs.Common.{◌≡◌, ℕ, ◌+◌, ◌<◌, ◌≤◌, nat_le, ◌&&◌, not, cond, List, [], ◌∷◌, ◌++◌, length, filter, Bool, true, false, Option, None, Some, IsTrue, inl, inr, arith, refl, sym, ◌∙◌}
use Rattle.std.specs.List.{list_all, list_any}
use Rattle.std.proofs.lemmas.Bool.{and_parts, and_from, or_parts, or_from, cases_Bool, ltb-true, lt-ltb, leb-true, le-leb, eqb-true, eq-eqb, not-true, not_from_false}
use Rattle.std.proofs.lemmas.List.{length-append, length_push}
use Rattle.std.proofs.lemmas.List.Folds.{list_all-append, list_any-append}
use Rattle.std.proofs.lemmas.List.Sums.{sum_by-append}
use Rattle.pi_model.specs.declared.numbers.NameNo.{NameNo}
use Rattle.pi_model.specs.declared.insn.Insn.{Insn}
use Rattle.pi_model.specs.declared.insn.Insn.TheVariants.{ConstString, ConstClass, CheckCast, InstanceOf, NewInstance, NewArray, Filled, Iget, Iput, Sget, Sput, Invoke}
use Rattle.pi_model.specs.declared.insn.FieldRef.{FieldRef}
use Rattle.pi_model.specs.declared.insn.MethodRef.{MethodRef}
use Rattle.pi_model.specs.declared.describe.ClassDesc.{ClassDesc}
use Rattle.pi_model.specs.declared.describe.FieldDesc.{FieldDesc}
use Rattle.pi_model.specs.declared.describe.MethodDesc.{MethodDesc}
use Rattle.pi_model.specs.declared.describe.Code.{Code}
use Rattle.pi_model.specs.declared.describe.Init.{Init}
use Rattle.pi_model.specs.declared.describe.Init.TheVariants.{Zero, Word, Long, Str, Cls}
use Rattle.pi_model.specs.Distinct.{all_distinct}
use Rattle.pi_model.specs.Uses.{name_below, names_below, optional_below, field_ref_below, method_ref_below, insn_below, line_below, catch_below, code_below, init_below, field_below, method_below, class_below}
use Rattle.pi_model.specs.Program.{FilePart, Program, same_name, new_types, with_file, no_files, field_count, method_count, IsCounted}
use Rattle.pi_model.specs.Valid.{of_file, of_files, part_below, IsProgram, FitsBehind}

-- a test that passes wherever another does
pub all_more : {X : Type 0} (p q : X → Bool) → ((x : X) → IsTrue (p x) → IsTrue (q x)) → (xs : List X) → IsTrue (list_all p xs) → IsTrue (list_all q xs)
all_more p q more [] h = refl
all_more p q more (x ∷ xs) h =
    let parts = and_parts (p x) (list_all p xs) h in
    and_from (q x) (list_all q xs) (more x parts.0) (all_more p q more xs parts.1)

pub name_more : (m n : ℕ) → m ≤ n → (x : NameNo) → IsTrue (name_below m x) → IsTrue (name_below n x)
name_more m n le x h = let k = ltb-true x.0 m h in lt-ltb x.0 n (omega arith)

pub names_more : (m n : ℕ) → m ≤ n → (xs : List NameNo) → IsTrue (names_below m xs) → IsTrue (names_below n xs)
names_more m n le xs h = all_more (name_below m) (name_below n) (name_more m n le) xs h

optional_more : (m n : ℕ) → m ≤ n → (x : Option NameNo) → IsTrue (optional_below m x) → IsTrue (optional_below n x)
optional_more m n le None h = refl
optional_more m n le (Some x) h = name_more m n le x h

-- both of two tests, by each
both_more : (a b c d : Bool) → (IsTrue a → IsTrue c) → (IsTrue b → IsTrue d) → IsTrue (a && b) → IsTrue (c && d)
both_more a b c d f g h = let parts = and_parts a b h in and_from c d (f parts.0) (g parts.1)

field_ref_more : (m n : ℕ) → m ≤ n → (f : FieldRef) → IsTrue (field_ref_below m f) → IsTrue (field_ref_below n f)
field_ref_more m n le f h =
    both_more _ _ _ _ (name_more m n le f.class) (both_more _ _ _ _ (name_more m n le f.name) (name_more m n le f.ty)) h

method_ref_more : (m n : ℕ) → m ≤ n → (r : MethodRef) → IsTrue (method_ref_below m r) → IsTrue (method_ref_below n r)
method_ref_more m n le r h =
    both_more _ _ _ _ (name_more m n le r.class) (both_more _ _ _ _ (name_more m n le r.name) (both_more _ _ _ _ (names_more m n le r.params) (name_more m n le r.ret))) h

insn_more : (m n : ℕ) → m ≤ n → (i : Insn) → IsTrue (insn_below m i) → IsTrue (insn_below n i)
insn_more m n le (ConstString a s) h = name_more m n le s h
insn_more m n le (ConstClass a t) h = name_more m n le t h
insn_more m n le (CheckCast a t) h = name_more m n le t h
insn_more m n le (InstanceOf a b t) h = name_more m n le t h
insn_more m n le (NewInstance a t) h = name_more m n le t h
insn_more m n le (NewArray a b t) h = name_more m n le t h
insn_more m n le (Filled t regs) h = name_more m n le t h
insn_more m n le (Iget kind a b f) h = field_ref_more m n le f h
insn_more m n le (Iput kind a b f) h = field_ref_more m n le f h
insn_more m n le (Sget kind a f) h = field_ref_more m n le f h
insn_more m n le (Sput kind a f) h = field_ref_more m n le f h
insn_more m n le (Invoke how r regs) h = method_ref_more m n le r h
insn_more m n le _ h = refl

code_more : (m n : ℕ) → m ≤ n → (c : Option Code) → IsTrue (code_below m c) → IsTrue (code_below n c)
code_more m n le None h = refl
code_more m n le (Some c) h =
    both_more _ _ _ _
    (all_more (line_below m) (line_below n) (λ l. insn_more m n le l.insn) c.insns)
    (all_more (catch_below m) (catch_below n) (λ k. optional_more m n le k.ty) c.tries)
    h

init_more : (m n : ℕ) → m ≤ n → (i : Init) → IsTrue (init_below m i) → IsTrue (init_below n i)
init_more m n le (Str x) h = name_more m n le x h
init_more m n le (Cls x) h = name_more m n le x h
init_more m n le Zero h = refl
init_more m n le (Word w) h = refl
init_more m n le (Long w) h = refl

field_more : (m n : ℕ) → m ≤ n → (f : FieldDesc) → IsTrue (field_below m f) → IsTrue (field_below n f)
field_more m n le f h =
    both_more _ _ _ _ (name_more m n le f.name) (both_more _ _ _ _ (name_more m n le f.ty) (init_more m n le f.init)) h

method_more : (m n : ℕ) → m ≤ n → (d : MethodDesc) → IsTrue (method_below m d) → IsTrue (method_below n d)
method_more m n le d h =
    both_more _ _ _ _ (name_more m n le d.name) (both_more _ _ _ _ (names_more m n le d.params) (both_more _ _ _ _ (name_more m n le d.ret) (code_more m n le d.code))) h

-- a class whose names are below a count has them below a greater one
pub class_more : (m n : ℕ) → m ≤ n → (d : ClassDesc) → IsTrue (class_below m d) → IsTrue (class_below n d)
class_more m n le d h =
    both_more _ _ _ _ (name_more m n le d.name) (both_more _ _ _ _ (optional_more m n le d.parent) (both_more _ _ _ _ (names_more m n le d.faces) (both_more _ _ _ _ (all_more (field_below m) (field_below n) (field_more m n le) d.fields) (all_more (method_below m) (method_below n) (method_more m n le) d.methods)))) h

filed_more : (m n : ℕ) → m ≤ n → (d : ClassDesc) → IsTrue (of_files m d) → IsTrue (of_files n d)
filed_more m n le d h = let k = ltb-true d.file.0 m h in lt-ltb d.file.0 n (omega arith)

filed_here : (m n : ℕ) → m < n → (d : ClassDesc) → IsTrue (of_file m d) → IsTrue (of_files n d)
filed_here m n lt d h = let k = eqb-true d.file.0 m h in lt-ltb d.file.0 n (omega arith)

part_more : (m n : ℕ) → m ≤ n → (part : FilePart) → IsTrue (part_below m part) → IsTrue (part_below n part)
part_more m n le part h =
    both_more (nat_le part.names_to m) _ (nat_le part.names_to n) _ (λ low. let k = leb-true part.names_to m low in le-leb part.names_to n (omega arith)) (names_more m n le part.types) h

-- all of two lists, by each
pub all_of_both : {X : Type 0} (p : X → Bool) (xs ys : List X) → IsTrue (list_all p xs) → IsTrue (list_all p ys) → IsTrue (list_all p (xs ++ ys))
all_of_both p xs ys f g = list_all-append p xs ys ∙ and_from (list_all p xs) (list_all p ys) f g

-- what passes stays all that passes another test
filter_all : {X : Type 0} (p q : X → Bool) (xs : List X) → IsTrue (list_all q xs) → IsTrue (list_all q (filter p xs))
filter_all p q [] h = refl
filter_all p q (x ∷ xs) h =
    let parts = and_parts (q x) (list_all q xs) h in
    let rest = filter_all p q xs parts.1 in
    elim (p x) as (λ v. IsTrue (list_all q (cond v (x ∷ filter p xs) (filter p xs)))) [
      | true ↦ and_from (q x) (list_all q (filter p xs)) parts.0 rest
      | false ↦ rest
    ]

-- what passes passes
filter_passes_all : {X : Type 0} (p : X → Bool) (xs : List X) → IsTrue (list_all p (filter p xs))
filter_passes_all p [] = refl
filter_passes_all p (x ∷ xs) =
    let rest = filter_passes_all p xs in
    elim (cases_Bool (p x)) [
      | inl e ↦ rw e (and_from (p x) (list_all p (filter p xs)) e rest)
      | inr e ↦ rw e rest
    ]

-- no more is found among what passes
filter_none : {X : Type 0} (p q : X → Bool) (xs : List X) → list_any q xs ≡ false → list_any q (filter p xs) ≡ false
filter_none p q [] h = refl
filter_none p q (x ∷ xs) h =
    let parts = or_parts (q x) (list_any q xs) h in
    let rest = filter_none p q xs parts.1 in
    elim (p x) as (λ v. list_any q (cond v (x ∷ filter p xs) (filter p xs)) ≡ false) [
      | true ↦ or_from (q x) (list_any q (filter p xs)) parts.0 rest
      | false ↦ rest
    ]

distinct_parts : {X : Type 0} (same : X → X → Bool) (x : X) (xs : List X) → IsTrue (all_distinct same (x ∷ xs)) → (list_any (same x) xs ≡ false) × IsTrue (all_distinct same xs)
distinct_parts same x xs h =
    elim (cases_Bool (list_any (same x) xs)) [
      | inl e ↦ let k : false ≡ true = rw e at h in cc
      | inr e ↦ let k : all_distinct same xs ≡ true = rw e at h in (e, k)
    ]

distinct_from : {X : Type 0} (same : X → X → Bool) (x : X) (xs : List X) → list_any (same x) xs ≡ false → IsTrue (all_distinct same xs) → IsTrue (all_distinct same (x ∷ xs))
distinct_from same x xs e h = rw e h

filter_distinct : {X : Type 0} (same : X → X → Bool) (p : X → Bool) (xs : List X) → IsTrue (all_distinct same xs) → IsTrue (all_distinct same (filter p xs))
filter_distinct same p [] h = refl
filter_distinct same p (x ∷ xs) h =
    let parts = distinct_parts same x xs h in
    let rest = filter_distinct same p xs parts.1 in
    elim (p x) as (λ v. IsTrue (all_distinct same (cond v (x ∷ filter p xs) (filter p xs)))) [
      | true ↦ distinct_from same x (filter p xs) (filter_none p (same x) xs parts.0) rest
      | false ↦ rest
    ]

-- the name is none of some
absent : List NameNo → NameNo → Bool
absent xs t = not (list_any (same_name t) xs)

same_name_back : (a b : NameNo) → same_name a b ≡ false → same_name b a ≡ false
same_name_back a b e =
    elim (cases_Bool (same_name b a)) [
      | inl t ↦ let k = eq-eqb a.0 b.0 (sym (eqb-true b.0 a.0 t)) in cc
      | inr f ↦ f
    ]

absent_parts : (x : NameNo) (xs : List NameNo) (t : NameNo) → IsTrue (absent (x ∷ xs) t) → (same_name t x ≡ false) × (list_any (same_name t) xs ≡ false)
unfolding absent
absent_parts x xs t h = or_parts (same_name t x) (list_any (same_name t) xs) (not-true _ h)

absent_head : (x : NameNo) (xs ys : List NameNo) → IsTrue (list_all (absent (x ∷ xs)) ys) → list_any (same_name x) ys ≡ false
absent_head x xs [] h = refl
absent_head x xs (y ∷ ys) h =
    let parts = and_parts (absent (x ∷ xs) y) (list_all (absent (x ∷ xs)) ys) h in
    or_from (same_name x y) (list_any (same_name x) ys) (same_name_back y x (absent_parts x xs y parts.0).0) (absent_head x xs ys parts.1)

absent_tail : (x : NameNo) (xs : List NameNo) (t : NameNo) → IsTrue (absent (x ∷ xs) t) → IsTrue (absent xs t)
unfolding absent
absent_tail x xs t h = not_from_false _ (absent_parts x xs t h).1

-- names that are none of the others stand apart from them
distinct_behind : (xs ys : List NameNo) → IsTrue (all_distinct same_name xs) → IsTrue (all_distinct same_name ys) → IsTrue (list_all (absent xs) ys) → IsTrue (all_distinct same_name (xs ++ ys))
distinct_behind [] ys f g h = g
distinct_behind (x ∷ xs) ys f g h =
    let parts = distinct_parts same_name x xs f in
    let rest = distinct_behind xs ys parts.1 g (all_more (absent (x ∷ xs)) (absent xs) (absent_tail x xs) ys h) in
    distinct_from same_name x (xs ++ ys) (list_any-append (same_name x) xs ys ∙ or_from _ _ parts.0 (absent_head x xs ys h)) rest

fresh_absent : (old types : List NameNo) → IsTrue (list_all (absent old) (new_types old types))
unfolding absent
fresh_absent old types = filter_passes_all (λ t. not (list_any (same_name t) old)) types

-- the types of a program stay distinct
types_behind : (old types : List NameNo) → IsTrue (all_distinct same_name old) → IsTrue (all_distinct same_name types) → IsTrue (all_distinct same_name (old ++ new_types old types))
types_behind old types f g =
    distinct_behind old (new_types old types) f (filter_distinct same_name (λ t. not (list_any (same_name t) old)) types g) (fresh_absent old types)

-- the program of no file keeps it all
pub kept_at_first : IsProgram no_files
kept_at_first = record {
  counted = record { names = omega arith; types = omega arith; classes = omega arith; fields = omega arith; methods = omega arith; files = omega arith };
  names_distinct = refl;
  types_distinct = refl;
  types_named = refl;
  classes_named = refl;
  classes_filed = refl;
  parts_named = refl;
}

counted_behind : (p : Program) (names : List (List ℕ)) (types : List NameNo) (classes : List ClassDesc) → FitsBehind p names types classes → IsCounted (with_file p names types classes)
counted_behind p names types classes f = record {
  names = omega (arith, length-append p.names names, f.names_count);
  types = omega (arith, length-append p.types (new_types p.types types), f.types_count);
  classes = omega (arith, length-append p.classes classes, f.classes_count);
  fields = omega (arith, sum_by-append field_count p.classes classes, f.fields_count);
  methods = omega (arith, sum_by-append method_count p.classes classes, f.methods_count);
  files = omega (arith, length_push p.files (record { names_to = length p.names + length names; types = types }), f.files);
}

-- a file that fits behind a program leads to a program
pub kept_behind : (p : Program) (names : List (List ℕ)) (types : List NameNo) (classes : List ClassDesc) → IsProgram p → FitsBehind p names types classes → IsProgram (with_file p names types classes)
kept_behind p names types classes k f =
    let more : length p.names ≤ length (p.names ++ names) = omega (arith, length-append p.names names) in
    let sum : length p.names + length names ≤ length (p.names ++ names) = omega (arith, length-append p.names names) in
    let part : FilePart = record { names_to = length p.names + length names; types = types } in
    let files : length (p.files ++ part ∷ []) ≡ length p.files + 1 = length_push p.files part in
    record {
      counted = counted_behind p names types classes f;
      names_distinct = f.names_distinct;
      types_distinct = types_behind p.types types k.types_distinct f.types_distinct;
      types_named = all_of_both _ p.types (new_types p.types types) (names_more _ _ more p.types k.types_named) (filter_all _ _ types (names_more _ _ sum types f.types_named));
      classes_named = all_of_both _ p.classes classes (all_more _ _ (class_more _ _ more) p.classes k.classes_named) (all_more _ _ (class_more _ _ sum) classes f.classes_named);
      classes_filed = all_of_both _ p.classes classes (all_more _ _ (filed_more (length p.files) _ (omega arith)) p.classes k.classes_filed) (all_more _ _ (filed_here (length p.files) _ (omega arith)) classes f.classes_filed);
      parts_named = all_of_both _ p.files (part ∷ []) (all_more _ _ (part_more _ _ more) p.files k.parts_named) (and_from _ _ (and_from _ _ (le-leb part.names_to _ sum) (names_more _ _ sum types f.types_named)) refl);
    }

-- the same of the four lists that make up the new program
pub kept_as : (p : Program) (names : List (List ℕ)) (types : List NameNo) (classes : List ClassDesc) (ns : List (List ℕ)) (ts : List NameNo) (ds : List ClassDesc) (fs : List FilePart) → IsProgram p → FitsBehind p names types classes → ns ≡ p.names ++ names → ts ≡ p.types ++ new_types p.types types → ds ≡ p.classes ++ classes → fs ≡ p.files ++ record { names_to = length p.names + length names; types = types } ∷ [] → IsProgram record { names = ns; types = ts; classes = ds; files = fs }
kept_as p names types classes ns ts ds fs k f a b c d = rw (a, b, c, d) (kept_behind p names types classes k f)
