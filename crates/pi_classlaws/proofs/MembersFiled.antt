-- That the members of a class, in the order of a file, are those of the class: what the rules ask of each of them is kept.
use Rattle.std.proofs.Common.{◌≡◌, ℕ, Bool, true, false, ◌&&◌, ◌||◌, not, cond, List, [], ◌∷◌, ◌++◌, map, filter, Ordering, IsTrue, ◌⊎◌, inl, inr, refl, sym, ap, ◌∙◌, subst}
use Rattle.std.specs.List.{list_all, list_any}
use Rattle.std.specs.List.Sorted.{IsPermutation}
use Rattle.std.proofs.lemmas.Bool.{and_parts, and_from, or_cases, or_left, or_right}
use Rattle.std.proofs.lemmas.Cmp.{nat_list_eq_equiv}
use Rattle.std.proofs.lemmas.List.Folds.{list_all-map}
use Rattle.std.proofs.lemmas.List.Sorted.{IsPermutation-append, IsPermutation-trans, IsPermutation-map, IsPermutation-filter_both}
use Rattle.pi_model.specs.Distinct.{all_distinct}
use Rattle.pi_model.specs.Flags.{is_static, is_interface}
use Rattle.pi_model.specs.Texts.{same_text}
use Rattle.pi_model.proofs.Kept.{all_more}
use Rattle.pi_contents.specs.Contents.{FieldContent, MethodContent, ClassContent}
use Rattle.pi_contents.specs.Asked.{same_texts, same_field, same_method, field_is_listed, method_is_listed, is_direct, members_fit, inits_fit, is_set, static_fits, init_fits, has_init, argument_words, body_fits, bodies_fit, lines_fit, codes_fit, class_fits, classes_fit}
use Rattle.pi_classtables.specs.Sorted.{arranged}
use Rattle.pi_classtables.specs.Sized.{code_rises, sparse_rises}
use Rattle.pi_classtables.specs.Whole.{Added, Method, methods_with, added_methods, field_rank, method_rank, statics_of, instances_of, directs_of, virtuals_of, filed, classes_added}
use Rattle.pi_classlaws.proofs.Reordered.{tests_reordered, distinct_reordered}
use Rattle.pi_classlaws.proofs.ArrangedKept.{arranged_moved, tests_arranged, any_arranged}

-- members of one kind and then those of the other, each arranged, are all members
parted : {A : Type 0} (cmp : A → A → Ordering) (p : A → Bool) (xs : List A)
    → IsPermutation xs (arranged cmp (filter p xs) ++ arranged cmp (filter (λ x. not (p x)) xs))
parted cmp p xs =
    IsPermutation-trans xs (filter p xs ++ filter (λ x. not (p x)) xs) (arranged cmp (filter p xs) ++ arranged cmp (filter (λ x. not (p x)) xs))
    (IsPermutation-filter_both p (λ x. not (p x)) (λ x. refl) xs)
    (IsPermutation-append (filter p xs) (arranged cmp (filter p xs)) (filter (λ x. not (p x)) xs) (arranged cmp (filter (λ x. not (p x)) xs))
    (arranged_moved cmp (filter p xs)) (arranged_moved cmp (filter (λ x. not (p x)) xs)))

pub fields_moved : (c : ClassContent) → IsPermutation c.fields (statics_of c ++ instances_of c)
fields_moved c = parted field_rank (λ (f : FieldContent). is_static f.flags) c.fields

pub methods_moved : (e : Added) → IsPermutation (added_methods e) (directs_of e ++ virtuals_of e)
methods_moved e = parted method_rank (λ (m : Method). is_direct m.content) (added_methods e)

-- the methods that are added are those of the class
pub methods_again : (ms : List MethodContent) (sparse : List (List ℕ)) → map (λ (m : Method). m.content) (methods_with ms sparse) ≡ ms
methods_again [] sparse = refl
methods_again (m ∷ ms) [] = ap (λ (ns : List MethodContent). m ∷ ns) (methods_again ms [])
methods_again (m ∷ ms) (s ∷ ss) = ap (λ (ns : List MethodContent). m ∷ ns) (methods_again ms ss)

pub contents_moved : (e : Added) → IsPermutation e.class.methods (map (λ (m : Method). m.content) (directs_of e ++ virtuals_of e))
contents_moved e =
    let moved = IsPermutation-map (λ (m : Method). m.content) (added_methods e) (directs_of e ++ virtuals_of e) (methods_moved e) in
    subst (λ (ms : List MethodContent). IsPermutation ms (map (λ (m : Method). m.content) (directs_of e ++ virtuals_of e)))
    (methods_again e.class.methods e.sparse) moved

-- two members are the same whichever is named first
text_back : (a b : List ℕ) → same_text a b ≡ same_text b a
text_back a b = nat_list_eq_equiv.symm a b

texts_back : (as_ bs : List (List ℕ)) → same_texts as_ bs ≡ same_texts bs as_
texts_back [] [] = refl
texts_back [] (b ∷ bs) = refl
texts_back (a ∷ as_) [] = refl
texts_back (a ∷ as_) (b ∷ bs) = rw (text_back a b, texts_back as_ bs) refl

pub field_back : (f g : FieldContent) → same_field f g ≡ same_field g f
field_back f g = rw (text_back f.name g.name, text_back f.ty g.ty) refl

pub method_back : (m n : MethodContent) → same_method m n ≡ same_method n m
method_back m n = rw (text_back m.name n.name, text_back m.proto.ret n.proto.ret, texts_back m.proto.params n.proto.params) refl

-- so the members stand once each, and are listed
both_reordered : {A : Type 0} (same : A → A → Bool) (back : (x y : A) → same x y ≡ same y x) (p : A → Bool) (xs ys : List A) → IsPermutation xs ys
    → (all_distinct same xs && list_all p xs) ≡ true → (all_distinct same ys && list_all p ys) ≡ true
both_reordered same back p xs ys moved h =
    let parts = and_parts (all_distinct same xs) (list_all p xs) h in
    and_from (all_distinct same ys) (list_all p ys) (distinct_reordered same back xs ys moved parts.0) (tests_reordered p xs ys moved parts.1)

members_filed : (e : Added) → IsTrue (members_fit e.class) → IsTrue (members_fit (filed e))
unfolding filed
members_filed e h =
    let c : ClassContent = e.class in
    let listed : FieldContent → Bool = field_is_listed (is_interface c.flags) in
    let given : MethodContent → Bool = method_is_listed (is_interface c.flags) in
    let fields : List FieldContent = statics_of c ++ instances_of c in
    let methods : List MethodContent = map (λ (m : Method). m.content) (directs_of e ++ virtuals_of e) in
    let parts = and_parts (all_distinct same_field c.fields && list_all listed c.fields) (all_distinct same_method c.methods && list_all given c.methods) h in
    and_from (all_distinct same_field fields && list_all listed fields) (all_distinct same_method methods && list_all given methods)
    (both_reordered same_field field_back listed c.fields fields (fields_moved c) parts.0)
    (both_reordered same_method method_back given c.methods methods (contents_moved e) parts.1)

pub all_members_filed : (es : List Added) → IsTrue (list_all members_fit (classes_added es)) → IsTrue (list_all members_fit (map filed es))
all_members_filed es h =
    list_all-map members_fit filed es
    ∙ all_more (λ (e : Added). members_fit e.class) (λ (e : Added). members_fit (filed e)) members_filed es
    (sym (list_all-map members_fit (λ (e : Added). e.class) es) ∙ h)

-- names, superclasses and interfaces stay
names_filed : (es : List Added) → map (λ (c : ClassContent). c.name) (map filed es) ≡ map (λ (c : ClassContent). c.name) (classes_added es)
unfolding filed
names_filed [] = refl
names_filed (e ∷ es) = ap (λ (ns : List (List ℕ)). e.class.name ∷ ns) (names_filed es)

fits_filed : (all before : List (List ℕ)) (es : List Added) → classes_fit all before (map filed es) ≡ classes_fit all before (classes_added es)
unfolding filed
fits_filed all before [] = refl
fits_filed all before (e ∷ es) = ap (λ (b : Bool). class_fits all before e.class && b) (fits_filed all (before ++ e.class.name ∷ []) es)

pub classes_filed : (es : List Added)
    → classes_fit (map (λ (c : ClassContent). c.name) (map filed es)) [] (map filed es)
    ≡ classes_fit (map (λ (c : ClassContent). c.name) (classes_added es)) [] (classes_added es)
classes_filed es =
    ap (λ (all : List (List ℕ)). classes_fit all [] (map filed es)) (names_filed es)
    ∙ fits_filed (map (λ (c : ClassContent). c.name) (classes_added es)) [] es

-- static fields are set as the fields of the class are
any_kept : {A : Type 0} (p q : A → Bool) (xs : List A) → list_any q (filter p xs) ≡ list_any (λ x. p x && q x) xs
any_kept p q [] = refl
any_kept p q (x ∷ xs) = by (p x) (any_kept p q xs)
  where
    by : (b : Bool) → list_any q (filter p xs) ≡ list_any (λ y. p y && q y) xs
        → list_any q (cond b (x ∷ filter p xs) (filter p xs)) ≡ ((b && q x) || list_any (λ y. p y && q y) xs)
    by true more = ap (λ (b : Bool). q x || b) more
    by false more = more

all_kept : {A : Type 0} (p q : A → Bool) (xs : List A) → list_all q (filter p xs) ≡ list_all (λ x. not (p x) || q x) xs
all_kept p q [] = refl
all_kept p q (x ∷ xs) = by (p x) (all_kept p q xs)
  where
    by : (b : Bool) → list_all q (filter p xs) ≡ list_all (λ y. not (p y) || q y) xs
        → list_all q (cond b (x ∷ filter p xs) (filter p xs)) ≡ ((not b || q x) && list_all (λ y. not (p y) || q y) xs)
    by true more = ap (λ (b : Bool). q x && b) more
    by false more = more

pub inits_filed : (c : ClassContent) → IsTrue (inits_fit c)
    → IsTrue (not (list_any (λ (f : FieldContent). has_init f.init) (statics_of c)) || list_all (λ (f : FieldContent). init_fits f.ty f.init) (statics_of c))
inits_filed c h = by_set (or_cases (not (list_any is_set c.fields)) (list_all static_fits c.fields) h)
  where
    static : FieldContent → Bool
    static f = is_static f.flags

    set : FieldContent → Bool
    set f = has_init f.init

    fits : FieldContent → Bool
    fits f = init_fits f.ty f.init

    any_set : list_any set (statics_of c) ≡ list_any is_set c.fields
    any_set = any_arranged field_rank set (filter static c.fields) ∙ any_kept static set c.fields

    by_set : (not (list_any is_set c.fields) ≡ true) ⊎ (list_all static_fits c.fields ≡ true)
        → (not (list_any set (statics_of c)) || list_all fits (statics_of c)) ≡ true
    by_set (inl none) = or_left (not (list_any set (statics_of c))) (list_all fits (statics_of c)) (ap not any_set ∙ none)
    by_set (inr all) =
        or_right (not (list_any set (statics_of c))) (list_all fits (statics_of c))
        (tests_arranged field_rank fits (filter static c.fields) (all_kept static fits c.fields ∙ all))

-- and what holds of the codes of a class holds of the methods in order
contents_pass : (p : MethodContent → Bool) (e : Added) → list_all p e.class.methods ≡ true
    → list_all (λ (m : Method). p m.content) (directs_of e ++ virtuals_of e) ≡ true
contents_pass p e h =
    sym (list_all-map p (λ (m : Method). m.content) (directs_of e ++ virtuals_of e))
    ∙ tests_reordered p e.class.methods (map (λ (m : Method). m.content) (directs_of e ++ virtuals_of e)) (contents_moved e) h

pub bodies_filed : (e : Added) → IsTrue (bodies_fit e.class)
    → IsTrue (list_all (λ (m : Method). body_fits (argument_words m.content) m.content.code) (directs_of e ++ virtuals_of e))
bodies_filed e h = contents_pass (λ (m : MethodContent). body_fits (argument_words m) m.code) e h

pub codes_filed : (e : Added) → IsTrue (codes_fit e.class)
    → IsTrue (list_all (λ (m : Method). lines_fit m.content.code) (directs_of e ++ virtuals_of e))
codes_filed e h = contents_pass (λ (m : MethodContent). lines_fit m.code) e h

pub sparse_filed : (e : Added) → IsTrue (sparse_rises e)
    → IsTrue (list_all (λ (m : Method). code_rises m.sparse m.content.code) (directs_of e ++ virtuals_of e))
sparse_filed e h =
    tests_reordered (λ (m : Method). code_rises m.sparse m.content.code) (added_methods e) (directs_of e ++ virtuals_of e) (methods_moved e) h
