-- The classes of each file of a chain keep what the format asks when later files join: names are only added behind.
use Rattle.std.proofs.Common.{◌≡◌, ℕ, suc, ◌+◌, ◌<◌, ◌≤◌, List, [], ◌∷◌, ◌++◌, length, filter, map, Bool, true, false, None, inl, inr, ◌⊎◌, cond, refl, sym, ap, ◌∙◌, subst, arith}
use Rattle.std.specs.Prelude.{◌==◌}
use Rattle.std.specs.List.{All, list_all}
use Rattle.std.proofs.lemmas.Bool.{and_parts, cases_eq, eqb-true, eq-eqb, ne_eqb, ltb-true}
use Rattle.std.proofs.lemmas.List.{append-nil, get_or_append_left}
use Rattle.std.proofs.lemmas.List.Elements.{filter-append}
use Rattle.std.proofs.lemmas.Option.{unwrap_or-slice_get}
use Rattle.pi_model.specs.declared.describe.ClassDesc.{ClassDesc}
use Rattle.pi_model.specs.Program.{Program, no_files}
use Rattle.pi_model.specs.Uses.{class_below}
use Rattle.pi_model.specs.Valid.{of_file, of_files, IsProgram}
use Rattle.pi_model.proofs.Kept.{kept_at_first}
use Rattle.pi_bytes.specs.Numbers.{most_bytes}
use Rattle.pi_format.specs.Rules.{broken_rule}
use Rattle.pi_format.specs.Says.{named_file, with_said, SaysBehind, Says, HasRoom}
use Rattle.pi_format.specs.Says.Names.{texts_of, new_names}
use Rattle.pi_format.specs.Says.Classes.{classes_said}
use Rattle.pi_said.proofs.Fold.{said_fits, said_keeps, said_has_room, one_file_more, no_files_room}
use Rattle.pi_contents.specs.Named.{text_in, content_in}
use Rattle.pi_contents.specs.Asked.{IsOfFormat}
use Rattle.pi_saidkeeps.specs.Chains.{AreBytes, classes_of}
use Rattle.pi_saidkeeps.proofs.Frame.{Agree, class_agrees}
use Rattle.pi_saidkeeps.proofs.Whole.{said_is_of_format}

-- a filter that keeps nothing, and one that keeps all
keeps_none : {A : Type 0} (p q : A → Bool) → ((x : A) → q x ≡ true → p x ≡ false) → (xs : List A) → list_all q xs ≡ true → filter p xs ≡ []
keeps_none p q fails [] h = refl
keeps_none p q fails (x ∷ xs) h =
    let parts = and_parts (q x) (list_all q xs) h in
    rw (fails x parts.0) (keeps_none p q fails xs parts.1)

keeps_all : {A : Type 0} (p q : A → Bool) → ((x : A) → q x ≡ true → p x ≡ true) → (xs : List A) → list_all q xs ≡ true → filter p xs ≡ xs
keeps_all p q passes [] h = refl
keeps_all p q passes (x ∷ xs) h =
    let parts = and_parts (q x) (list_all q xs) h in
    rw (passes x parts.0) (ap (λ ys. x ∷ ys) (keeps_all p q passes xs parts.1))

-- the images of what a filter keeps, by functions that give the same
kept_same : {A B : Type 0} (p q : A → Bool) (f g : A → B) → ((x : A) → q x ≡ true → f x ≡ g x) → (xs : List A) → list_all q xs ≡ true → map f (filter p xs) ≡ map g (filter p xs)
kept_same p q f g same [] h = refl
kept_same p q f g same (x ∷ xs) h =
    let parts = and_parts (q x) (list_all q xs) h in
    let here = same x parts.0 in
    let rest = kept_same p q f g same xs parts.1 in
    elim (p x) as (λ v. map f (cond v (x ∷ filter p xs) (filter p xs)) ≡ map g (cond v (x ∷ filter p xs) (filter p xs))) [
      | true ↦ cc
      | false ↦ rest
    ]

-- the classes of each file keep what the format asks
record Kept (p : Program) : Type 0 where
  each : (number : ℕ) → IsOfFormat (map (content_in p) (classes_of p number))

names_stay : (p : Program) (file : List ℕ) → Agree (text_in (with_said p file)) (text_in p) (length p.names)
unfolding with_said
names_stay p file = record {
  each = λ n h.
      let new = new_names p.names (texts_of file) in
      unwrap_or-slice_get (p.names ++ new) n.0 []
      ∙ (get_or_append_left p.names new [] n.0 (ltb-true n.0 (length p.names) h) ∙ sym (unwrap_or-slice_get p.names n.0 []));
}

-- the test that a class is of the file of a number
abbrev of_number : ℕ → ClassDesc → Bool
of_number number d = d.file.0 == number

-- the new classes are those of the new file
classes_more : (p : Program) (file : List ℕ) (number : ℕ)
    → classes_of (with_said p file) number ≡ classes_of p number ++ filter (of_number number) (classes_said (named_file p file) (length p.files))
unfolding with_said
classes_more p file number = filter-append (of_number number) p.classes (classes_said (named_file p file) (length p.files))

others_elsewhere : (p : Program) → IsProgram p → (number : ℕ) → number ≡ length p.files → classes_of p number ≡ []
others_elsewhere p keeps number e =
    keeps_none (of_number number) (of_files (length p.files))
    (λ d h. ne_eqb d.file.0 number (λ same. let lt = ltb-true d.file.0 (length p.files) h in absurd (omega arith))) p.classes keeps.classes_filed

new_here : (p : Program) (number : ℕ) → number ≡ length p.files → (cs : List ClassDesc) → list_all (of_file (length p.files)) cs ≡ true → filter (of_number number) cs ≡ cs
new_here p number e cs h =
    keeps_all (of_number number) (of_file (length p.files)) (λ d k. eq-eqb d.file.0 number (eqb-true d.file.0 (length p.files) k ∙ sym e)) cs h

new_elsewhere : (p : Program) (number : ℕ) → (number ≡ length p.files → ⊥) → (cs : List ClassDesc) → list_all (of_file (length p.files)) cs ≡ true → filter (of_number number) cs ≡ []
new_elsewhere p number other cs h =
    keeps_none (of_number number) (of_file (length p.files))
    (λ d k. ne_eqb d.file.0 number (λ same. other (sym same ∙ eqb-true d.file.0 (length p.files) k))) cs h

-- one file more
file_kept : (p : Program) (file : List ℕ) → IsProgram p → HasRoom p → length p.files < 8 → AreBytes file → length file ≤ most_bytes → broken_rule file ≡ None → Kept p → Kept (with_said p file)
file_kept p file keeps room few bytes short kept before = record { each = λ number. by_number number (cases_eq number (length p.files)) }
  where
    filed : list_all (of_file (length p.files)) (classes_said (named_file p file) (length p.files)) ≡ true
    filed = (said_fits p file keeps room few short kept).classes_filed

    by_number : (number : ℕ) → (number ≡ length p.files) ⊎ (number ≡ length p.files → ⊥) → IsOfFormat (map (content_in (with_said p file)) (classes_of (with_said p file) number))
    by_number number (inl e) =
        let said = classes_said (named_file p file) (length p.files) in
        let classes : classes_of (with_said p file) number ≡ said =
        classes_more p file number ∙ rw (others_elsewhere p keeps number e) (new_here p number e said filed) in
        subst (λ (cs : List ClassDesc). IsOfFormat (map (content_in (with_said p file)) cs)) (sym classes)
        (said_is_of_format p file (length p.files) bytes short kept)
    by_number number (inr other) =
        let said = classes_said (named_file p file) (length p.files) in
        let classes : classes_of (with_said p file) number ≡ classes_of p number =
        classes_more p file number ∙ rw (new_elsewhere p number other said filed) (append-nil (classes_of p number)) in
        let contents : map (content_in (with_said p file)) (classes_of p number) ≡ map (content_in p) (classes_of p number) =
        kept_same (of_number number) (class_below (length p.names)) (content_in (with_said p file)) (content_in p)
        (class_agrees (text_in (with_said p file)) (text_in p) (length p.names) (names_stay p file)) p.classes keeps.classes_named in
        subst IsOfFormat (sym (ap (map (content_in (with_said p file))) classes ∙ contents)) (before.each number)

nothing_kept : Kept no_files
nothing_kept = record { each = λ number. record { x13 = refl; x14 = refl; x15 = refl; x16 = refl; x17 = refl; x18 = refl; x19 = refl; x20 = refl; x21 = refl; x23 = refl } }

-- files one after the other
all_kept : (before : Program) (files : List (List ℕ)) (after : Program) → IsProgram before → HasRoom before → length before.files + length files ≤ 8
    → All AreBytes files → All (λ file. length file ≤ most_bytes) files → SaysBehind before files after → Kept before → Kept after
all_kept before [] after keeps room few bytes short says so_far = subst Kept (sym says) so_far
all_kept before (file ∷ files) after keeps room few bytes short says so_far =
    let size : length file ≤ most_bytes = short 0 [] (omega arith) in
    let here : AreBytes file = bytes 0 [] (omega arith) in
    let kept = says.0.kept in
    let more = one_file_more before file in
    all_kept (with_said before file) files after
    (said_keeps before file keeps room (omega arith) size kept) (said_has_room before file room size kept) (omega arith)
    (λ k d lt. bytes (suc k) d (omega arith)) (λ k d lt. short (suc k) d (omega arith)) says.1
    (file_kept before file keeps room (omega arith) here size kept so_far)

pub files_are_of_format : (files : List (List ℕ)) (p : Program) (number : ℕ) → Says files p → length files ≤ 8 → All AreBytes files → All (λ file. length file ≤ most_bytes) files
    → IsOfFormat (map (content_in p) (classes_of p number))
files_are_of_format files p number says few bytes short =
    (all_kept no_files files p kept_at_first no_files_room (omega arith) bytes short says nothing_kept).each number
