-- The texts of a file, as they are read.
use Rattle.std.proofs.Common.{◌≡◌, ℕ, suc, ◌+◌, ◌<◌, List, [], ◌∷◌, length, drop, Option, Some, None, Result, Ok, Err, Bool, true, false, refl, sym, ap, ◌∙◌, arith, option_map, inl, inr}
use Rattle.std.specs.Prelude.{◌==◌, ◌&&◌, ◌⊎◌}
use Rattle.pi_model.specs.Texts.{same_text}
use Rattle.pi_bytes.proofs.Laws.{units_counted}
use Rattle.pi_bytes.specs.Numbers.{word_at}
use Rattle.pi_format.specs.Tables.{string_ids}
use Rattle.pi_format.specs.Rules.Entries.{entry_at}
use Rattle.std.proofs.Math.ListN.{drop_of_length-le}
use Rattle.std.proofs.lemmas.Bool.Decides.{nat_tests}
use Rattle.pi_bytes.specs.declared.fault.ReadFault.{ReadFault}
use Rattle.pi_bytes.specs.Place.{Place}
use Rattle.pi_bytes.specs.Reading.{reading_at}
use Rattle.pi_bytes.specs.Leb.{uleb_by}
use Rattle.pi_bytes.specs.Mutf8.{units_at}
use Rattle.pi_format.specs.Rules.Strings.{FileText, with_units, with_count, read_text, string_text, string_units, units_in}
use Rattle.pi_dexids.specs.Texts.{behind_count, head_at}

head_by : (file : List ℕ) (at count : ℕ) (new : Place) (r : Result (ℕ × ℕ) ReadFault)
    → reading_at (record { bytes = file; at = at }) r ≡ Ok (count, new) → behind_count at r ≡ Some (count, new.at)
head_by file at count new (Ok x) e = ap f e
  where
    f : Result (ℕ × Place) ReadFault → Option (ℕ × ℕ)
    f (Ok y) = Some (y.0, y.1.at)
    f (Err fault) = None
head_by file at count new (Err fault) e = cc

-- what a cursor read is the head of the text
pub head_is : (file : List ℕ) (at count : ℕ) (new : Place) → reading_at (record { bytes = file; at = at }) (uleb_by 4 (drop at file)) ≡ Ok (count, new)
    → head_at file at ≡ Some (count, new.at)
unfolding head_at
head_is file at count new e = head_by file at count new (uleb_by 4 (drop at file)) e

not_by : (file : List ℕ) (at : ℕ) (fault : ReadFault) (r : Result (ℕ × ℕ) ReadFault)
    → reading_at (record { bytes = file; at = at }) r ≡ Err fault → behind_count at r ≡ None
not_by file at fault (Ok x) e = cc
not_by file at fault (Err f) e = refl

pub no_head : (file : List ℕ) (at : ℕ) (fault : ReadFault) → reading_at (record { bytes = file; at = at }) (uleb_by 4 (drop at file)) ≡ Err fault
    → head_at file at ≡ None
unfolding head_at
no_head file at fault e = not_by file at fault (uleb_by 4 (drop at file)) e

pub past_the_end : (file : List ℕ) (at : ℕ) → length file < at → head_at file at ≡ None
unfolding head_at
past_the_end file at lt =
    let none : drop at file ≡ [] = drop_of_length-le file (omega arith) in
    rw none refl

-- the units behind a head
text_by : (file : List ℕ) (at count begin : ℕ) (r : Result (ℕ × ℕ) ReadFault) → behind_count at r ≡ Some (count, begin)
    → with_count file at r ≡ with_units begin (units_at count (drop begin file))
text_by file at count begin (Ok x) e =
    let counts : x.0 ≡ count = ap (f 0) e in
    let begins : at + x.1 ≡ begin = ap g e in
    rw (← counts, ← begins) refl
  where
    f : ℕ → Option (ℕ × ℕ) → ℕ
    f d None = d
    f d (Some y) = y.0

    g : Option (ℕ × ℕ) → ℕ
    g None = 0
    g (Some y) = y.1
text_by file at count begin (Err fault) e = cc

pub text_behind : (file : List ℕ) (at count begin : ℕ) → head_at file at ≡ Some (count, begin)
    → read_text file at ≡ with_units begin (units_at count (drop begin file))
unfolding head_at
text_behind file at count begin e = text_by file at count begin (uleb_by 4 (drop at file)) e

none_by : (file : List ℕ) (at : ℕ) (r : Result (ℕ × ℕ) ReadFault) → behind_count at r ≡ None → with_count file at r ≡ None
none_by file at (Ok x) e = cc
none_by file at (Err fault) e = refl

pub no_text : (file : List ℕ) (at : ℕ) → head_at file at ≡ None → option_map (λ (t : FileText). t.units) (read_text file at) ≡ None
unfolding head_at
no_text file at e = rw (none_by file at (uleb_by 4 (drop at file)) e) refl

pub text_is : (file : List ℕ) (at count begin before : ℕ) (units : List ℕ) → head_at file at ≡ Some (count, begin)
    → units_at count (drop begin file) ≡ Ok (units, before) → option_map (λ (t : FileText). t.units) (read_text file at) ≡ Some units
text_is file at count begin before units e read = rw (text_behind file at count begin e, read) refl

pub text_is_bad : (file : List ℕ) (at count begin bad : ℕ) → head_at file at ≡ Some (count, begin)
    → units_at count (drop begin file) ≡ Err bad → option_map (λ (t : FileText). t.units) (read_text file at) ≡ None
text_is_bad file at count begin bad e read = rw (text_behind file at count begin e, read) refl

pub units_of_none : (o : Option FileText) → option_map (λ (t : FileText). t.units) o ≡ None → units_in o ≡ []
units_of_none None e = refl
units_of_none (Some t) e = cc

pub units_of_some : (o : Option FileText) (units : List ℕ) → option_map (λ (t : FileText). t.units) o ≡ Some units → units_in o ≡ units
units_of_some None units e = cc
units_of_some (Some t) units e = ap f e
  where
    f : Option (List ℕ) → List ℕ
    f None = []
    f (Some us) = us

-- the units of a text are as many as its head says
units_in_ok : (begin : ℕ) (r : Result (List ℕ × ℕ) ℕ) (count : ℕ) → ((units : List ℕ) (at : ℕ) → r ≡ Ok (units, at) → length units ≡ count)
    → (length (units_in (with_units begin r)) ≡ count) ⊎ (length (units_in (with_units begin r)) ≡ 0)
units_in_ok begin (Ok x) count h = inl (h x.0 x.1 refl)
units_in_ok begin (Err at) count h = inr refl

pub counted_units : (file : List ℕ) (i n count begin : ℕ) → head_at file (word_at file (entry_at file string_ids 4 i)) ≡ Some (count, begin)
    → 0 < n → length (string_units file i) ≡ n → count ≡ n
unfolding string_text
counted_units file i n count begin e some len =
    let at = word_at file (entry_at file string_ids 4 i) in
    let is = ap (λ (o : Option FileText). length (units_in o)) (text_behind file at count begin e) in
    elim (units_in_ok begin (units_at count (drop begin file)) count (λ us p q. units_counted count (drop begin file) us p q)) [
      | inl same ↦ sym same ∙ sym is ∙ len
      | inr none ↦ absurd (omega (arith, sym none ∙ sym is ∙ len))
    ]

pub no_units : (file : List ℕ) (i n : ℕ) → head_at file (word_at file (entry_at file string_ids 4 i)) ≡ None
    → 0 < n → length (string_units file i) ≡ n → ⊥
unfolding string_text
no_units file i n e some len =
    let at = word_at file (entry_at file string_ids 4 i) in
    let none = units_of_none (read_text file at) (no_text file at e) in
    omega (arith, sym (ap (λ (us : List ℕ). length us) none) ∙ len)

-- the same texts are of one length
pub same_length : (a b : List ℕ) → same_text a b ≡ true → length a ≡ length b
same_length [] [] e = refl
same_length [] (y ∷ ys) e = cc
same_length (x ∷ xs) [] e = cc
same_length (x ∷ xs) (y ∷ ys) e = ap suc (same_length xs ys (both_second (x == y) (same_text xs ys) e))
  where
    both_second : (p q : Bool) → (p && q) ≡ true → q ≡ true
    both_second true q e = e
    both_second false q e = cc

pub other_length : (a b : List ℕ) → (length b ≡ length a → false ≡ true) → same_text a b ≡ false
other_length a b h = by_test (same_text a b) refl
  where
    by_test : (t : Bool) → same_text a b ≡ t → t ≡ false
    by_test false e = refl
    by_test true e = sym (h (sym (same_length a b e)))

pub same_numbers : (a b : ℕ) → a ≡ b → (a == b) ≡ true
same_numbers a b e = grind (arith, nat_tests)

pub nothing : (file : List ℕ) (at : ℕ) → head_at file at ≡ None → read_text file at ≡ None
unfolding head_at
nothing file at e = none_by file at (uleb_by 4 (drop at file)) e
