-- The table of instructions: what is left behind the name of one, and which words are none.
use Rattle.std.proofs.Common.{◌≡◌, ℕ, Bool, true, false, List, [], ◌∷◌, Option, Some, None, refl, sym, ap, ◌∙◌}
use Rattle.std.specs.Prelude.{map, codes, not, ◌&&◌, is_none, option_map}
use Rattle.std.proofs.lemmas.Bool.{and_parts, not-true}
use Rattle.std.specs.Cmp.Lexicographic.{same_text as text_told}
use Rattle.pi_asmtext.specs.Patterns.{Empty, any_of}
use Rattle.pi_asmtext.specs.Derivatives.{derivative, either_left}
use Rattle.pi_asmtext.specs.Symbols.{Token, LineEnd, same_text, form_in}
use Rattle.pi_asmtext.specs.Grammar.{operands, kinds_of, row_line, instruction_line}
use Rattle.pi_asmtext.specs.Checks.{form_of, symbol_test, is_word}
use Rattle.pi_asmtext.specs.declared.forms.Word.TheVariants as word
use Rattle.pi_asmtext.specs.declared.forms.Form.{Form}
use Rattle.pi_asmtext.specs.declared.table.TheConstants.{INSTRUCTIONS}

none_true : {A : Type 0} (o : Option A) → is_none o ≡ true → o ≡ None
none_true None h = refl
none_true (Some x) h = absurd (cc)

module _ {R : Type 0} (called : R → List ℕ) (form : R → Form) where
  -- no two instructions have one name
  abbrev unique : List R → Bool
  unique [] = true
  unique (r ∷ rs) = is_none (form_in called form rs (called r)) && unique rs

  abbrev RowsLeft : List R → List ℕ → Type 0
  RowsLeft rows us =
      derivative symbol_test (Token us) (any_of (map (λ r. row_line (called r) (form r)) rows))
      ≡ option_map (λ f. operands (kinds_of f) Empty) (form_in called form rows us)

  one_row : (r : R) (us : List ℕ) (t : Bool) → same_text us (called r) ≡ t → RowsLeft (r ∷ []) us
  one_row r us true e = rw e refl
  one_row r us false e = rw e refl

  more_rows : (r s : R) (rs : List R) (us : List ℕ) (t : Bool) → same_text us (called r) ≡ t → unique (r ∷ s ∷ rs) ≡ true
      → RowsLeft (s ∷ rs) us → RowsLeft (r ∷ s ∷ rs) us
  more_rows r s rs us false e one again = rw e again
  more_rows r s rs us true e one again =
      let alone = none_true (form_in called form (s ∷ rs) (called r)) (and_parts _ _ one).0 in
      let none = ap (form_in called form (s ∷ rs)) (text_told us (called r) (sym e)) ∙ alone in
      let rest = again ∙ ap (option_map (λ f. operands (kinds_of f) Empty)) none in
      rw e (ap (either_left (Some (operands (kinds_of (form r)) Empty))) rest)

  rows_left : (rows : List R) (us : List ℕ) → unique rows ≡ true → RowsLeft rows us
  rows_left [] us one = refl
  rows_left (r ∷ []) us one = one_row r us (same_text us (called r)) refl
  rows_left (r ∷ s ∷ rs) us one = more_rows r s rs us (same_text us (called r)) refl one (rows_left (s ∷ rs) us (and_parts _ _ one).1)

  -- all names are as is said
  abbrev all_named : (List ℕ → Bool) → List R → Bool
  all_named is [] = true
  all_named is (r ∷ rs) = is (called r) && all_named is rs

  named : (is : List ℕ → Bool) (rows : List R) (us : List ℕ) (f : Form) → all_named is rows ≡ true → form_in called form rows us ≡ Some f
      → is us ≡ true
  named is [] us f all found = absurd (cc)
  named is (r ∷ rs) us f all found = by (same_text us (called r)) refl (named is rs us f)
    where
      by : (t : Bool) → same_text us (called r) ≡ t → (all_named is rs ≡ true → form_in called form rs us ≡ Some f → is us ≡ true) → is us ≡ true
      by true e again = ap is (text_told us (called r) (sym e)) ∙ (and_parts _ _ all).0
      by false e again = again (and_parts _ _ all).1 (rw e at found)

  rows_end : (rows : List R) → derivative symbol_test LineEnd (any_of (map (λ r. row_line (called r) (form r)) rows)) ≡ None
  rows_end [] = refl
  rows_end (r ∷ []) = refl
  rows_end (r ∷ s ∷ rs) = rows_end (s ∷ rs)

is_unique : unique (λ r. r.0.now) (λ r. r.1) INSTRUCTIONS ≡ true
is_unique = refl

-- what is left behind a word that may be the name of an instruction
pub instruction_left : (us : List ℕ) → derivative symbol_test (Token us) instruction_line ≡ option_map (λ f. operands (kinds_of f) Empty) (form_of us)
unfolding form_of instruction_line
instruction_left us = rows_left (λ r. r.0.now) (λ r. r.1) INSTRUCTIONS us is_unique

no_labels : all_named (λ r. r.0.now) (λ r. r.1) (λ us. not (is_word word.Label us)) INSTRUCTIONS ≡ true
no_labels = refl

-- the name of an instruction is no label
pub no_label : (us : List ℕ) (f : Form) → form_of us ≡ Some f → is_word word.Label us ≡ false
unfolding form_of
no_label us f e = not-true (is_word word.Label us) (named (λ r. r.0.now) (λ r. r.1) (λ us. not (is_word word.Label us)) INSTRUCTIONS us f no_labels e)

-- the words that begin other lines of a method name none
pub try_is_none : form_of (codes "try") ≡ None
unfolding form_of
try_is_none = refl

pub end_is_none : form_of (codes "end") ≡ None
unfolding form_of
end_is_none = refl

-- no instruction is an empty line
pub no_row_ends : derivative symbol_test LineEnd instruction_line ≡ None
unfolding instruction_line
no_row_ends = rows_end (λ r. r.0.now) (λ r. r.1) INSTRUCTIONS
