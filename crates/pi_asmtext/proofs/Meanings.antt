-- The tests of tokens say which class a token is of, and each class has a token.
use Rattle.std.proofs.Common.{◌≡◌, ◌≢◌, ℕ, true, inl, inr, List, [], ◌∷◌, refl, sym, ap, arith}
use Rattle.std.specs.Prelude.{codes, not}
use Rattle.std.proofs.lemmas.Bool.{and_parts, or_cases, or_left, or_right, not-true, not_from_false, true_from_ne_false, false_from_ne_true}
use Rattle.std.specs.Cmp.Lexicographic.{same_text as text_told, other_text}
use Rattle.std.proofs.lemmas.Bool.Decides.{nat_tests}
use Rattle.pi_asmtext.specs.Words.{UnitClass, Sign, Digit, HexDigit, NameUnit, PathUnit, Primitive, Plain, Escapable, unit_test, of_unit, Spells}
use Rattle.pi_asmtext.specs.Symbols.{Symbol, Token, LineEnd, Class, Ending, Exactly, OneOf, Spelled, OtherDesc, Value, Catch, object, pattern_of, Among, IsToken, Is, same_text}
use Rattle.pi_asmtext.specs.Checks.{among, is_word, token_test, is_ending, symbol_test}
use Rattle.pi_asmtext.specs.declared.forms.Word.{Word}
use Rattle.pi_asmtext.specs.declared.forms.Word.TheVariants as word
use Rattle.pi_asmtext.proofs.Derivatives.{test_fits, fits_test, lives}

units_right : (c : UnitClass) (u : ℕ) → unit_test c u ≡ true → of_unit c u
units_right c u e = e

units_test : (c : UnitClass) (u : ℕ) → of_unit c u → unit_test c u ≡ true
units_test c u e = e

pub spelled_means : (k : Word) (us : List ℕ) → is_word k us ≡ true → Spells (pattern_of k) us
spelled_means k us e = test_fits of_unit unit_test units_right (pattern_of k) us e

pub means_spelled : (k : Word) (us : List ℕ) → Spells (pattern_of k) us → is_word k us ≡ true
means_spelled k us h = fits_test of_unit unit_test units_test (pattern_of k) us h

pub same_means : (us w : List ℕ) → same_text us w ≡ true → us ≡ w
same_means us w e = text_told us w (sym e)

pub means_same : (us w : List ℕ) → us ≡ w → same_text us w ≡ true
means_same us w e = true_from_ne_false (same_text us w) (λ h. other_text us w (sym h) e)

among_means : (us : List ℕ) (ws : List (List ℕ)) → among us ws ≡ true → Among us ws
among_means us [] e = absurd (cc)
among_means us (w ∷ ws) e =
    elim (or_cases (same_text us w) (among us ws) e) [ inl a ↦ inl (same_means us w a) | inr b ↦ inr (among_means us ws b) ]

means_among : (us : List ℕ) (ws : List (List ℕ)) → Among us ws → among us ws ≡ true
means_among us [] h = absurd h
means_among us (w ∷ ws) (inl e) = or_left (same_text us w) (among us ws) (means_same us w e)
means_among us (w ∷ ws) (inr h) = or_right (same_text us w) (among us ws) (means_among us ws h)

other_means : (us : List ℕ) → not (same_text us object) ≡ true → us ≢ object
other_means us e = other_text us object (sym (not-true (same_text us object) e))

means_other : (us : List ℕ) → us ≢ object → not (same_text us object) ≡ true
means_other us other = not_from_false (same_text us object) (false_from_ne_true (same_text us object) (λ h. other (same_means us object h)))

abbrev values : List (List ℕ)
values = codes "true" ∷ codes "false" ∷ codes "null" ∷ []

value_right : (us : List ℕ) → token_test Value us ≡ true → IsToken Value us
value_right us e =
    elim (or_cases (is_word word.Number us) _ e) [
      | inl a ↦ inl (spelled_means word.Number us a)
      | inr b ↦ inr (elim (or_cases (is_word word.Text us) _ b) [
        | inl c ↦ inl (spelled_means word.Text us c)
        | inr d ↦ inr (elim (or_cases (is_word word.Desc us) _ d)
            [ inl f ↦ inl (spelled_means word.Desc us f) | inr g ↦ inr (among_means us values g) ])
      ])
    ]

token_right : (c : Class) (us : List ℕ) → token_test c us ≡ true → IsToken c us
token_right Ending us e = absurd (cc)
token_right (Exactly w) us e = same_means us w e
token_right (OneOf w ws) us e = among_means us (w ∷ ws) e
token_right (Spelled k) us e = spelled_means k us e
token_right OtherDesc us e = let b = and_parts (is_word word.Desc us) _ e in (spelled_means word.Desc us b.0, other_means us b.1)
token_right Value us e = value_right us e
token_right Catch us e =
    elim (or_cases (same_text us (codes "any")) _ e) [ inl a ↦ inl (same_means us _ a) | inr b ↦ inr (spelled_means word.Desc us b) ]

right_token : (c : Class) (us : List ℕ) → IsToken c us → token_test c us ≡ true
right_token Ending us h = absurd h
right_token (Exactly w) us h = means_same us w h
right_token (OneOf w ws) us h = means_among us (w ∷ ws) h
right_token (Spelled k) us h = means_spelled k us h
right_token OtherDesc us h = rw (means_spelled word.Desc us h.0, means_other us h.1) refl
right_token Value us (inl h) = or_left _ _ (means_spelled word.Number us h)
right_token Value us (inr (inl h)) = or_right (is_word word.Number us) _ (or_left _ _ (means_spelled word.Text us h))
right_token Value us (inr (inr (inl h))) =
    or_right (is_word word.Number us) _ (or_right (is_word word.Text us) _ (or_left _ _ (means_spelled word.Desc us h)))
right_token Value us (inr (inr (inr h))) =
    or_right (is_word word.Number us) _ (or_right (is_word word.Text us) _ (or_right (is_word word.Desc us) _ (means_among us values h)))
right_token Catch us (inl h) = or_left _ _ (means_same us _ h)
right_token Catch us (inr h) = or_right (same_text us (codes "any")) _ (means_spelled word.Desc us h)

ending_right : (c : Class) → is_ending c ≡ true → c ≡ Ending
ending_right Ending e = refl
ending_right _ e = absurd (cc)

-- the tests are right
pub symbol_right : (c : Class) (x : Symbol) → symbol_test c x ≡ true → Is c x
symbol_right c (Token us) e = token_right c us e
symbol_right c LineEnd e = ending_right c e

pub right_symbol : (c : Class) (x : Symbol) → Is c x → symbol_test c x ≡ true
right_symbol c (Token us) h = right_token c us h
right_symbol c LineEnd h = ap is_ending h

-- each class has an element
unit_samples : (c : UnitClass) → (u : ℕ) × of_unit c u
unit_samples (Sign k) = (k, grind (arith, nat_tests))
unit_samples Digit = (48, refl)
unit_samples HexDigit = (48, refl)
unit_samples NameUnit = (48, refl)
unit_samples PathUnit = (48, refl)
unit_samples Primitive = (73, refl)
unit_samples Plain = (48, refl)
unit_samples Escapable = (34, refl)

pub symbol_samples : (c : Class) → (x : Symbol) × Is c x
symbol_samples Ending = (LineEnd, refl)
symbol_samples (Exactly w) = (Token w, refl)
symbol_samples (OneOf w ws) = (Token w, inl refl)
symbol_samples (Spelled k) = let s = lives of_unit unit_samples (pattern_of k) in (Token s.0, s.1)
symbol_samples OtherDesc = (Token (codes "I"), token_right OtherDesc (codes "I") refl)
symbol_samples Value = (Token (codes "true"), token_right Value (codes "true") refl)
symbol_samples Catch = (Token (codes "any"), inl refl)
