-- Tests of tokens and symbols: which class one is of, and which instruction it names.
use Rattle.std.specs.Prelude.{ℕ, ◌&&◌, ◌||◌, not, List, [], ◌∷◌, codes, Bool, true, false, Option}
use Rattle.pi_asmtext.specs.Derivatives.{fits}
use Rattle.pi_asmtext.specs.Words.{unit_test}
use Rattle.pi_asmtext.specs.Symbols.{Symbol, Token, LineEnd, Class, Ending, Exactly, OneOf, Spelled, OtherDesc, Value, Catch, object, pattern_of, same_text, form_in}
use Rattle.pi_asmtext.specs.declared.forms.Word.{Word}
use Rattle.pi_asmtext.specs.declared.forms.Word.TheVariants as word
use Rattle.pi_asmtext.specs.declared.forms.Form.{Form}
use Rattle.pi_asmtext.specs.declared.table.TheConstants.{INSTRUCTIONS}

-- the operands of the instruction of that name
unfoldable pub form_of : List ℕ → Option Form
form_of us = form_in (λ r. r.0.now) (λ r. r.1) INSTRUCTIONS us

-- a text is one of several
abbrev pub among : List ℕ → List (List ℕ) → Bool
among us [] = false
among us (w ∷ ws) = same_text us w || among us ws

-- a token is a word of a kind
abbrev pub is_word : Word → List ℕ → Bool
is_word k us = fits unit_test (pattern_of k) us

-- a token is of a class, as a test
abbrev pub token_test : Class → List ℕ → Bool
token_test Ending us = false
token_test (Exactly w) us = same_text us w
token_test (OneOf w ws) us = among us (w ∷ ws)
token_test (Spelled k) us = is_word k us
token_test OtherDesc us = is_word word.Desc us && not (same_text us object)
token_test Value us =
    is_word word.Number us || (is_word word.Text us || (is_word word.Desc us || among us (codes "true" ∷ codes "false" ∷ codes "null" ∷ [])))
token_test Catch us = same_text us (codes "any") || is_word word.Desc us

abbrev pub is_ending : Class → Bool
is_ending Ending = true
is_ending _ = false

abbrev pub symbol_test : Class → Symbol → Bool
symbol_test c (Token us) = token_test c us
symbol_test c LineEnd = is_ending c
