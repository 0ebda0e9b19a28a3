-- The symbols of a text, and classes of symbols: words by their spelling or by their text.
use Rattle.std.specs.Prelude.{◌≡◌, ◌≢◌, ◌⊎◌, ℕ, List, [], ◌∷◌, codes, nat_eq, Bool, Option, Some, None, if◌then◌else◌}
use Rattle.std.specs.Cmp.Lexicographic.{pointwise}
use Rattle.pi_asmtext.specs.Patterns.{Pattern}
use Rattle.pi_asmtext.specs.Words.{UnitClass, name, desc, proto, number, register, label, string, field, method, Spells}
use Rattle.pi_asmtext.specs.declared.forms.Word.{Word}
use Rattle.pi_asmtext.specs.declared.forms.Word.TheVariants as word
use Rattle.pi_asmtext.specs.declared.forms.Form.{Form}

-- a symbol: a token by its units, or the end of a line that has a token
pub data Symbol : Type 0 where
  Token : List ℕ → Symbol
  LineEnd : Symbol

-- how the words of a kind are spelled
abbrev pub pattern_of : Word → Pattern UnitClass
pattern_of word.Name = name
pattern_of word.Desc = desc
pattern_of word.Proto = proto
pattern_of word.Number = number
pattern_of word.Register = register
pattern_of word.Label = label
pattern_of word.Text = string
pattern_of word.Field = field
pattern_of word.Method = method

-- Classes of symbols: the end of a line, one text, one of several texts, the words of a kind, a DESC other than that of
-- Object, a value of a field, and what a handler catches.
pub data Class : Type 0 where
  Ending : Class
  Exactly : List ℕ → Class
  OneOf : List ℕ → List (List ℕ) → Class
  Spelled : Word → Class
  OtherDesc : Class
  Value : Class
  Catch : Class

-- the descriptor of Object
abbrev pub object : List ℕ
object = codes "Ljava/lang/Object;"

-- a text is one of several
abbrev pub Among : List ℕ → List (List ℕ) → Type 0
Among us [] = ⊥
Among us (w ∷ ws) = (us ≡ w) ⊎ Among us ws

-- a token is of a class
abbrev pub IsToken : Class → List ℕ → Type 0
IsToken Ending us = ⊥
IsToken (Exactly w) us = us ≡ w
IsToken (OneOf w ws) us = Among us (w ∷ ws)
IsToken (Spelled k) us = Spells (pattern_of k) us
IsToken OtherDesc us = Spells desc us × us ≢ object
IsToken Value us = Spells number us ⊎ Spells string us ⊎ Spells desc us ⊎ Among us (codes "true" ∷ codes "false" ∷ codes "null" ∷ [])
IsToken Catch us = (us ≡ codes "any") ⊎ Spells desc us

-- a symbol is of a class
abbrev pub Is : Class → Symbol → Type 0
Is c (Token us) = IsToken c us
Is c LineEnd = c ≡ Ending

-- two texts are the same
abbrev pub same_text : List ℕ → List ℕ → Bool
same_text a b = pointwise nat_eq a b

-- the operands of the first instruction of that name, in a list of instructions with names and operands
abbrev pub form_in : {R : Type 0} → (R → List ℕ) → (R → Form) → List R → List ℕ → Option Form
form_in called form [] us = None
form_in called form (r ∷ rs) us = if same_text us (called r) then Some (form r) else form_in called form rs us
