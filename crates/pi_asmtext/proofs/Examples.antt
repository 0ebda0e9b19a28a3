-- Tokens, words and lines, worked.
use Rattle.std.proofs.Common.{◌≡◌, ℕ, true, false, List, [], ◌∷◌, refl}
use Rattle.std.specs.Prelude.{codes}
use Rattle.pi_asmtext.specs.declared.file.Token.{Token}
use Rattle.pi_asmtext.specs.declared.file.AsmLine.{AsmLine}
use Rattle.pi_asmtext.specs.declared.forms.Word.TheVariants as word
use Rattle.pi_asmtext.specs.Derivatives.{fits}
use Rattle.pi_asmtext.specs.Symbols.{Symbol, LineEnd, Token as A}
use Rattle.pi_asmtext.specs.Grammar.{field_line, bodiless_line, method_line, text, instruction_line}
use Rattle.pi_asmtext.specs.Places.{width}
use Rattle.pi_asmtext.specs.Checks.{is_word, symbol_test}
use Rattle.pi_asmtext.specs.Tokens.{lines_of, line_count}

abbrev token : ℕ → List ℕ → Token
token c us = record { column = c; units = us }

abbrev line : ℕ → List Token → AsmLine
line n ts = record { number = n; tokens = ts }

-- lines, of which the last lacks its newline; marks, a comment, a string with a mark and a quote in it
cut : lines_of (97 ∷ 44 ∷ 98 ∷ 35 ∷ 99 ∷ 10 ∷ 32 ∷ 10 ∷ 34 ∷ 35 ∷ 92 ∷ 34 ∷ 34 ∷ 120 ∷ [])
    ≡ line 1 (token 1 (97 ∷ []) ∷ token 2 (44 ∷ []) ∷ token 3 (98 ∷ []) ∷ [])
    ∷ line 3 (token 1 (34 ∷ 35 ∷ 92 ∷ 34 ∷ 34 ∷ []) ∷ token 6 (120 ∷ []) ∷ []) ∷ []
cut = refl

-- a character of two units is one column wide; a string may lack its closing quote
wide : lines_of (0x1F600 ∷ 32 ∷ 34 ∷ 97 ∷ []) ≡ line 1 (token 1 (0xD83D ∷ 0xDE00 ∷ []) ∷ token 3 (34 ∷ 97 ∷ []) ∷ []) ∷ []
wide = refl

widths : width (0xD83D ∷ 0xDE00 ∷ 97 ∷ []) ≡ 2
widths = refl

counted : (line_count [] ≡ 0) × (line_count (97 ∷ []) ≡ 1) × (line_count (97 ∷ 10 ∷ []) ≡ 1) × (line_count (10 ∷ 10 ∷ 97 ∷ []) ≡ 3)
counted = (refl, refl, refl, refl)

-- words
names : (is_word word.Name (codes "<init>-$_9") ≡ true) × (is_word word.Name (233 ∷ []) ≡ true) × (is_word word.Name [] ≡ false)
    × (is_word word.Name (codes "a/b") ≡ false)
names = (refl, refl, refl, refl)

descs : (is_word word.Desc (codes "[[La/B;") ≡ true) × (is_word word.Desc (codes "[V") ≡ true) × (is_word word.Desc (codes "L;") ≡ false)
    × (is_word word.Desc (codes "II") ≡ false) × (is_word word.Desc (codes "[") ≡ false)
descs = (refl, refl, refl, refl, refl)

protos : (is_word word.Proto (codes "()V") ≡ true) × (is_word word.Proto (codes "(I[JLa;)La;") ≡ true) × (is_word word.Proto (codes "()") ≡ false)
protos = (refl, refl, refl)

numbers : (is_word word.Number (codes "-007") ≡ true) × (is_word word.Number (codes "-") ≡ false) × (is_word word.Number (codes "1-") ≡ false)
    × (is_word word.Register (codes "v007") ≡ true) × (is_word word.Register (codes "v") ≡ false)
    × (is_word word.Label (codes ":a") ≡ true) × (is_word word.Label (codes ":") ≡ false)
numbers = (refl, refl, refl, refl, refl, refl, refl)

strings : (is_word word.Text (34 ∷ 92 ∷ 110 ∷ 92 ∷ 117 ∷ 48 ∷ 48 ∷ 97 ∷ 70 ∷ 35 ∷ 34 ∷ []) ≡ true) × (is_word word.Text (34 ∷ 97 ∷ []) ≡ false)
    × (is_word word.Text (34 ∷ 92 ∷ 116 ∷ 34 ∷ []) ≡ false)
strings = (refl, refl, refl)

operands : (is_word word.Field (codes "La;->x>:I") ≡ true) × (is_word word.Field (codes "La;->:I") ≡ false)
    × (is_word word.Method (codes "[I-><init>(I)V") ≡ true) × (is_word word.Method (codes "La;->f:I") ≡ false)
operands = (refl, refl, refl, refl)

-- a field named static, one of type I that static names, and one with a value
abbrev field_symbols : List (List ℕ) → List Symbol
field_symbols [] = LineEnd ∷ []
field_symbols (w ∷ ws) = A w ∷ field_symbols ws

fields : (fits symbol_test field_line (field_symbols (codes "field" ∷ codes "static" ∷ codes "I" ∷ [])) ≡ true)
    × (fits symbol_test field_line (field_symbols (codes "field" ∷ codes "static" ∷ codes "I" ∷ codes "=" ∷ codes "3" ∷ [])) ≡ false)
    × (fits symbol_test field_line (field_symbols (codes "field" ∷ codes "static" ∷ codes "I" ∷ codes "I" ∷ codes "=" ∷ codes "3" ∷ [])) ≡ true)
fields = (refl, refl, refl)

-- a method named native, and a native method
methods : (fits symbol_test bodiless_line (field_symbols (codes "method" ∷ codes "native" ∷ codes "()V" ∷ [])) ≡ false)
    × (fits symbol_test method_line (field_symbols (codes "method" ∷ codes "native" ∷ codes "()V" ∷ codes "regs" ∷ codes "1" ∷ [])) ≡ true)
    × (fits symbol_test bodiless_line (field_symbols (codes "method" ∷ codes "native" ∷ codes "f" ∷ codes "()V" ∷ [])) ≡ true)
methods = (refl, refl, refl)

-- an instruction with operands
instructions : (fits symbol_test instruction_line (field_symbols (codes "goto" ∷ codes ":a" ∷ [])) ≡ true)
    × (fits symbol_test instruction_line (field_symbols (codes "move" ∷ codes "v0" ∷ codes "v1" ∷ [])) ≡ false)
unfolding instruction_line
instructions = (refl, refl)

-- the smallest class, and that of Object
classes : (fits symbol_test text [] ≡ true)
    × (fits symbol_test text (A (codes "class") ∷ A (codes "Ljava/lang/Object;") ∷ LineEnd ∷ A (codes "end") ∷ LineEnd ∷ []) ≡ true)
    × (fits symbol_test text (A (codes "class") ∷ A (codes "I") ∷ LineEnd ∷ A (codes "end") ∷ LineEnd ∷ []) ≡ false)
classes = (refl, refl, refl)
