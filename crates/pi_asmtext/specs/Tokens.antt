-- The tokens of a text by its characters.
use Rattle.std.specs.Prelude.{ℕ, zero, suc, pred, ◌+◌, ◌==◌, ◌||◌, not, Bool, true, false, List, [], ◌∷◌, take, length, flat_map, if◌then◌else◌}
use Rattle.std.specs.Char.Escape.{encode_utf16}
use Rattle.pi_asmtext.specs.declared.file.Token.{Token}
use Rattle.pi_asmtext.specs.declared.file.AsmLine.{AsmLine}

-- a character at the front of the first line
abbrev pub before_line : ℕ → List (List ℕ) → List (List ℕ)
before_line c [] = (c ∷ []) ∷ []
before_line c (line ∷ others) = (c ∷ line) ∷ others

-- the lines, each without the newline that ends it; the last may lack one
abbrev pub lines : List ℕ → List (List ℕ)
lines [] = []
lines (c ∷ cs) = if c == 10 then [] ∷ lines cs else before_line c (lines cs)

-- one of { } , =
abbrev pub is_mark : ℕ → Bool
is_mark c = (c == 123 || c == 125) || (c == 44 || c == 61)

-- a character of a run: no space, no quote, no # and none of these four
abbrev pub in_run : ℕ → Bool
in_run c = not (c == 32 || (c == 34 || (c == 35 || is_mark c)))

-- the length of the run at the front
abbrev pub run_length : List ℕ → ℕ
run_length [] = 0
run_length (c ∷ cs) = if in_run c then run_length cs + 1 else 0

-- the length of a string behind its first quote, up to the closing quote or the end; said is whether a backslash takes the
-- first character with it
abbrev pub string_length : Bool → List ℕ → ℕ
string_length said [] = 0
string_length true (c ∷ cs) = string_length false cs + 1
string_length false (c ∷ cs) = if c == 34 then 1 else string_length (c == 92) cs + 1

-- the length of the token that begins with a character and goes on in a list
abbrev pub token_length : ℕ → List ℕ → ℕ
token_length c cs = if c == 34 then string_length false cs + 1 else if is_mark c then 1 else run_length cs + 1

-- the units of characters
abbrev pub units_of : List ℕ → List ℕ
units_of cs = flat_map encode_utf16 cs

-- The tokens of a line from a column on, of which so many characters belong to the token before.
abbrev pub tokens_from : ℕ → ℕ → List ℕ → List Token
tokens_from column skip [] = []
tokens_from column (suc skip) (c ∷ cs) = tokens_from (column + 1) skip cs
tokens_from column zero (c ∷ cs) =
    if c == 32 then tokens_from (column + 1) 0 cs
    else if c == 35 then []
    else record { column = column; units = units_of (take (token_length c cs) (c ∷ cs)) }
    ∷ tokens_from (column + 1) (pred (token_length c cs)) cs

-- a line that has a token, before other lines
abbrev pub nonempty_line : ℕ → List Token → List AsmLine → List AsmLine
nonempty_line number [] others = others
nonempty_line number (t ∷ ts) others = record { number = number; tokens = t ∷ ts } ∷ others

-- the lines that have a token, numbered from a number on
abbrev pub lines_from : ℕ → List (List ℕ) → List AsmLine
lines_from number [] = []
lines_from number (line ∷ others) = nonempty_line number (tokens_from 1 0 line) (lines_from (number + 1) others)

-- the lines of a text that have a token
abbrev pub lines_of : List ℕ → List AsmLine
lines_of text = lines_from 1 (lines text)

-- the number of the lines of a text
abbrev pub line_count : List ℕ → ℕ
line_count text = length (lines text)
