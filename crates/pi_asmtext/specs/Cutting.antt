-- Cutting a text by its characters one after the other, and what stands after each.
use Rattle.std.specs.Prelude.{ℕ, ◌+◌, ◌==◌, List, [], ◌∷◌, ◌++◌, if◌then◌else◌}
use Rattle.std.specs.Char.Escape.{encode_utf16}
use Rattle.pi_asmtext.specs.declared.file.Token.{Token}
use Rattle.pi_asmtext.specs.declared.tokens.Cutter.{Cutter}
use Rattle.pi_asmtext.specs.declared.tokens.Cut.{Cut}
use Rattle.pi_asmtext.specs.declared.tokens.Mode.{Mode}
use Rattle.pi_asmtext.specs.declared.tokens.Mode.TheVariants.{Between, Run, Quoted, Escaped, Comment}
use Rattle.pi_asmtext.specs.Tokens.{is_mark}

-- nothing is read
abbrev pub at_start : Cutter
at_start = record { lines = []; number = 1; column = 1; tokens = []; start = 1; units = []; mode = Between }

-- one more character of the token
abbrev pub with_character : Cutter → ℕ → Cutter
with_character m c = record m { units = m.units ++ encode_utf16 c }

-- the token is one of the line
abbrev pub with_token : Cutter → Cutter
with_token m = record m { tokens = m.tokens ++ record { column = m.start; units = m.units } ∷ []; units = []; mode = Between }

-- the token ends, if there is one
abbrev pub token_end_in : Mode → Cutter → Cutter
token_end_in Between m = record m { mode = Between }
token_end_in Comment m = record m { mode = Between }
token_end_in _ m = with_token m

abbrev pub token_end : Cutter → Cutter
token_end m = token_end_in m.mode m

-- a token begins
abbrev pub token_start : Mode → Cutter → ℕ → Cutter
token_start mode m c = with_character (record (token_end m) { start = m.column; mode = mode }) c

-- a character of a run
abbrev pub run_step : Mode → Cutter → ℕ → Cutter
run_step Run m c = with_character m c
run_step _ m c = token_start Run m c

-- a character that is in no string and no comment
abbrev pub unquoted_step : Cutter → ℕ → Cutter
unquoted_step m c =
    if c == 32 then token_end m
    else if c == 35 then record (token_end m) { mode = Comment }
    else if c == 34 then token_start Quoted m c
    else if is_mark c then token_end (token_start Run m c)
    else run_step m.mode m c

-- a character of a string
abbrev pub string_step : Cutter → ℕ → Cutter
string_step m c =
    if c == 34 then token_end (with_character m c)
    else if c == 92 then record (with_character m c) { mode = Escaped }
    else with_character m c

-- a character of a line
abbrev pub mode_step : Mode → Cutter → ℕ → Cutter
mode_step Between m c = unquoted_step m c
mode_step Run m c = unquoted_step m c
mode_step Comment m c = m
mode_step Escaped m c = with_character (record m { mode = Quoted }) c
mode_step Quoted m c = string_step m c

abbrev pub line_step : Cutter → ℕ → Cutter
line_step m c = mode_step m.mode m c

-- the line is one of the file if it has a token
abbrev pub with_line : List Token → Cutter → Cutter
with_line [] m = m
with_line (t ∷ ts) m = record m { lines = m.lines ++ record { number = m.number; tokens = t ∷ ts } ∷ []; tokens = [] }

abbrev pub ended_line : Cutter → Cutter
ended_line m = with_line (token_end m).tokens (token_end m)

-- the next character
abbrev pub text_step : Cutter → ℕ → Cutter
text_step m c =
    if c == 10 then (let e = ended_line m in record e { number = e.number + 1; column = 1 })
    else (let e = line_step m c in record e { column = e.column + 1 })

-- all characters of a list
abbrev pub text_steps : Cutter → List ℕ → Cutter
text_steps m [] = m
text_steps m (c ∷ cs) = text_steps (text_step m c) cs

-- the text ends
abbrev pub whole_cut : Cutter → Cut
whole_cut m = record { file = (ended_line m).lines; behind = if m.column == 1 then m.number else m.number + 1 }
