-- Reading the symbols of a text one after the other: what is left of the grammar, or the place of the first that is wrong.
use Rattle.std.specs.Prelude.{ℕ, ◌+◌, ◌<◌, List, [], ◌∷◌, Option, Some, None, Result, Ok, Err, ◌^◌}
use Rattle.pi_asmtext.specs.declared.file.Token.{Token}
use Rattle.pi_asmtext.specs.declared.file.AsmLine.{AsmLine}
use Rattle.pi_asmtext.specs.declared.state.State.{State}
use Rattle.pi_asmtext.specs.Patterns.{Pattern}
use Rattle.pi_asmtext.specs.Derivatives.{derivative}
use Rattle.pi_asmtext.specs.Symbols.{Class}
use Rattle.pi_asmtext.specs.Checks.{symbol_test}
use Rattle.pi_asmtext.specs.Rest.{rest_of}
use Rattle.pi_asmtext.specs.Places.{PlacedSymbol, width}

-- a place, by line and column
abbrev pub Place : Type 0
Place = ℕ × ℕ

-- what follows where something is left, and else the place
abbrev pub on_left : Option (Pattern Class) → Place → (Pattern Class → Result (Pattern Class) Place) → Result (Pattern Class) Place
on_left None place more = Err place
on_left (Some p) place more = more p

abbrev pub walk : Pattern Class → List PlacedSymbol → Result (Pattern Class) Place
walk p [] = Ok p
walk p (x ∷ xs) = on_left (derivative symbol_test x.symbol p) (x.line, x.column) (λ q. walk q xs)

-- what a state stands for, or a column of that line
abbrev pub line_answer : ℕ → Result State ℕ → Result (Pattern Class) Place
line_answer number (Ok s) = Ok (rest_of s)
line_answer number (Err column) = Err (number, column)

-- columns behind tokens are numbers of 32 bits
abbrev pub Small : List Token → Type 0
Small [] = Unit {0}
Small (t ∷ ts) = (t.column + width t.units < 2 ^ 32) × Small ts

abbrev pub AllSmall : List AsmLine → Type 0
AllSmall [] = Unit {0}
AllSmall (l ∷ ls) = Small l.tokens × AllSmall ls

-- what a state stands for, or a place
abbrev pub lines_answer : Result State Place → Result (Pattern Class) Place
lines_answer (Ok s) = Ok (rest_of s)
lines_answer (Err place) = Err place
