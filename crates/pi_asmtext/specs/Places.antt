-- The symbols of a text with their places, and the place of its first Syntax error.
use Rattle.std.specs.Prelude.{◌≡◌, ◌⊎◌, ℕ, ◌+◌, nat_le, nat_lt, ◌&&◌, Bool, List, [], ◌∷◌, ◌++◌, map, if◌then◌else◌}
use Rattle.pi_asmtext.specs.declared.file.Token.{Token as FileToken}
use Rattle.pi_asmtext.specs.declared.file.AsmLine.{AsmLine}
use Rattle.pi_asmtext.specs.declared.fault.AsmError.{AsmError}
use Rattle.pi_asmtext.specs.declared.fault.AsmError.TheVariants.{OutOfMemory, At}
use Rattle.pi_asmtext.specs.declared.fault.AsmKind.TheVariants.{Syntax}
use Rattle.pi_asmtext.specs.Tokens.{lines_of, line_count}
use Rattle.pi_asmtext.specs.Symbols.{Symbol, Token, LineEnd}
use Rattle.pi_asmtext.specs.Grammar.{IsText, BeginsText}

-- the second half of a character of two units
abbrev pub is_second : ℕ → Bool
is_second u = nat_le 0xdc00 u && nat_lt u 0xe000

-- the number of the characters of units
abbrev pub width : List ℕ → ℕ
width [] = 0
width (u ∷ us) = if is_second u then width us else width us + 1

-- a symbol and its place
pub record PlacedSymbol : Type 0 where
  pub symbol : Symbol
  pub line : ℕ
  pub column : ℕ

-- the symbols of a line: its tokens, and its end right behind the last of them
abbrev pub line_symbols : ℕ → ℕ → List FileToken → List PlacedSymbol
line_symbols number behind [] = record { symbol = LineEnd; line = number; column = behind } ∷ []
line_symbols number behind (t ∷ ts) =
    record { symbol = Token t.units; line = number; column = t.column } ∷ line_symbols number (t.column + width t.units) ts

-- the symbols of lines
abbrev pub file_symbols : List AsmLine → List PlacedSymbol
file_symbols [] = []
file_symbols (l ∷ ls) = line_symbols l.number 1 l.tokens ++ file_symbols ls

abbrev pub symbols : List PlacedSymbol → List Symbol
symbols ps = map (λ p. p.symbol) ps

-- The place is that of the first symbol with which the symbols up to it begin no text.
abbrev pub AtSymbol : List PlacedSymbol → ℕ → ℕ → Type 0
AtSymbol ps line column =
    (before : List PlacedSymbol) × (wrong : PlacedSymbol) × (behind : List PlacedSymbol) × (ps ≡ before ++ wrong ∷ behind)
    × BeginsText (symbols before) × (BeginsText (symbols (before ++ wrong ∷ [])) → ⊥) × (line ≡ wrong.line) × (column ≡ wrong.column)

-- All symbols begin a text, but are none, and the place is the begin of a line.
abbrev pub AtEnd : List PlacedSymbol → ℕ → ℕ → ℕ → Type 0
AtEnd ps last line column =
    BeginsText (symbols ps) × (IsText (symbols ps) → ⊥) × (line ≡ last) × (column ≡ 1)

-- Why a text of these characters is refused: it is wrong at its first wrong symbol, or too short. A want of memory says nothing.
abbrev pub Wrong : List ℕ → AsmError → Type 0
Wrong cs OutOfMemory = Unit {0}
Wrong cs (At line column kind) =
    (kind ≡ Syntax) × (AtSymbol (file_symbols (lines_of cs)) line column ⊎ AtEnd (file_symbols (lines_of cs)) (line_count cs + 1) line column)
