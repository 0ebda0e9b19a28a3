-- The walk over the units of a word: what is wanted next, as the code keeps it, and the pattern that it stands for.
use Rattle.std.specs.Prelude.{ℕ, ◌==◌, ◌||◌, Option, Some, None, if◌then◌else◌, [], ◌∷◌}
use Rattle.std.specs.Bool.{then_some}
use Rattle.pi_asmtext.specs.Patterns.{Pattern, Empty, One, Then, Either, Many, chain, some}
use Rattle.pi_asmtext.specs.Derivatives.{sequence}
use Rattle.pi_asmtext.specs.Words.{UnitClass, NameUnit, PathUnit, Digit, HexDigit, Plain, Escapable, is_digit, is_hex, is_name_unit, is_path_unit, is_primitive, sign, name, desc, proto, number, register, label, four_digits, escape, string}
use Rattle.pi_asmtext.specs.declared.forms.Word.{Word}
use Rattle.pi_asmtext.specs.declared.forms.Word.TheVariants as word
use Rattle.pi_asmtext.specs.declared.words.Member.{Member}
use Rattle.pi_asmtext.specs.declared.words.Member.TheVariants.{Field, Method}
use Rattle.pi_asmtext.specs.declared.words.Tail.{Tail}
use Rattle.pi_asmtext.specs.declared.words.Tail.TheVariants as tail
use Rattle.pi_asmtext.specs.declared.words.Spell.{Spell}
use Rattle.pi_asmtext.specs.declared.words.Spell.TheVariants as spell

-- what is left behind the name of a member
abbrev pub behind_name : Member → Pattern UnitClass
behind_name Field = chain (sign 58 ∷ desc ∷ [])
behind_name Method = chain (proto ∷ [])

-- what is left behind the arrow
abbrev pub member_left : Member → Pattern UnitClass
member_left m = Then name (behind_name m)

-- what is left behind the opening bracket of a prototype
abbrev pub params_left : Pattern UnitClass
params_left = chain (Many desc ∷ sign 41 ∷ desc ∷ [])

-- what is left behind a type
abbrev pub tail_left : Tail → Pattern UnitClass
tail_left tail.End = Empty
tail_left tail.Params = params_left
tail_left (tail.Member m) = Then (sign 45) (Then (sign 62) (member_left m))

-- what is left in a string
abbrev pub text_left : Pattern UnitClass
text_left = chain (Many (Either (One Plain) escape) ∷ sign 34 ∷ [])

-- so many digits, and the rest of the string
abbrev pub hex_left : Pattern UnitClass → Pattern UnitClass
hex_left p = Then (One HexDigit) p

-- what is left of a word
abbrev pub rest_of : Spell → Pattern UnitClass
rest_of spell.Done = Empty
rest_of (spell.First t) = Then desc (tail_left t)
rest_of (spell.Type t) = sequence desc (tail_left t)
rest_of (spell.Class t) = Then (some (One PathUnit)) (Then (sign 59) (tail_left t))
rest_of (spell.ClassMore t) = Then (Many (One PathUnit)) (Then (sign 59) (tail_left t))
rest_of spell.Proto = proto
rest_of spell.Params = params_left
rest_of (spell.Minus m) = Then (sign 45) (Then (sign 62) (member_left m))
rest_of (spell.Greater m) = Then (sign 62) (member_left m)
rest_of (spell.Member m) = member_left m
rest_of (spell.MemberMore m) = Then (Many (One NameUnit)) (behind_name m)
rest_of spell.Label = label
rest_of spell.LabelName = chain (name ∷ [])
rest_of spell.Name = name
rest_of spell.NameMore = chain (Many (One NameUnit) ∷ [])
rest_of spell.Number = number
rest_of spell.Register = register
rest_of spell.Digit = chain (some (One Digit) ∷ [])
rest_of spell.DigitMore = chain (Many (One Digit) ∷ [])
rest_of spell.Quote = string
rest_of spell.Text = text_left
rest_of spell.Escape = Then (Either (One Escapable) four_digits) text_left
rest_of spell.Hex4 = hex_left (hex_left (hex_left (hex_left text_left)))
rest_of spell.Hex3 = hex_left (hex_left (hex_left text_left))
rest_of spell.Hex2 = hex_left (hex_left text_left)
rest_of spell.Hex1 = hex_left text_left

-- where the walk over a word of a kind starts
abbrev pub start_of : Word → Spell
start_of word.Name = spell.Name
start_of word.Desc = spell.Type tail.End
start_of word.Proto = spell.Proto
start_of word.Number = spell.Number
start_of word.Register = spell.Register
start_of word.Label = spell.Label
start_of word.Text = spell.Quote
start_of word.Field = spell.First (tail.Member Field)
start_of word.Method = spell.First (tail.Member Method)

abbrev pub tail_spell : Tail → Spell
tail_spell tail.End = spell.Done
tail_spell tail.Params = spell.Params
tail_spell (tail.Member m) = spell.Minus m

abbrev pub next_in_type : Tail → ℕ → Option Spell
next_in_type t u =
    if u == 91 then Some (spell.Type t) else if u == 76 then Some (spell.Class t) else then_some (is_primitive u) (tail_spell t)

abbrev pub next_in_member : Member → ℕ → Option Spell
next_in_member Field u = then_some (u == 58) (spell.First tail.End)
next_in_member Method u = then_some (u == 40) spell.Params

abbrev pub next_in_text : ℕ → Spell
next_in_text u = if u == 34 then spell.Done else if u == 92 then spell.Escape else spell.Text

abbrev pub next_in_escape : ℕ → Option Spell
next_in_escape u = if u == 34 || (u == 92 || u == 110) then Some spell.Text else then_some (u == 117) spell.Hex4

-- what is wanted behind a unit
abbrev pub next_of : Spell → ℕ → Option Spell
next_of spell.Done u = None
next_of (spell.First t) u = next_in_type t u
next_of (spell.Type t) u = next_in_type t u
next_of (spell.Class t) u = then_some (is_path_unit u) (spell.ClassMore t)
next_of (spell.ClassMore t) u = if u == 59 then Some (tail_spell t) else then_some (is_path_unit u) (spell.ClassMore t)
next_of spell.Proto u = then_some (u == 40) spell.Params
next_of spell.Params u = if u == 41 then Some (spell.First tail.End) else next_in_type tail.Params u
next_of (spell.Minus m) u = then_some (u == 45) (spell.Greater m)
next_of (spell.Greater m) u = then_some (u == 62) (spell.Member m)
next_of (spell.Member m) u = then_some (is_name_unit u) (spell.MemberMore m)
next_of (spell.MemberMore m) u = if is_name_unit u then Some (spell.MemberMore m) else next_in_member m u
next_of spell.Label u = then_some (u == 58) spell.LabelName
next_of spell.LabelName u = then_some (is_name_unit u) spell.NameMore
next_of spell.Name u = then_some (is_name_unit u) spell.NameMore
next_of spell.NameMore u = then_some (is_name_unit u) spell.NameMore
next_of spell.Number u = if u == 45 then Some spell.Digit else then_some (is_digit u) spell.DigitMore
next_of spell.Register u = then_some (u == 118) spell.Digit
next_of spell.Digit u = then_some (is_digit u) spell.DigitMore
next_of spell.DigitMore u = then_some (is_digit u) spell.DigitMore
next_of spell.Quote u = then_some (u == 34) spell.Text
next_of spell.Text u = Some (next_in_text u)
next_of spell.Escape u = next_in_escape u
next_of spell.Hex4 u = then_some (is_hex u) spell.Hex3
next_of spell.Hex3 u = then_some (is_hex u) spell.Hex2
next_of spell.Hex2 u = then_some (is_hex u) spell.Hex1
next_of spell.Hex1 u = then_some (is_hex u) spell.Text
