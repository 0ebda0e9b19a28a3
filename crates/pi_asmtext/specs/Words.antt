-- The words of the grammar, by the units of their texts.
use Rattle.std.specs.Prelude.{ℕ, ◌==◌, ◌&&◌, ◌||◌, not, nat_le, nat_lt, Bool, List, [], ◌∷◌, IsTrue}
use Rattle.pi_asmtext.specs.Patterns.{Pattern, Empty, One, Either, Many, chain, some, Fits}

-- classes of units; a sign is that unit alone
pub data UnitClass : Type 0 where
  Sign : ℕ → UnitClass
  Digit : UnitClass
  HexDigit : UnitClass
  NameUnit : UnitClass
  PathUnit : UnitClass
  Primitive : UnitClass
  Plain : UnitClass
  Escapable : UnitClass

-- a unit is from a lowest up to a highest
abbrev pub in_range : ℕ → ℕ → ℕ → Bool
in_range low high u = nat_le low u && nat_le u high

-- 0 to 9
abbrev pub is_digit : ℕ → Bool
is_digit u = in_range 48 57 u

-- 0 to 9, a to f, A to F
abbrev pub is_hex : ℕ → Bool
is_hex u = is_digit u || (in_range 97 102 u || in_range 65 70 u)

-- a to z, A to Z, 0 to 9, $ - _ < >, and all above 0x7f
abbrev pub is_name_unit : ℕ → Bool
is_name_unit u =
    (in_range 97 122 u || (in_range 65 90 u || is_digit u))
    || ((u == 36 || u == 45) || ((u == 95 || u == 60) || (u == 62 || nat_lt 127 u)))

-- V Z B S C I J
abbrev pub is_primitive : ℕ → Bool
is_primitive u = (u == 86 || u == 90) || ((u == 66 || u == 83) || (u == 67 || (u == 73 || u == 74)))

-- a unit of a name, or /
abbrev pub is_path_unit : ℕ → Bool
is_path_unit u = is_name_unit u || u == 47

-- a unit is of a class; a plain one is neither quote nor backslash, an escapable one is ", \ or n
abbrev pub unit_test : UnitClass → ℕ → Bool
unit_test (Sign k) u = u == k
unit_test Digit u = is_digit u
unit_test HexDigit u = is_hex u
unit_test NameUnit u = is_name_unit u
unit_test PathUnit u = is_path_unit u
unit_test Primitive u = is_primitive u
unit_test Plain u = not (u == 34) && not (u == 92)
unit_test Escapable u = u == 34 || (u == 92 || u == 110)

abbrev pub of_unit : UnitClass → ℕ → Type 0
of_unit c u = IsTrue (unit_test c u)

abbrev pub sign : ℕ → Pattern UnitClass
sign k = One (Sign k)

-- one or more units of a name
abbrev pub name : Pattern UnitClass
name = some (One NameUnit)

-- a descriptor: any number of [, then a primitive or L, one or more path units and ;
abbrev pub class_name : Pattern UnitClass
class_name = chain (sign 76 ∷ some (One PathUnit) ∷ sign 59 ∷ [])

abbrev pub desc : Pattern UnitClass
desc = chain (Many (sign 91) ∷ Either (One Primitive) class_name ∷ [])

-- a prototype: descriptors in round brackets and a descriptor
abbrev pub proto : Pattern UnitClass
proto = chain (sign 40 ∷ Many desc ∷ sign 41 ∷ desc ∷ [])

-- a decimal number: digits, which may have a - before them
abbrev pub number : Pattern UnitClass
number = chain (Either Empty (sign 45) ∷ some (One Digit) ∷ [])

-- a register: v and digits
abbrev pub register : Pattern UnitClass
register = chain (sign 118 ∷ some (One Digit) ∷ [])

-- a label: : and a name
abbrev pub label : Pattern UnitClass
label = chain (sign 58 ∷ name ∷ [])

-- an escape: \ and one of " \ n, or u and four hexadecimal digits
abbrev pub four_digits : Pattern UnitClass
four_digits = chain (sign 117 ∷ One HexDigit ∷ One HexDigit ∷ One HexDigit ∷ One HexDigit ∷ [])

abbrev pub escape : Pattern UnitClass
escape = chain (sign 92 ∷ Either (One Escapable) four_digits ∷ [])

-- a string: plain units and escapes between quotes
abbrev pub string : Pattern UnitClass
string = chain (sign 34 ∷ Many (Either (One Plain) escape) ∷ sign 34 ∷ [])

-- a field: DESC->NAME:DESC
abbrev pub field : Pattern UnitClass
field = chain (desc ∷ sign 45 ∷ sign 62 ∷ name ∷ sign 58 ∷ desc ∷ [])

-- a method: DESC->NAME and its prototype
abbrev pub method : Pattern UnitClass
method = chain (desc ∷ sign 45 ∷ sign 62 ∷ name ∷ proto ∷ [])

-- units are a word of that pattern
abbrev pub Spells : Pattern UnitClass → List ℕ → Type 0
Spells p units = Fits of_unit p units
