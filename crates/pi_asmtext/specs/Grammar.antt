-- The grammar of a whole text. docs/assembler.md has it in words.
use Rattle.std.specs.Prelude.{ℕ, List, [], ◌∷◌, map, codes}
use Rattle.pi_asmtext.specs.Patterns.{Pattern, Empty, One, Then, Either, Many, chain, any_of, Fits, Begins}
use Rattle.pi_asmtext.specs.Symbols.{Symbol, Class, Ending, Exactly, OneOf, Spelled, OtherDesc, Value, Catch, Is, object}
use Rattle.pi_asmtext.specs.declared.forms.Word.TheVariants as word
use Rattle.pi_asmtext.specs.declared.forms.Item.{Item}
use Rattle.pi_asmtext.specs.declared.forms.Item.TheVariants as item
use Rattle.pi_asmtext.specs.declared.forms.Kind.{Kind}
use Rattle.pi_asmtext.specs.declared.forms.Kind.TheVariants as kind
use Rattle.pi_asmtext.specs.declared.forms.Form.{Form}
use Rattle.pi_asmtext.specs.declared.forms.Form.TheVariants as form
use Rattle.pi_asmtext.specs.declared.table.TheConstants.{INSTRUCTIONS}

-- symbols of these classes, and the line's end
abbrev pub line : List Class → Pattern Class
line [] = chain (One Ending ∷ [])
line (c ∷ cs) = Then (One c) (line cs)

-- the flags, those other than static, those with which a method has a body, and those with which it has none
abbrev pub flag : Class
flag = OneOf (codes "public") (codes "private" ∷ codes "protected" ∷ codes "static" ∷ codes "final" ∷ codes "native"
    ∷ codes "interface" ∷ codes "abstract" ∷ codes "constructor" ∷ [])

abbrev pub other_flag : Class
other_flag = OneOf (codes "public") (codes "private" ∷ codes "protected" ∷ codes "final" ∷ codes "native"
    ∷ codes "interface" ∷ codes "abstract" ∷ codes "constructor" ∷ [])

abbrev pub body_flag : Class
body_flag = OneOf (codes "public") (codes "private" ∷ codes "protected" ∷ codes "static" ∷ codes "final"
    ∷ codes "interface" ∷ codes "constructor" ∷ [])

abbrev pub bodiless_flag : Class
bodiless_flag = OneOf (codes "native") (codes "abstract" ∷ [])

abbrev pub flags : Pattern Class
flags = Many (One flag)

abbrev pub name_class : Class
name_class = Spelled word.Name

abbrev pub desc_class : Class
desc_class = Spelled word.Desc

abbrev pub label_class : Class
label_class = Spelled word.Label

-- class FLAGS DESC, where DESC is Object, and where it is not
abbrev pub object_line : Pattern Class
object_line = Then (One (Exactly (codes "class"))) (Then flags (line (Exactly object ∷ [])))

abbrev pub class_line : Pattern Class
class_line = Then (One (Exactly (codes "class"))) (Then flags (line (OtherDesc ∷ [])))

-- super DESC
abbrev pub super_line : Pattern Class
super_line = line (Exactly (codes "super") ∷ desc_class ∷ [])

-- implements DESC
abbrev pub implements_line : Pattern Class
implements_line = line (Exactly (codes "implements") ∷ desc_class ∷ [])

-- field FLAGS NAME DESC, or, where FLAGS have static, field FLAGS NAME DESC = VALUE
abbrev pub field_line : Pattern Class
field_line = Either
    (Then (One (Exactly (codes "field"))) (Then flags (line (name_class ∷ desc_class ∷ []))))
    (Then (One (Exactly (codes "field"))) (Then (Many (One other_flag)) (Then (One (Exactly (codes "static")))
    (Then flags (line (name_class ∷ desc_class ∷ Exactly (codes "=") ∷ Value ∷ []))))))

-- method FLAGS NAME PROTO, where FLAGS have native or abstract
abbrev pub bodiless_line : Pattern Class
bodiless_line = Then (One (Exactly (codes "method"))) (Then (Many (One body_flag)) (Then (One bodiless_flag)
    (Then flags (line (name_class ∷ Spelled word.Proto ∷ [])))))

-- method FLAGS NAME PROTO regs N, where they have neither
abbrev pub method_line : Pattern Class
method_line = Then (One (Exactly (codes "method"))) (Then (Many (One body_flag))
    (line (name_class ∷ Spelled word.Proto ∷ Exactly (codes "regs") ∷ Spelled word.Number ∷ [])))

-- an item of a list, with commas between items, in braces
abbrev pub item_in : Item → Pattern Class
item_in (item.One k) = One (Spelled k)
item_in item.Pair = chain (One (Spelled word.Number) ∷ One label_class ∷ [])

abbrev pub comma : Pattern Class
comma = One (Exactly (codes ","))

abbrev pub more_items : Item → Pattern Class
more_items i = Many (chain (comma ∷ item_in i ∷ []))

abbrev pub items : Item → Pattern Class
items i = Either Empty (chain (item_in i ∷ more_items i ∷ []))

-- an operand
abbrev pub operand : Kind → Pattern Class
operand (kind.Word k) = One (Spelled k)
operand kind.Range = chain (One (Exactly (codes "{")) ∷ One (Spelled word.Register) ∷ One (Exactly (codes ".."))
    ∷ One (Spelled word.Register) ∷ One (Exactly (codes "}")) ∷ [])
operand (kind.List i) = chain (One (Exactly (codes "{")) ∷ items i ∷ One (Exactly (codes "}")) ∷ [])

abbrev pub kinds_of : Form → List Kind
kinds_of form.Nothing = []
kinds_of (form.One a) = a ∷ []
kinds_of (form.Two a b) = a ∷ b ∷ []
kinds_of (form.Three a b c) = a ∷ b ∷ c ∷ []

-- operands with commas between them, the line's end, and then
abbrev pub more_operands : List Kind → Pattern Class → Pattern Class
more_operands [] p = Then (One Ending) p
more_operands (k ∷ ks) p = Then comma (Then (operand k) (more_operands ks p))

abbrev pub operands : List Kind → Pattern Class → Pattern Class
operands [] p = Then (One Ending) p
operands (k ∷ ks) p = Then (operand k) (more_operands ks p)

-- the name of an instruction and its operands
abbrev pub row_line : List ℕ → Form → Pattern Class
row_line name form = Then (One (Exactly name)) (operands (kinds_of form) Empty)

-- an instruction of the table
unfoldable pub instruction_line : Pattern Class
instruction_line = any_of (map (λ r. row_line r.0.now r.1) INSTRUCTIONS)

-- a label on a line of its own
abbrev pub label_line : Pattern Class
label_line = line (label_class ∷ [])

-- try :from :to DESC :handler, or any for DESC
abbrev pub try_line : Pattern Class
try_line = line (Exactly (codes "try") ∷ label_class ∷ label_class ∷ Catch ∷ label_class ∷ [])

abbrev pub end_line : Pattern Class
end_line = line (Exactly (codes "end") ∷ [])

-- what stands between the first line of a method and its end: instructions and labels, and then try lines
abbrev pub code : Pattern Class
code = chain (Many (Either instruction_line label_line) ∷ Many try_line ∷ end_line ∷ [])

-- a method
abbrev pub method_lines : Pattern Class
method_lines = Either bodiless_line (Then method_line code)

-- what stands behind the first lines of a class
abbrev pub members : Pattern Class
members = chain (Many implements_line ∷ Many field_line ∷ Many method_lines ∷ end_line ∷ [])

-- a class: Object without a line super, or another with it
abbrev pub class_lines : Pattern Class
class_lines = Either (Then object_line members) (Then class_line (Then super_line members))

-- a text: classes
abbrev pub text : Pattern Class
text = Many class_lines

-- symbols are a text, or begin one
unfoldable pub IsText : List Symbol → Type 0
IsText symbols = Fits Is text symbols

unfoldable pub BeginsText : List Symbol → Type 0
BeginsText symbols = Begins Is text symbols
