-- What is wanted next, as the code keeps it, and the pattern that it stands for: what is left of the text.
use Rattle.std.specs.Prelude.{List, [], ◌∷◌, codes}
use Rattle.pi_asmtext.specs.Patterns.{Pattern, One, Then, Either, Many}
use Rattle.pi_asmtext.specs.Symbols.{Class, Ending, Exactly, Spelled, OtherDesc, Value, Catch, object}
use Rattle.pi_asmtext.specs.Grammar.{line, other_flag, body_flag, bodiless_flag, flags, name_class, desc_class, label_class, super_line, implements_line, field_line, method_lines, try_line, end_line, code, members, text, instruction_line, label_line, item_in, more_items, items, operand, kinds_of, more_operands}
use Rattle.pi_asmtext.specs.declared.forms.Word.TheVariants as word
use Rattle.pi_asmtext.specs.declared.forms.Item.TheVariants as item
use Rattle.pi_asmtext.specs.declared.forms.Form.{Form}
use Rattle.pi_asmtext.specs.declared.state.Place.{Place}
use Rattle.pi_asmtext.specs.declared.state.Place.TheVariants as place
use Rattle.pi_asmtext.specs.declared.state.Want.{Want}
use Rattle.pi_asmtext.specs.declared.state.Want.TheVariants as want
use Rattle.pi_asmtext.specs.declared.state.FieldSpot.{FieldSpot}
use Rattle.pi_asmtext.specs.declared.state.FieldSpot.TheVariants as in_field
use Rattle.pi_asmtext.specs.declared.state.MethodSpot.{MethodSpot}
use Rattle.pi_asmtext.specs.declared.state.MethodSpot.TheVariants as in_method
use Rattle.pi_asmtext.specs.declared.state.Spot.{Spot}
use Rattle.pi_asmtext.specs.declared.state.Spot.TheVariants as spot
use Rattle.pi_asmtext.specs.declared.state.State.{State}
use Rattle.pi_asmtext.specs.declared.state.State.TheVariants as state

-- what is left at the start of a line
abbrev pub methods_left : Pattern Class
methods_left = Then (Many method_lines) (Then end_line text)

abbrev pub fields_left : Pattern Class
fields_left = Then (Many field_line) methods_left

abbrev pub members_left : Pattern Class
members_left = Then (Many implements_line) fields_left

abbrev pub tries_left : Pattern Class
tries_left = Then (Many try_line) (Then end_line methods_left)

abbrev pub body_left : Pattern Class
body_left = Then (Many (Either instruction_line label_line)) tries_left

abbrev pub place_left : Place → Pattern Class
place_left place.Classes = text
place_left place.Super = Then super_line members_left
place_left place.Members = members_left
place_left place.Fields = fields_left
place_left place.Methods = methods_left
place_left place.Body = body_left
place_left place.Tries = tries_left

-- symbols of these classes, the line's end, and then
abbrev pub line_left : List Class → Pattern Class → Pattern Class
line_left [] p = Then (One Ending) p
line_left (c ∷ cs) p = Then (One c) (line_left cs p)

abbrev pub classes_of : Want → List Class
classes_of want.End = []
classes_of want.Desc = desc_class ∷ []
classes_of want.Value = Value ∷ []
classes_of want.Proto = Spelled word.Proto ∷ []
classes_of want.ProtoRegs = Spelled word.Proto ∷ Exactly (codes "regs") ∷ Spelled word.Number ∷ []
classes_of want.Regs = Exactly (codes "regs") ∷ Spelled word.Number ∷ []
classes_of want.Number = Spelled word.Number ∷ []
classes_of want.From = label_class ∷ label_class ∷ Catch ∷ label_class ∷ []
classes_of want.To = label_class ∷ Catch ∷ label_class ∷ []
classes_of want.Catch = Catch ∷ label_class ∷ []
classes_of want.Handler = label_class ∷ []

-- what is left behind the word class
abbrev pub class_left : Pattern Class
class_left = Either (Then flags (line_left (Exactly object ∷ []) members)) (Then flags (line_left (OtherDesc ∷ []) (Then super_line members)))

-- what is left behind the word field, of one that takes no value and of one that does
abbrev pub type_wanted : Pattern Class
type_wanted = line (desc_class ∷ [])

abbrev pub valued_wanted : Pattern Class
valued_wanted = line (desc_class ∷ Exactly (codes "=") ∷ Value ∷ [])

abbrev pub end_wanted : Pattern Class
end_wanted = line []

abbrev pub value_wanted : Pattern Class
value_wanted = line (Exactly (codes "=") ∷ Value ∷ [])

abbrev pub plain_wanted : Pattern Class
plain_wanted = Then flags (line (name_class ∷ desc_class ∷ []))

abbrev pub statics_wanted : Pattern Class
statics_wanted = Then flags (line (name_class ∷ desc_class ∷ Exactly (codes "=") ∷ Value ∷ []))

abbrev pub static_wanted : Pattern Class
static_wanted = Then (Many (One other_flag)) (Then (One (Exactly (codes "static"))) statics_wanted)

abbrev pub field_left : FieldSpot → Pattern Class
field_left in_field.Start = Either plain_wanted static_wanted
field_left in_field.Plain = Either (Either plain_wanted type_wanted) static_wanted
field_left in_field.Static = Either (Either plain_wanted type_wanted) statics_wanted
field_left in_field.Statics = Either (Either plain_wanted type_wanted) (Either statics_wanted valued_wanted)
field_left in_field.Named = Either type_wanted valued_wanted
field_left in_field.PlainBoth = Either type_wanted end_wanted
field_left in_field.StaticBoth = Either (Either type_wanted end_wanted) valued_wanted
field_left in_field.StaticsBoth = Either (Either type_wanted end_wanted) (Either valued_wanted value_wanted)
field_left in_field.Typed = Either end_wanted value_wanted

-- what is left behind the word method, of one with a body and of one with none
abbrev pub body_wanted : Pattern Class
body_wanted = Then (Many (One body_flag)) (line_left (name_class ∷ Spelled word.Proto ∷ Exactly (codes "regs") ∷ Spelled word.Number ∷ []) code)

abbrev pub proto_wanted : Pattern Class
proto_wanted = line_left (Spelled word.Proto ∷ Exactly (codes "regs") ∷ Spelled word.Number ∷ []) code

abbrev pub bodilesses_wanted : Pattern Class
bodilesses_wanted = Then flags (line (name_class ∷ Spelled word.Proto ∷ []))

abbrev pub bodiless_wanted : Pattern Class
bodiless_wanted = Then (Many (One body_flag)) (Then (One bodiless_flag) bodilesses_wanted)

abbrev pub method_left : MethodSpot → Pattern Class
method_left in_method.Start = Either bodiless_wanted body_wanted
method_left in_method.Body = Either bodiless_wanted (Either body_wanted proto_wanted)
method_left in_method.Bodiless = Either bodilesses_wanted proto_wanted
method_left in_method.Bodilesses = Either bodilesses_wanted (line (Spelled word.Proto ∷ []))

-- what is left among operands
abbrev pub more_left : Form → Pattern Class
more_left f = more_operands (kinds_of f) body_left

abbrev pub register_class : Class
register_class = Spelled word.Register

abbrev pub close_left : Form → Pattern Class
close_left f = Then (One (Exactly (codes "}"))) (more_left f)

abbrev pub spot_left : Spot → Pattern Class
spot_left (spot.Operand k f) = Then (operand k) (more_left f)
spot_left (spot.After f) = more_left f
spot_left (spot.RangeFirst f) = Then (One register_class) (Then (One (Exactly (codes ".."))) (Then (One register_class) (close_left f)))
spot_left (spot.RangeDots f) = Then (One (Exactly (codes ".."))) (Then (One register_class) (close_left f))
spot_left (spot.RangeLast f) = Then (One register_class) (close_left f)
spot_left (spot.RangeClose f) = close_left f
spot_left (spot.ListFirst i f) = Then (items i) (close_left f)
spot_left (spot.ListMore i f) = Then (more_items i) (close_left f)
spot_left (spot.ListItem i f) = Then (item_in i) (Then (more_items i) (close_left f))
spot_left (spot.PairLabel f) = Then (One label_class) (Then (more_items item.Pair) (close_left f))

-- what is left of the text
abbrev pub rest_of : State → Pattern Class
rest_of (state.At p) = place_left p
rest_of (state.Line w p) = line_left (classes_of w) (place_left p)
rest_of state.Class = Then class_left text
rest_of (state.Field s) = Then (field_left s) fields_left
rest_of (state.Method s) = Then (method_left s) methods_left
rest_of (state.Operands s) = spot_left s
