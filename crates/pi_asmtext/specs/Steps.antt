-- The walk over the symbols of a text, as the code takes it: what is wanted behind a token and behind a line's end.
use Rattle.std.specs.Prelude.{ℕ, ◌||◌, List, codes, Bool, false, Option, Some, None, if◌then◌else◌, option_map}
use Rattle.std.specs.Bool.{then_some}
use Rattle.std.specs.Option.{unwrap_or}
use Rattle.pi_asmtext.specs.Symbols.{Value, Catch, object, same_text}
use Rattle.pi_asmtext.specs.declared.forms.Word.TheVariants as word
use Rattle.pi_asmtext.specs.declared.forms.Item.{Item}
use Rattle.pi_asmtext.specs.declared.forms.Item.TheVariants as item
use Rattle.pi_asmtext.specs.declared.forms.Kind.{Kind}
use Rattle.pi_asmtext.specs.declared.forms.Kind.TheVariants as kind
use Rattle.pi_asmtext.specs.declared.forms.Form.{Form}
use Rattle.pi_asmtext.specs.declared.forms.Form.TheVariants as form
use Rattle.pi_asmtext.specs.declared.state.Place.{Place}
use Rattle.pi_asmtext.specs.declared.state.Place.TheVariants as place
use Rattle.pi_asmtext.specs.declared.state.Want.{Want}
use Rattle.pi_asmtext.specs.declared.state.Want.TheVariants as want
use Rattle.pi_asmtext.specs.declared.state.Flag.{Flag}
use Rattle.pi_asmtext.specs.declared.state.Flag.TheVariants as flag_kind
use Rattle.pi_asmtext.specs.declared.state.FieldSpot.{FieldSpot}
use Rattle.pi_asmtext.specs.declared.state.FieldSpot.TheVariants as in_field
use Rattle.pi_asmtext.specs.declared.state.MethodSpot.{MethodSpot}
use Rattle.pi_asmtext.specs.declared.state.MethodSpot.TheVariants as in_method
use Rattle.pi_asmtext.specs.declared.state.Spot.{Spot}
use Rattle.pi_asmtext.specs.declared.state.Spot.TheVariants as spot
use Rattle.pi_asmtext.specs.declared.state.State.{State}
use Rattle.pi_asmtext.specs.declared.state.State.TheVariants as state
use Rattle.pi_asmtext.specs.Checks.{form_of, is_word, token_test}

abbrev pub tries_next : List ℕ → Option State
tries_next us =
    if same_text us (codes "try") then Some (state.Line want.From place.Tries)
    else then_some (same_text us (codes "end")) (state.Line want.End place.Methods)

abbrev pub methods_next : List ℕ → Option State
methods_next us =
    if same_text us (codes "method") then Some (state.Method in_method.Start)
    else then_some (same_text us (codes "end")) (state.Line want.End place.Classes)

abbrev pub fields_next : List ℕ → Option State
fields_next us = if same_text us (codes "field") then Some (state.Field in_field.Start) else methods_next us

abbrev pub members_next : List ℕ → Option State
members_next us = if same_text us (codes "implements") then Some (state.Line want.Desc place.Members) else fields_next us

-- the operand that is wanted first
abbrev pub first_operand : Form → Option Spot
first_operand form.Nothing = None
first_operand (form.One a) = Some (spot.Operand a form.Nothing)
first_operand (form.Two a b) = Some (spot.Operand a (form.One b))
first_operand (form.Three a b c) = Some (spot.Operand a (form.Two b c))

-- what is wanted behind the name of an instruction
abbrev pub first_spot : Form → Spot
first_spot f = unwrap_or (first_operand f) (spot.After f)

abbrev pub or_tries : Option Form → List ℕ → Option State
or_tries None us = tries_next us
or_tries (Some f) us = Some (state.Operands (first_spot f))

abbrev pub body_next : List ℕ → Option State
body_next us = if is_word word.Label us then Some (state.Line want.End place.Body) else or_tries (form_of us) us

abbrev pub place_next : Place → List ℕ → Option State
place_next place.Classes us = then_some (same_text us (codes "class")) state.Class
place_next place.Super us = then_some (same_text us (codes "super")) (state.Line want.Desc place.Members)
place_next place.Members us = members_next us
place_next place.Fields us = fields_next us
place_next place.Methods us = methods_next us
place_next place.Body us = body_next us
place_next place.Tries us = tries_next us

-- a token is the one that a line wants next
abbrev pub is_wanted : Want → List ℕ → Bool
is_wanted want.End us = false
is_wanted want.Desc us = is_word word.Desc us
is_wanted want.Value us = token_test Value us
is_wanted want.Proto us = is_word word.Proto us
is_wanted want.ProtoRegs us = is_word word.Proto us
is_wanted want.Regs us = same_text us (codes "regs")
is_wanted want.Number us = is_word word.Number us
is_wanted want.From us = is_word word.Label us
is_wanted want.To us = is_word word.Label us
is_wanted want.Catch us = token_test Catch us
is_wanted want.Handler us = is_word word.Label us

abbrev pub want_next : Want → Want
want_next want.ProtoRegs = want.Regs
want_next want.Regs = want.Number
want_next want.From = want.To
want_next want.To = want.Catch
want_next want.Catch = want.Handler
want_next _ = want.End

-- a flag with which a method has a body, other than static
abbrev pub is_body_flag : List ℕ → Bool
is_body_flag us =
    same_text us (codes "public") || (same_text us (codes "private") || (same_text us (codes "protected")
    || (same_text us (codes "final") || (same_text us (codes "interface") || same_text us (codes "constructor")))))

-- which flag a token is
abbrev pub flag_of : List ℕ → Option Flag
flag_of us =
    if same_text us (codes "static") then Some flag_kind.Static
    else if same_text us (codes "native") || same_text us (codes "abstract") then Some flag_kind.Bodiless
    else if is_body_flag us then Some flag_kind.Other
    else None

abbrev pub class_word : Option Flag → List ℕ → Option State
class_word (Some f) us = Some state.Class
class_word None us =
    if same_text us object then Some (state.Line want.End place.Members)
    else then_some (is_word word.Desc us) (state.Line want.End place.Super)

abbrev pub field_flag : Flag → FieldSpot → Option State
field_flag flag_kind.Static in_field.Start = Some (state.Field in_field.Static)
field_flag flag_kind.Static in_field.Plain = Some (state.Field in_field.Static)
field_flag _ in_field.Start = Some (state.Field in_field.Plain)
field_flag _ in_field.Plain = Some (state.Field in_field.Plain)
field_flag _ in_field.Static = Some (state.Field in_field.Statics)
field_flag _ in_field.Statics = Some (state.Field in_field.Statics)
field_flag _ _ = None

-- behind the flags of a field: a name, a type or what may be both
abbrev pub pick : Bool → Bool → State → State → State → Option State
pick name type both named typed = if name then Some (if type then both else named) else then_some type typed

abbrev pub field_word : FieldSpot → List ℕ → Option State
field_word in_field.Start us = then_some (is_word word.Name us) (state.Line want.Desc place.Fields)
field_word in_field.Plain us =
    pick (is_word word.Name us) (is_word word.Desc us) (state.Field in_field.PlainBoth) (state.Line want.Desc place.Fields) (state.Line want.End place.Fields)
field_word in_field.Static us =
    pick (is_word word.Name us) (is_word word.Desc us) (state.Field in_field.StaticBoth) (state.Field in_field.Named) (state.Line want.End place.Fields)
field_word in_field.Statics us =
    pick (is_word word.Name us) (is_word word.Desc us) (state.Field in_field.StaticsBoth) (state.Field in_field.Named) (state.Field in_field.Typed)
field_word in_field.Named us = then_some (is_word word.Desc us) (state.Field in_field.Typed)
field_word in_field.PlainBoth us = then_some (is_word word.Desc us) (state.Line want.End place.Fields)
field_word in_field.StaticBoth us = then_some (is_word word.Desc us) (state.Field in_field.Typed)
field_word in_field.StaticsBoth us =
    if same_text us (codes "=") then Some (state.Line want.Value place.Fields) else then_some (is_word word.Desc us) (state.Field in_field.Typed)
field_word in_field.Typed us = then_some (same_text us (codes "=")) (state.Line want.Value place.Fields)

abbrev pub field_next : FieldSpot → Option Flag → List ℕ → Option State
field_next s None us = field_word s us
field_next s (Some f) us = field_flag f s

abbrev pub method_flag : Flag → MethodSpot → MethodSpot
method_flag flag_kind.Bodiless in_method.Start = in_method.Bodiless
method_flag flag_kind.Bodiless in_method.Body = in_method.Bodiless
method_flag _ in_method.Start = in_method.Body
method_flag _ in_method.Body = in_method.Body
method_flag _ _ = in_method.Bodilesses

abbrev pub method_named : MethodSpot → State
method_named in_method.Start = state.Line want.ProtoRegs place.Body
method_named in_method.Body = state.Line want.ProtoRegs place.Body
method_named in_method.Bodiless = state.Line want.Proto place.Methods
method_named in_method.Bodilesses = state.Line want.Proto place.Methods

-- behind a prototype, where the flag before it is the name
abbrev pub method_typed : MethodSpot → Option State
method_typed in_method.Start = None
method_typed in_method.Body = Some (state.Line want.Regs place.Body)
method_typed in_method.Bodiless = Some (state.Line want.Regs place.Body)
method_typed in_method.Bodilesses = Some (state.Line want.End place.Methods)

abbrev pub method_word : MethodSpot → List ℕ → Option State
method_word s us = if is_word word.Name us then Some (method_named s) else if is_word word.Proto us then method_typed s else None

abbrev pub method_next : MethodSpot → Option Flag → List ℕ → Option State
method_next s None us = method_word s us
method_next s (Some f) us = Some (state.Method (method_flag f s))

abbrev pub operand_next : Kind → Form → List ℕ → Option State
operand_next (kind.Word k) f us = then_some (is_word k us) (state.Operands (spot.After f))
operand_next kind.Range f us = then_some (same_text us (codes "{")) (state.Operands (spot.RangeFirst f))
operand_next (kind.List i) f us = then_some (same_text us (codes "{")) (state.Operands (spot.ListFirst i f))

abbrev pub item_next : Item → Form → List ℕ → Option State
item_next (item.One k) f us = then_some (is_word k us) (state.Operands (spot.ListMore (item.One k) f))
item_next item.Pair f us = then_some (is_word word.Number us) (state.Operands (spot.PairLabel f))

abbrev pub after_next : Form → List ℕ → Option State
after_next f us = if same_text us (codes ",") then option_map (λ s. state.Operands s) (first_operand f) else None

abbrev pub spot_next : Spot → List ℕ → Option State
spot_next (spot.Operand k f) us = operand_next k f us
spot_next (spot.After f) us = after_next f us
spot_next (spot.RangeFirst f) us = then_some (is_word word.Register us) (state.Operands (spot.RangeDots f))
spot_next (spot.RangeDots f) us = then_some (same_text us (codes "..")) (state.Operands (spot.RangeLast f))
spot_next (spot.RangeLast f) us = then_some (is_word word.Register us) (state.Operands (spot.RangeClose f))
spot_next (spot.RangeClose f) us = then_some (same_text us (codes "}")) (state.Operands (spot.After f))
spot_next (spot.ListFirst i f) us = if same_text us (codes "}") then Some (state.Operands (spot.After f)) else item_next i f us
spot_next (spot.ListMore i f) us =
    if same_text us (codes "}") then Some (state.Operands (spot.After f)) else then_some (same_text us (codes ",")) (state.Operands (spot.ListItem i f))
spot_next (spot.ListItem i f) us = item_next i f us
spot_next (spot.PairLabel f) us = then_some (is_word word.Label us) (state.Operands (spot.ListMore item.Pair f))

-- what is wanted behind a token
abbrev pub next_of : State → List ℕ → Option State
next_of (state.At p) us = place_next p us
next_of (state.Line w p) us = then_some (is_wanted w us) (state.Line (want_next w) p)
next_of state.Class us = class_word (flag_of us) us
next_of (state.Field s) us = field_next s (flag_of us) us
next_of (state.Method s) us = method_next s (flag_of us) us
next_of (state.Operands s) us = spot_next s us

-- what is wanted behind a line's end
abbrev pub end_of : State → Option State
end_of (state.Line want.End p) = Some (state.At p)
end_of (state.Field in_field.PlainBoth) = Some (state.At place.Fields)
end_of (state.Field in_field.StaticBoth) = Some (state.At place.Fields)
end_of (state.Field in_field.StaticsBoth) = Some (state.At place.Fields)
end_of (state.Field in_field.Typed) = Some (state.At place.Fields)
end_of (state.Operands (spot.After form.Nothing)) = Some (state.At place.Body)
end_of _ = None
