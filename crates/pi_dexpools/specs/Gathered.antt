-- What classes name, each thing once in the order of its first use: a type is the place of its descriptor among the texts, and so
-- on up to methods, which are places of types, texts and prototypes.
use Rattle.std.specs.Prelude.{◌≡◌, ℕ, ◌==◌, ◌&&◌, nat_eq, List, [], ◌∷◌, ◌++◌, length, map, take, Bool, if◌then◌else◌}
use Rattle.std.specs.List.{list_any, position_or_len}
use Rattle.pi_model.specs.Texts.{same_text}
use Rattle.pi_contents.specs.Contents.{FieldName, Prototype, MethodName, Naming, NoName, OfText, OfType, OfField, OfMethod}
use Rattle.pi_contents.specs.Naming.{short_form}
use Rattle.pi_dexpools.specs.declared.gathered.Counts.{Counts}
use Rattle.pi_dexpools.specs.declared.gathered.Gathered.{Gathered}
use Rattle.pi_dexpools.specs.declared.gathered.MemberParts.{MemberParts}
use Rattle.pi_dexpools.specs.declared.gathered.Place.{Place}
use Rattle.pi_dexpools.specs.declared.gathered.Place.TheVariants.{Nothing, OfText as AtText, OfType as AtType, OfField as AtField, OfMethod as AtMethod}
use Rattle.pi_dexpools.specs.declared.gathered.ProtoParts.{ProtoParts}

abbrev pub nothing_gathered : Gathered
nothing_gathered = record { texts = []; types = []; protos = []; fields = []; methods = [] }

-- a list with one thing more behind it, unless the same stands there; and the place of the same thing, the length where none is
abbrev pub with_new : {A : Type 0} → (A → A → Bool) → List A → A → List A
with_new same xs x = if list_any (same x) xs then xs else xs ++ x ∷ []

abbrev pub place_of : {A : Type 0} → (A → A → Bool) → A → List A → ℕ
place_of same x xs = position_or_len (same x) xs

abbrev pub same_proto : ProtoParts → ProtoParts → Bool
same_proto p q = (p.short == q.short) && ((p.ret == q.ret) && same_text p.params q.params)

abbrev pub same_member : MemberParts → MemberParts → Bool
same_member m n = (m.class == n.class) && ((m.name == n.name) && (m.kind == n.kind))

-- a text
abbrev pub text_place : Gathered → List ℕ → ℕ
text_place g s = place_of same_text s g.texts

abbrev pub with_text : Gathered → List ℕ → Gathered
with_text g s = record g { texts = with_new same_text g.texts s }

-- a type, behind its descriptor
abbrev pub type_place : Gathered → List ℕ → ℕ
type_place g t = place_of nat_eq (text_place g t) g.types

abbrev pub with_type_of_text : Gathered → List ℕ → Gathered
with_type_of_text g t = record g { types = with_new nat_eq g.types (text_place g t) }

abbrev pub with_type : Gathered → List ℕ → Gathered
with_type g t = with_type_of_text (with_text g t) t

abbrev pub with_types : Gathered → List (List ℕ) → Gathered
with_types g [] = g
with_types g (t ∷ ts) = with_types (with_type g t) ts

-- a prototype, behind its short form, its result and its parameters
abbrev pub proto_parts : Gathered → Prototype → ProtoParts
proto_parts g q = record { short = text_place g (short_form q); ret = type_place g q.ret; params = map (type_place g) q.params }

abbrev pub proto_place : Gathered → Prototype → ℕ
proto_place g q = place_of same_proto (proto_parts g q) g.protos

abbrev pub with_proto_parts : Gathered → Prototype → Gathered
with_proto_parts g q = record g { protos = with_new same_proto g.protos (proto_parts g q) }

unfoldable pub with_proto : Gathered → Prototype → Gathered
with_proto g q = with_proto_parts (with_types (with_type (with_text g (short_form q)) q.ret) q.params) q

-- a field, behind its class, its name and its type
abbrev pub field_parts : Gathered → FieldName → MemberParts
field_parts g f = record { class = type_place g f.class; name = text_place g f.name; kind = type_place g f.ty }

abbrev pub field_place : Gathered → FieldName → ℕ
field_place g f = place_of same_member (field_parts g f) g.fields

abbrev pub with_field_parts : Gathered → FieldName → Gathered
with_field_parts g f = record g { fields = with_new same_member g.fields (field_parts g f) }

unfoldable pub with_field : Gathered → FieldName → Gathered
with_field g f = with_field_parts (with_type (with_text (with_type g f.class) f.name) f.ty) f

-- a method, behind its class, its name and its prototype
abbrev pub method_parts : Gathered → MethodName → MemberParts
method_parts g m = record { class = type_place g m.class; name = text_place g m.name; kind = proto_place g m.proto }

abbrev pub method_place : Gathered → MethodName → ℕ
method_place g m = place_of same_member (method_parts g m) g.methods

abbrev pub with_method_parts : Gathered → MethodName → Gathered
with_method_parts g m = record g { methods = with_new same_member g.methods (method_parts g m) }

unfoldable pub with_method : Gathered → MethodName → Gathered
with_method g m = with_method_parts (with_proto (with_text (with_type g m.class) m.name) m.proto) m

-- what is named, and its place
abbrev pub with_naming : Gathered → Naming → Gathered
with_naming g NoName = g
with_naming g (OfText s) = with_text g s
with_naming g (OfType t) = with_type g t
with_naming g (OfField f) = with_field g f
with_naming g (OfMethod m) = with_method g m

abbrev pub naming_place : Gathered → Naming → Place
naming_place g NoName = Nothing
naming_place g (OfText s) = AtText (text_place g s)
naming_place g (OfType t) = AtType (type_place g t)
naming_place g (OfField f) = AtField (field_place g f)
naming_place g (OfMethod m) = AtMethod (method_place g m)

-- all that is named, and the place of each where it was gathered
abbrev pub gathered : Gathered → List Naming → Gathered
gathered g [] = g
gathered g (n ∷ ns) = gathered (with_naming g n) ns

abbrev pub places_of : Gathered → List Naming → List Place
places_of g [] = []
places_of g (n ∷ ns) = naming_place (with_naming g n) n ∷ places_of (with_naming g n) ns

-- how much of each kind there is, and the first so many of each
abbrev pub counts_of : Gathered → Counts
counts_of g = record {
  texts = length g.texts;
  types = length g.types;
  protos = length g.protos;
  fields = length g.fields;
  methods = length g.methods;
}

abbrev pub cut : Counts → Gathered → Gathered
cut counts g = record {
  texts = take counts.texts g.texts;
  types = take counts.types g.types;
  protos = take counts.protos g.protos;
  fields = take counts.fields g.fields;
  methods = take counts.methods g.methods;
}

-- what was there stands first, as it stood
abbrev pub IsGrown : Gathered → Gathered → Type 0
IsGrown old new = cut (counts_of old) new ≡ old
