-- What classes name, in the order of its first use: by the tables of a file, texts, types, prototypes, fields and methods.
use Rattle.std.specs.Prelude.{ℕ, List, [], ◌∷◌, ◌++◌, map, flat_map, Option, Some, None}
use Rattle.pi_format.specs.Rules.Descriptors.{short_letter}
use Rattle.pi_contents.specs.Contents.{FieldName, Prototype, MethodName, Naming, NoName, OfText, OfType, OfField, OfMethod, LineContent, CatchContent, CodeContent, InitContent, NoInit, WordInit, LongInit, TextInit, TypeInit, FieldContent, MethodContent, ClassContent}

-- what the members of a class of that descriptor are called
abbrev pub own_field : List ℕ → FieldContent → FieldName
own_field class f = record { class = class; name = f.name; ty = f.ty }

abbrev pub own_method : List ℕ → MethodContent → MethodName
own_method class m = record { class = class; name = m.name; proto = m.proto }

abbrev pub named_by_init : InitContent → List Naming
named_by_init NoInit = []
named_by_init (WordInit w) = []
named_by_init (LongInit l) = []
named_by_init (TextInit s) = OfText s ∷ []
named_by_init (TypeInit t) = OfType t ∷ []

abbrev pub named_by_type : Option (List ℕ) → List Naming
named_by_type None = []
named_by_type (Some t) = OfType t ∷ []

abbrev pub named_by_field : List ℕ → FieldContent → List Naming
named_by_field class f = OfField (own_field class f) ∷ named_by_init f.init

abbrev pub named_by_line : LineContent → List Naming
named_by_line l = l.naming ∷ []

abbrev pub named_by_catch : CatchContent → List Naming
named_by_catch c = named_by_type c.ty

abbrev pub named_by_code : Option CodeContent → List Naming
named_by_code None = []
named_by_code (Some c) = flat_map named_by_line c.lines ++ flat_map named_by_catch c.catches

abbrev pub named_by_method : List ℕ → MethodContent → List Naming
named_by_method class m = OfMethod (own_method class m) ∷ named_by_code m.code

abbrev pub named_by_class : ClassContent → List Naming
named_by_class c =
    OfType c.name ∷ (named_by_type c.parent ++ (map OfType c.faces
    ++ (flat_map (named_by_field c.name) c.fields ++ flat_map (named_by_method c.name) c.methods)))

abbrev pub named_by : List ClassContent → List Naming
named_by cs = flat_map named_by_class cs

-- the short form of a prototype: a letter for the result and for each parameter
abbrev pub short_form : Prototype → List ℕ
short_form p = short_letter p.ret ∷ map short_letter p.params

-- the prototypes, fields and methods among them
abbrev pub protos_in : Naming → List Prototype
protos_in (OfMethod m) = m.proto ∷ []
protos_in NoName = []
protos_in (OfText s) = []
protos_in (OfType t) = []
protos_in (OfField f) = []

abbrev pub fields_in : Naming → List FieldName
fields_in (OfField f) = f ∷ []
fields_in NoName = []
fields_in (OfText s) = []
fields_in (OfType t) = []
fields_in (OfMethod m) = []

abbrev pub methods_in : Naming → List MethodName
methods_in (OfMethod m) = m ∷ []
methods_in NoName = []
methods_in (OfText s) = []
methods_in (OfType t) = []
methods_in (OfField f) = []

-- the types that they are about, and all texts: those of types, names and short forms as well
abbrev pub types_in : Naming → List (List ℕ)
types_in NoName = []
types_in (OfText s) = []
types_in (OfType t) = t ∷ []
types_in (OfField f) = f.class ∷ f.ty ∷ []
types_in (OfMethod m) = m.class ∷ m.proto.ret ∷ m.proto.params

abbrev pub texts_in : Naming → List (List ℕ)
texts_in NoName = []
texts_in (OfText s) = s ∷ []
texts_in (OfType t) = t ∷ []
texts_in (OfField f) = f.name ∷ f.class ∷ f.ty ∷ []
texts_in (OfMethod m) = m.name ∷ short_form m.proto ∷ m.class ∷ m.proto.ret ∷ m.proto.params

abbrev pub protos_named : List Naming → List Prototype
protos_named ns = flat_map protos_in ns

abbrev pub fields_named : List Naming → List FieldName
fields_named ns = flat_map fields_in ns

abbrev pub methods_named : List Naming → List MethodName
methods_named ns = flat_map methods_in ns

abbrev pub types_named : List Naming → List (List ℕ)
types_named ns = flat_map types_in ns

abbrev pub texts_named : List Naming → List (List ℕ)
texts_named ns = flat_map texts_in ns
