-- The contents of the classes of a program, by the texts of their names.
use Rattle.std.specs.Prelude.{ℕ, List, [], map, option_map}
use Rattle.pi_model.specs.declared.numbers.NameNo.{NameNo}
use Rattle.pi_model.specs.declared.describe.Catch.{Catch}
use Rattle.pi_model.specs.declared.describe.ClassDesc.{ClassDesc}
use Rattle.pi_model.specs.declared.describe.Code.{Code}
use Rattle.pi_model.specs.declared.describe.FieldDesc.{FieldDesc}
use Rattle.pi_model.specs.declared.describe.Init.{Init}
use Rattle.pi_model.specs.declared.describe.Init.TheVariants.{Zero, Word, Long, Str, Cls}
use Rattle.pi_model.specs.declared.describe.Line.{Line}
use Rattle.pi_model.specs.declared.describe.MethodDesc.{MethodDesc}
use Rattle.pi_model.specs.declared.insn.FieldRef.{FieldRef}
use Rattle.pi_model.specs.declared.insn.Insn.{Insn}
use Rattle.pi_model.specs.declared.insn.Insn.TheVariants.{ConstString, ConstClass, CheckCast, InstanceOf, NewInstance, NewArray, Filled, Iget, Iput, Sget, Sput, Invoke}
use Rattle.pi_model.specs.declared.insn.MethodRef.{MethodRef}
use Rattle.pi_model.specs.Program.{Program}
use Rattle.pi_model.specs.Texts.{units_of}
use Rattle.pi_contents.specs.Contents.{FieldName, Prototype, MethodName, Naming, NoName, OfText, OfType, OfField, OfMethod, LineContent, CatchContent, CodeContent, InitContent, NoInit, WordInit, LongInit, TextInit, TypeInit, FieldContent, MethodContent, ClassContent}

-- the name that stands for none
abbrev pub no_name : NameNo
no_name = record { 0 = 0 }

abbrev pub no_field : FieldRef
no_field = record { class = no_name; name = no_name; ty = no_name }

abbrev pub no_method : MethodRef
no_method = record { class = no_name; name = no_name; params = []; ret = no_name }

-- an instruction with that name in each place of one
unfoldable pub bare : Insn → Insn
bare (ConstString a s) = ConstString a no_name
bare (ConstClass a t) = ConstClass a no_name
bare (CheckCast a t) = CheckCast a no_name
bare (InstanceOf a b t) = InstanceOf a b no_name
bare (NewInstance a t) = NewInstance a no_name
bare (NewArray a b t) = NewArray a b no_name
bare (Filled t regs) = Filled no_name regs
bare (Iget kind a b f) = Iget kind a b no_field
bare (Iput kind a b f) = Iput kind a b no_field
bare (Sget kind a f) = Sget kind a no_field
bare (Sput kind a f) = Sput kind a no_field
bare (Invoke how m regs) = Invoke how no_method regs
bare i = i

-- what a reference to a field or a method names, by the texts of names
abbrev pub field_name : (NameNo → List ℕ) → FieldRef → FieldName
field_name text f = record { class = text f.class; name = text f.name; ty = text f.ty }

abbrev pub prototype : (NameNo → List ℕ) → List NameNo → NameNo → Prototype
prototype text params ret = record { params = map text params; ret = text ret }

abbrev pub method_name : (NameNo → List ℕ) → MethodRef → MethodName
method_name text m = record { class = text m.class; name = text m.name; proto = prototype text m.params m.ret }

-- what an instruction names
unfoldable pub naming_of : (NameNo → List ℕ) → Insn → Naming
naming_of text (ConstString a s) = OfText (text s)
naming_of text (ConstClass a t) = OfType (text t)
naming_of text (CheckCast a t) = OfType (text t)
naming_of text (InstanceOf a b t) = OfType (text t)
naming_of text (NewInstance a t) = OfType (text t)
naming_of text (NewArray a b t) = OfType (text t)
naming_of text (Filled t regs) = OfType (text t)
naming_of text (Iget kind a b f) = OfField (field_name text f)
naming_of text (Iput kind a b f) = OfField (field_name text f)
naming_of text (Sget kind a f) = OfField (field_name text f)
naming_of text (Sput kind a f) = OfField (field_name text f)
naming_of text (Invoke how m regs) = OfMethod (method_name text m)
naming_of text _ = NoName

abbrev pub line_content : (NameNo → List ℕ) → Line → LineContent
line_content text l = record { at = l.at; units = l.units; insn = bare l.insn; naming = naming_of text l.insn }

abbrev pub catch_content : (NameNo → List ℕ) → Catch → CatchContent
catch_content text c = record { from = c.from; to = c.to; ty = option_map text c.ty; at = c.at }

abbrev pub code_content : (NameNo → List ℕ) → Code → CodeContent
code_content text c = record {
  regs = c.regs;
  ins = c.ins;
  outs = c.outs;
  units = c.units;
  lines = map (line_content text) c.insns;
  catches = map (catch_content text) c.tries;
}

abbrev pub init_content : (NameNo → List ℕ) → Init → InitContent
init_content text Zero = NoInit
init_content text (Word w) = WordInit w
init_content text (Long l) = LongInit l
init_content text (Str s) = TextInit (text s)
init_content text (Cls t) = TypeInit (text t)

abbrev pub field_content : (NameNo → List ℕ) → FieldDesc → FieldContent
field_content text f = record { name = text f.name; ty = text f.ty; flags = f.flags; init = init_content text f.init }

abbrev pub method_content : (NameNo → List ℕ) → MethodDesc → MethodContent
method_content text m = record {
  name = text m.name;
  proto = prototype text m.params m.ret;
  flags = m.flags;
  code = option_map (code_content text) m.code;
}

abbrev pub class_content : (NameNo → List ℕ) → ClassDesc → ClassContent
class_content text d = record {
  name = text d.name;
  flags = d.flags;
  parent = option_map text d.parent;
  faces = map text d.faces;
  fields = map (field_content text) d.fields;
  methods = map (method_content text) d.methods;
}

-- the text of a name of a program, and the contents of one of its classes
abbrev pub text_in : Program → NameNo → List ℕ
text_in p n = units_of p n.0

abbrev pub content_in : Program → ClassDesc → ClassContent
content_in p d = class_content (text_in p) d
