-- What a class holds is the same by texts that agree on the names that it uses.
use Rattle.std.proofs.Common.{◌≡◌, ℕ, List, map, true, Option, Some, None, refl, ap}
use Rattle.std.specs.Prelude.{◌&&◌, option_map}
use Rattle.std.specs.List.{list_all}
use Rattle.std.proofs.lemmas.Bool.{and_parts}
use Rattle.pi_model.specs.declared.numbers.NameNo.{NameNo}
use Rattle.pi_model.specs.declared.describe.Catch.{Catch}
use Rattle.pi_model.specs.declared.describe.ClassDesc.{ClassDesc}
use Rattle.pi_model.specs.declared.describe.Code.{Code}
use Rattle.pi_model.specs.declared.describe.FieldDesc.{FieldDesc}
use Rattle.pi_model.specs.declared.describe.Init.{Init}
use Rattle.pi_model.specs.declared.describe.Init.TheVariants.{Zero, Word, Long, Str, Cls}
use Rattle.pi_model.specs.declared.describe.Line.{Line}
use Rattle.pi_model.specs.declared.describe.MethodDesc.{MethodDesc}
use Rattle.pi_model.specs.declared.insn.FieldRef.{FieldRef}
use Rattle.pi_model.specs.declared.insn.Insn.{Insn}
use Rattle.pi_model.specs.declared.insn.Insn.TheVariants.{ConstString, ConstClass, CheckCast, InstanceOf, NewInstance, NewArray, Filled, Iget, Iput, Sget, Sput, Invoke}
use Rattle.pi_model.specs.declared.insn.MethodRef.{MethodRef}
use Rattle.pi_model.specs.Uses.{name_below, names_below, optional_below, field_ref_below, method_ref_below, insn_below, line_below, catch_below, code_below, init_below, field_below, method_below, class_below}
use Rattle.pi_contents.specs.Contents.{OfText, OfType, OfField, OfMethod, TextInit, TypeInit}
use Rattle.pi_contents.specs.Named.{field_name, method_name, naming_of, line_content, catch_content, code_content, init_content, field_content, method_content, class_content}
use Rattle.pi_saidkeeps.proofs.Lists.{mapped_same}

-- texts that agree on the first so many names
pub record Agree (text other : NameNo → List ℕ) (count : ℕ) : Type 0 where
  pub each : (n : NameNo) → name_below count n ≡ true → text n ≡ other n

module _ (text other : NameNo → List ℕ) (count : ℕ) (agree : Agree text other count) where
  names_agree : (ns : List NameNo) → names_below count ns ≡ true → map text ns ≡ map other ns
  names_agree ns h = mapped_same (name_below count) text other agree.each ns h

  option_agrees : (o : Option NameNo) → optional_below count o ≡ true → option_map text o ≡ option_map other o
  option_agrees None h = refl
  option_agrees (Some n) h = ap (λ (t : List ℕ). Some t) (agree.each n h)

  -- what instructions name
  field_agrees : (f : FieldRef) → field_ref_below count f ≡ true → field_name text f ≡ field_name other f
  field_agrees f h =
      let a = and_parts (name_below count f.class) (name_below count f.name && name_below count f.ty) h in
      let b = and_parts (name_below count f.name) (name_below count f.ty) a.1 in
      rw (agree.each f.class a.0, agree.each f.name b.0, agree.each f.ty b.1) refl

  method_agrees : (m : MethodRef) → method_ref_below count m ≡ true → method_name text m ≡ method_name other m
  method_agrees m h =
      let a = and_parts (name_below count m.class) (name_below count m.name && (names_below count m.params && name_below count m.ret)) h in
      let b = and_parts (name_below count m.name) (names_below count m.params && name_below count m.ret) a.1 in
      let c = and_parts (names_below count m.params) (name_below count m.ret) b.1 in
      rw (agree.each m.class a.0, agree.each m.name b.0, names_agree m.params c.0, agree.each m.ret c.1) refl

  naming_agrees : (i : Insn) → insn_below count i ≡ true → naming_of text i ≡ naming_of other i
  unfolding naming_of
  naming_agrees (ConstString a s) h = ap OfText (agree.each s h)
  naming_agrees (ConstClass a t) h = ap OfType (agree.each t h)
  naming_agrees (CheckCast a t) h = ap OfType (agree.each t h)
  naming_agrees (InstanceOf a b t) h = ap OfType (agree.each t h)
  naming_agrees (NewInstance a t) h = ap OfType (agree.each t h)
  naming_agrees (NewArray a b t) h = ap OfType (agree.each t h)
  naming_agrees (Filled t regs) h = ap OfType (agree.each t h)
  naming_agrees (Iget kind a b f) h = ap OfField (field_agrees f h)
  naming_agrees (Iput kind a b f) h = ap OfField (field_agrees f h)
  naming_agrees (Sget kind a f) h = ap OfField (field_agrees f h)
  naming_agrees (Sput kind a f) h = ap OfField (field_agrees f h)
  naming_agrees (Invoke how m regs) h = ap OfMethod (method_agrees m h)
  naming_agrees _ h = refl

  line_agrees : (l : Line) → line_below count l ≡ true → line_content text l ≡ line_content other l
  line_agrees l h = rw (naming_agrees l.insn h) refl

  catch_agrees : (c : Catch) → catch_below count c ≡ true → catch_content text c ≡ catch_content other c
  catch_agrees c h = rw (option_agrees c.ty h) refl

  code_agrees : (o : Option Code) → code_below count o ≡ true → option_map (code_content text) o ≡ option_map (code_content other) o
  code_agrees None h = refl
  code_agrees (Some c) h =
      let a = and_parts (list_all (line_below count) c.insns) (list_all (catch_below count) c.tries) h in
      rw (
        mapped_same (line_below count) (line_content text) (line_content other) line_agrees c.insns a.0,
        mapped_same (catch_below count) (catch_content text) (catch_content other) catch_agrees c.tries a.1,
      ) refl

  -- members and classes
  init_agrees : (i : Init) → init_below count i ≡ true → init_content text i ≡ init_content other i
  init_agrees Zero h = refl
  init_agrees (Word w) h = refl
  init_agrees (Long l) h = refl
  init_agrees (Str n) h = ap TextInit (agree.each n h)
  init_agrees (Cls n) h = ap TypeInit (agree.each n h)

  member_agrees : (f : FieldDesc) → field_below count f ≡ true → field_content text f ≡ field_content other f
  member_agrees f h =
      let a = and_parts (name_below count f.name) (name_below count f.ty && init_below count f.init) h in
      let b = and_parts (name_below count f.ty) (init_below count f.init) a.1 in
      rw (agree.each f.name a.0, agree.each f.ty b.0, init_agrees f.init b.1) refl

  body_agrees : (m : MethodDesc) → method_below count m ≡ true → method_content text m ≡ method_content other m
  body_agrees m h =
      let a = and_parts (name_below count m.name) (names_below count m.params && (name_below count m.ret && code_below count m.code)) h in
      let b = and_parts (names_below count m.params) (name_below count m.ret && code_below count m.code) a.1 in
      let c = and_parts (name_below count m.ret) (code_below count m.code) b.1 in
      rw (agree.each m.name a.0, names_agree m.params b.0, agree.each m.ret c.0, code_agrees m.code c.1) refl

  pub class_agrees : (d : ClassDesc) → class_below count d ≡ true → class_content text d ≡ class_content other d
  class_agrees d h =
      let a = and_parts (name_below count d.name) (optional_below count d.parent && (names_below count d.faces && (list_all (field_below count) d.fields && list_all (method_below count) d.methods))) h in
      let b = and_parts (optional_below count d.parent) (names_below count d.faces && (list_all (field_below count) d.fields && list_all (method_below count) d.methods)) a.1 in
      let c = and_parts (names_below count d.faces) (list_all (field_below count) d.fields && list_all (method_below count) d.methods) b.1 in
      let e = and_parts (list_all (field_below count) d.fields) (list_all (method_below count) d.methods) c.1 in
      rw (
        agree.each d.name a.0,
        option_agrees d.parent b.0,
        names_agree d.faces c.0,
        mapped_same (field_below count) (field_content text) (field_content other) member_agrees d.fields e.0,
        mapped_same (method_below count) (method_content text) (method_content other) body_agrees d.methods e.1,
      ) refl
