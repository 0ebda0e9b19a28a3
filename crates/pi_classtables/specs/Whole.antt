-- Classes as the tables of a file: what they name in rising order, and the classes in the order in which they were added.
use Rattle.std.specs.Prelude.{ℕ, ◌&&◌, not, nat_le, List, [], ◌∷◌, ◌++◌, length, map, filter, Option, Some, None, Bool, option_map, if◌then◌else◌}
use Rattle.std.specs.declared.cmp.Ordering.{Ordering}
use Rattle.std.specs.Ordering.{ordering_then}
use Rattle.pi_model.specs.Flags.{is_static}
use Rattle.pi_insn.specs.Chain.{◌>>=◌}
use Rattle.pi_dextables.specs.declared.tables.Body.{Body}
use Rattle.pi_dextables.specs.declared.tables.Class.{Class}
use Rattle.pi_dextables.specs.declared.tables.FieldRow.{FieldRow}
use Rattle.pi_dextables.specs.declared.tables.MethodRow.{MethodRow}
use Rattle.pi_dextables.specs.declared.tables.Tables.{Tables}
use Rattle.pi_contents.specs.Contents.{CodeContent, FieldContent, MethodContent, ClassContent}
use Rattle.pi_contents.specs.Naming.{own_field, own_method, named_by}
use Rattle.pi_contents.specs.Asked.{is_direct}
use Rattle.pi_classtables.specs.Sorted.{arranged, text_order}
use Rattle.pi_classtables.specs.Numbers.{Pools, pools_of, string_no, type_no, field_no, method_no, proto_entry, field_entry, method_entry, proto_order}
use Rattle.pi_classtables.specs.Layout.{code_units, front}
use Rattle.pi_classtables.specs.Ranges.{groups_of, lists_of, ranges_of}
use Rattle.pi_classtables.specs.Values.{values_of}

-- a method with the addresses of the switches in its code that have a sparse payload, whatever their keys
pub record Method : Type 0 where
  pub content : MethodContent
  pub sparse : List ℕ

-- a class that is added, and those addresses for each of its methods, none for one that the list does not reach
pub record Added : Type 0 where
  pub class : ClassContent
  pub sparse : List (List ℕ)

abbrev pub methods_with : List MethodContent → List (List ℕ) → List Method
methods_with [] sparse = []
methods_with (m ∷ ms) [] = record { content = m; sparse = [] } ∷ methods_with ms []
methods_with (m ∷ ms) (s ∷ ss) = record { content = m; sparse = s } ∷ methods_with ms ss

abbrev pub added_methods : Added → List Method
added_methods e = methods_with e.class.methods e.sparse

-- members of a class rise by name, then by type or prototype
abbrev pub field_rank : FieldContent → FieldContent → Ordering
field_rank f g = ordering_then (text_order f.name g.name) (text_order f.ty g.ty)

abbrev pub method_rank : Method → Method → Ordering
method_rank m n =
    ordering_then (text_order m.content.name n.content.name) (proto_order m.content.proto n.content.proto)

-- the members of a class as its four lists have them
abbrev pub statics_of : ClassContent → List FieldContent
statics_of c = arranged field_rank (filter (λ (f : FieldContent). is_static f.flags) c.fields)

abbrev pub instances_of : ClassContent → List FieldContent
instances_of c = arranged field_rank (filter (λ (f : FieldContent). not (is_static f.flags)) c.fields)

abbrev pub directs_of : Added → List Method
directs_of e = arranged method_rank (filter (λ (m : Method). is_direct m.content) (added_methods e))

abbrev pub virtuals_of : Added → List Method
virtuals_of e = arranged method_rank (filter (λ (m : Method). not (is_direct m.content)) (added_methods e))

-- the class as a file gives it back: its members in that order
unfoldable pub filed : Added → ClassContent
filed e = record e.class {
  fields = statics_of e.class ++ instances_of e.class;
  methods = map (λ (m : Method). m.content) (directs_of e ++ virtuals_of e);
}

-- a field and a method that a class of a descriptor lists
abbrev pub field_row : Pools → List ℕ → FieldContent → FieldRow
field_row p class f = record { id = field_no p (own_field class f); flags = f.flags }

-- the code of a method: the instructions before its payloads, the payloads and what stands between them, and its handlers
unfoldable pub body_of : Pools → List ℕ → CodeContent → Option Body
body_of p listed c = code_units p listed (front 0 c.lines) >>= (λ units. Some (record {
  registers = c.regs;
  ins = c.ins;
  outs = c.outs;
  units = units;
  ranges = ranges_of (groups_of p c.catches);
  lists = lists_of (groups_of p c.catches);
}))

-- a code, where there is one: nothing where an instruction has no form that fits
abbrev pub optional_body : Pools → List ℕ → Option CodeContent → Option (Option Body)
optional_body p listed None = Some None
optional_body p listed (Some c) = option_map Some (body_of p listed c)

abbrev pub method_row : Pools → List ℕ → Method → Option MethodRow
method_row p class m = optional_body p m.sparse m.content.code >>= (λ code. Some (record {
  id = method_no p (own_method class m.content);
  flags = m.content.flags;
  code = code;
}))

-- what a function gives for each thing of a list, nothing where it gives nothing for one of them
abbrev pub for_each : {A B : Type 0} → (A → Option B) → List A → Option (List B)
for_each f [] = Some []
for_each f (x ∷ xs) = f x >>= (λ y. for_each f xs >>= (λ ys. Some (y ∷ ys)))

unfoldable pub class_row : Pools → Added → Option Class
class_row p e =
    for_each (method_row p e.class.name) (directs_of e) >>= (λ directs.
    for_each (method_row p e.class.name) (virtuals_of e) >>= (λ virtuals. Some (record {
      class = type_no p e.class.name;
      flags = e.class.flags;
      parent = option_map (type_no p) e.class.parent;
      faces = map (type_no p) e.class.faces;
      values = values_of p (statics_of e.class);
      statics = map (field_row p e.class.name) (statics_of e.class);
      instances = map (field_row p e.class.name) (instances_of e.class);
      directs = directs;
      virtuals = virtuals;
    })))

-- the tables of a file with pools and classes
abbrev pub tables_with : Pools → List Class → Tables
tables_with p classes = record {
  strings = p.strings;
  types = map (string_no p) p.types;
  protos = map (proto_entry p) p.protos;
  fields = map (field_entry p) p.fields;
  methods = map (method_entry p) p.methods;
  classes = classes;
}

-- types and prototypes are counted by 16 bits
abbrev pub is_counted : Pools → Bool
is_counted p = nat_le (length p.types) 65535 && nat_le (length p.protos) 65535

abbrev pub classes_added : List Added → List ClassContent
classes_added es = map (λ (e : Added). e.class) es

abbrev pub pools_for : List Added → Pools
pools_for es = pools_of (named_by (classes_added es))

-- the tables of classes: nothing where there are more types or prototypes, or an instruction has no form that fits
unfoldable pub tables_of : List Added → Option Tables
tables_of es =
    if is_counted (pools_for es)
    then for_each (class_row (pools_for es)) es >>= (λ classes. Some (tables_with (pools_for es) classes))
    else None
