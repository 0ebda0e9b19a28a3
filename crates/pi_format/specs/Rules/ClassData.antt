-- What the class data of a class must hold, rule X18. Its place is the offset of the class data.
use Rattle.std.specs.Prelude.{ℕ, ◌+◌, ◌==◌, ◌&&◌, ◌||◌, not, nat_lt, codes, List, [], ◌∷◌, ◌++◌, Option, Some, None, Bool, true, false, is_some, if◌then◌else◌}
use Rattle.std.specs.List.{list_all, list_any}
use Rattle.pi_bytes.specs.Place.{Place}
use Rattle.pi_bytes.specs.Leb.{uleb_at}
use Rattle.pi_model.specs.Texts.{same_text}
use Rattle.pi_bytes.specs.Numbers.{word_at}
use Rattle.pi_insn.specs.Chain.{◌>>=◌}
use Rattle.pi_format.specs.Tables.{count_at, field_ids, method_ids, class_defs}
use Rattle.pi_format.specs.declared.lists.MemberList.{MemberList}
use Rattle.pi_format.specs.declared.lists.MemberList.TheVariants.{StaticFields, InstanceFields, DirectMethods, VirtualMethods}
use Rattle.pi_format.specs.Rules.Entries.{entry_at, list_at}
use Rattle.pi_format.specs.Rules.Header.{unless}
use Rattle.pi_format.specs.Rules.Descriptors.{is_void}
use Rattle.pi_format.specs.Rules.Strings.{string_units, type_units}
use Rattle.pi_format.specs.Rules.Members.{proto_entry, member_entry}
use Rattle.pi_format.specs.Rules.Classes.{class_entry}
use Rattle.pi_model.specs.Flags.{is_private, is_static, is_native, is_interface, is_abstract, is_flagged_constructor}
use Rattle.pi_format.specs.Rules.Lowest.{lowest_from}
use Rattle.pi_format.specs.Rules.Rows.{MemberRow, readable, rows_from}

-- of a class definition: its flags, and the offsets of its class data and of its static values
abbrev pub class_flags : List ℕ → ℕ → ℕ
class_flags file i = word_at file (entry_at file class_defs 32 i + 4)

abbrev pub class_data_at : List ℕ → ℕ → ℕ
class_data_at file i = word_at file (entry_at file class_defs 32 i + 24)

abbrev pub class_values_at : List ℕ → ℕ → ℕ
class_values_at file i = word_at file (entry_at file class_defs 32 i + 28)

-- the class that lists members: its type, and whether it is an interface
pub record Owner : Type 0 where
  pub class : ℕ
  pub interface : Bool

abbrev pub owner : List ℕ → ℕ → Owner
owner file i = record { class = (class_entry file i).class; interface = is_interface (class_flags file i) }

-- there is a field of that number, and it belongs to the class; the same of a method
abbrev pub is_field_of : List ℕ → ℕ → ℕ → Bool
is_field_of file class id = nat_lt id (count_at file field_ids) && ((member_entry file field_ids id).class == class)

abbrev pub is_method_of : List ℕ → ℕ → ℕ → Bool
is_method_of file class id = nat_lt id (count_at file method_ids) && ((member_entry file method_ids id).class == class)

-- a method that a class lists: the units of its name and of the type of its result, the types of its parameters, its
-- flags, and the offset of its code
pub record ListedMethod : Type 0 where
  pub name : List ℕ
  pub ret : List ℕ
  pub params : List ℕ
  pub flags : ℕ
  pub code : ℕ

abbrev pub method_proto : List ℕ → ℕ → ℕ
method_proto file id = (member_entry file method_ids id).kind

abbrev pub listed_method : List ℕ → MemberRow → ListedMethod
listed_method file row = record {
  name = string_units file (member_entry file method_ids row.id).name;
  ret = type_units file (proto_entry file (method_proto file row.id)).ret;
  params = list_at file (proto_entry file (method_proto file row.id)).params;
  flags = row.flags;
  code = row.code;
}

-- a constructor is a method of that name
abbrev pub is_constructor : ListedMethod → Bool
is_constructor m = same_text (codes "<init>") m.name

abbrev pub is_initialiser : ListedMethod → Bool
is_initialiser m = same_text (codes "<clinit>") m.name

abbrev pub is_direct : ListedMethod → Bool
is_direct m = is_static m.flags || (is_private m.flags || is_constructor m)

-- it has code exactly where it is neither native nor abstract
abbrev pub code_agrees : ListedMethod → Bool
code_agrees m =
    if m.code == 0 then is_native m.flags || is_abstract m.flags else not (is_native m.flags || is_abstract m.flags)

abbrev pub has_no_params : ListedMethod → Bool
has_no_params m = none_of m.params
  where
    none_of : List ℕ → Bool
    none_of [] = true
    none_of (t ∷ ts) = false

-- an initialiser is static, takes nothing and returns nothing
abbrev pub initialiser_fits : ListedMethod → Bool
initialiser_fits m = not (is_initialiser m) || (is_static m.flags && (has_no_params m && is_void m.ret))

-- a constructor is flagged as one and returns nothing
abbrev pub constructor_fits : ListedMethod → Bool
constructor_fits m = not (is_constructor m) || (is_flagged_constructor m.flags && is_void m.ret)

-- the methods of an interface are abstract, but for its initialiser
abbrev pub interface_fits : Bool → ListedMethod → Bool
interface_fits interface m = not interface || (is_abstract m.flags || is_initialiser m)

unfoldable pub method_fits : Bool → ListedMethod → Bool
method_fits interface m = code_agrees m && (initialiser_fits m && (constructor_fits m && interface_fits interface m))

-- a row of one of the lists of a class is a member of the class and of the kind that the list has
abbrev pub row_holds : List ℕ → Owner → MemberList → MemberRow → Bool
row_holds file o StaticFields row = is_field_of file o.class row.id && is_static row.flags
row_holds file o InstanceFields row = is_field_of file o.class row.id && (not (is_static row.flags) && not o.interface)
row_holds file o DirectMethods row =
    is_method_of file o.class row.id && (is_direct (listed_method file row)
    && (not (is_abstract row.flags) && method_fits o.interface (listed_method file row)))
row_holds file o VirtualMethods row =
    is_method_of file o.class row.id && (not (is_direct (listed_method file row)) && method_fits o.interface (listed_method file row))

-- no member stands in both lists
abbrev pub are_apart : List MemberRow → List MemberRow → Bool
are_apart xs ys = list_all (λ x. not (list_any (λ y. x.id == y.id) ys)) xs

-- the members of a class, list by list
pub record ClassRows : Type 0 where
  pub statics : List MemberRow
  pub instances : List MemberRow
  pub directs : List MemberRow
  pub virtuals : List MemberRow

abbrev pub no_rows : ClassRows
no_rows = record { statics = []; instances = []; directs = []; virtuals = [] }

-- that many rows of a list of the class
abbrev pub rows_of_list : List ℕ → Owner → MemberList → ℕ → Place → Option (List MemberRow × Place)
rows_of_list file o list n p = rows_from (row_holds file o list) list n None p

-- how many rows the four lists have
pub record RowCounts : Type 0 where
  pub statics : ℕ
  pub instances : ℕ
  pub directs : ℕ
  pub virtuals : ℕ

unfoldable pub row_counts : Place → Option (RowCounts × Place)
row_counts p = do
  statics ← readable (uleb_at p)
  instances ← readable (uleb_at statics.1)
  directs ← readable (uleb_at instances.1)
  virtuals ← readable (uleb_at directs.1)
  Some (record { statics = statics.0; instances = instances.0; directs = directs.0; virtuals = virtuals.0 }, virtuals.1)

-- the class data at a place: the four counts, then the rows of each list. No member stands in two lists.
unfoldable pub rows_at : List ℕ → Owner → Place → Option ClassRows
rows_at file o p = do
  counts ← row_counts p
  statics ← rows_of_list file o StaticFields counts.0.statics counts.1
  instances ← rows_of_list file o InstanceFields counts.0.instances statics.1
  directs ← rows_of_list file o DirectMethods counts.0.directs instances.1
  virtuals ← rows_of_list file o VirtualMethods counts.0.virtuals directs.1
  if are_apart statics.0 instances.0 && are_apart directs.0 virtuals.0
      then Some (record { statics = statics.0; instances = instances.0; directs = directs.0; virtuals = virtuals.0 })
      else None

-- the members of a class definition, none where it has no class data; nothing where its class data does not hold
unfoldable pub class_rows : List ℕ → ℕ → Option ClassRows
class_rows file i =
    if class_data_at file i == 0 then Some no_rows
    else rows_at file (owner file i) (record { bytes = file; at = class_data_at file i })

-- the same, as no members where its class data does not hold
abbrev pub rows_in : Option ClassRows → ClassRows
rows_in None = no_rows
rows_in (Some rows) = rows

abbrev pub rows_of : List ℕ → ℕ → ClassRows
rows_of file i = rows_in (class_rows file i)

-- the methods of a class, direct ones first
abbrev pub methods_in : ClassRows → List MemberRow
methods_in rows = rows.directs ++ rows.virtuals

-- X18: the class data of each class holds
abbrev pub broken_class_data : List ℕ → Option ℕ
broken_class_data file =
    lowest_from (λ i. unless (is_some (class_rows file i)) (class_data_at file i)) 0 (count_at file class_defs)
