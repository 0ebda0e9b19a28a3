-- A file that breaks no rule fits behind a program, and so files that say a program make one.
use Rattle.std.proofs.Common.{◌≡◌, ℕ, suc, ◌+◌, ◌<◌, ◌≤◌, List, [], ◌∷◌, length, None, sym, subst, arith, length-append}
use Rattle.std.specs.Prelude.{sum_by}
use Rattle.std.specs.List.{All}
use Rattle.std.proofs.lemmas.Bool.{lt-ltb}
use Rattle.std.proofs.lemmas.List.{length_push}
use Rattle.std.proofs.lemmas.List.Sums.{sum_by-append}
use Rattle.pi_model.specs.declared.describe.ClassDesc.{ClassDesc}
use Rattle.pi_model.specs.Program.{Program, no_files, new_types, new_types_bound, field_count, method_count}
use Rattle.pi_model.specs.Uses.{name_below, class_below}
use Rattle.pi_model.specs.Valid.{of_file, FitsBehind, IsProgram}
use Rattle.pi_model.proofs.Kept.{kept_at_first, kept_behind}
use Rattle.pi_bytes.specs.Numbers.{most_bytes}
use Rattle.pi_format.specs.Tables.{count_at, string_ids, type_ids, class_defs}
use Rattle.pi_format.specs.Rules.{broken_rule}
use Rattle.pi_format.specs.Rules.Strings.{string_units}
use Rattle.pi_format.specs.Says.{named_file, with_said, SaysBehind, Says, HasRoom}
use Rattle.pi_format.specs.Says.Names.{Named, texts_of, new_names, type_name}
use Rattle.pi_format.specs.Says.Classes.{class_desc, types_said, classes_said}
use Rattle.pi_format.proofs.Held.{rule_parts, tables_hold, TablesHold, type_named, class_kept}
use Rattle.pi_said.proofs.Lists.{length-listed, listed_all}
use Rattle.pi_said.proofs.Names.{number_said, names_distinct, length-new}
use Rattle.pi_said.proofs.Types.{texts_distinct, types_distinct}
use Rattle.pi_said.proofs.Members.{few_fields, few_methods}
use Rattle.pi_said.proofs.Tables.{tables_lie}
use Rattle.pi_said.proofs.Below.{StringsBelow, type_below, class_is, class_filed}

-- what a file brings is no more than it has bytes
record BringsFew (p : Program) (file : List ℕ) : Type 0 where
  names : length (new_names p.names (texts_of file)) ≤ length file
  types : length (new_types p.types (types_said (named_file p file))) ≤ length file
  classes : length (classes_said (named_file p file) (length p.files)) ≤ length file
  fields : sum_by field_count (classes_said (named_file p file) (length p.files)) ≤ length file
  methods : sum_by method_count (classes_said (named_file p file) (length p.files)) ≤ length file

brings_few : (p : Program) (file : List ℕ) → TablesHold file → BringsFew p file
brings_few p file tables =
    let n : Named = named_file p file in
    let lie = tables_lie file tables.tables in
    record {
      names = omega (arith, lie.strings, length-new p.names (texts_of file), length-listed (string_units file) 0 (count_at file string_ids));
      types = omega (arith, lie.types, new_types_bound p.types (types_said n), length-listed (type_name n) 0 (count_at file type_ids));
      classes = omega (arith, lie.classes, length-listed (class_desc n (length p.files)) 0 (count_at file class_defs));
      fields = omega (arith, lie.fields, few_fields n (length p.files) tables.classes);
      methods = omega (arith, lie.methods, few_methods n (length p.files) tables.classes);
    }

-- the number of each string is that of a name, where the file has a string
strings_below : (p : Program) (file : List ℕ) → 0 < count_at file string_ids → StringsBelow (length p.names + length (new_names p.names (texts_of file))) (named_file p file)
strings_below p file some =
    let long : 0 < length (texts_of file) = omega (arith, length-listed (string_units file) 0 (count_at file string_ids)) in
    record { each = λ i. lt-ltb _ (length p.names + length (new_names p.names (texts_of file))) (number_said p.names (texts_of file) long i) }

-- where there is a type there is a string, and where there is a class there is a type
string_for_type : (file : List ℕ) → TablesHold file → 0 < count_at file type_ids → 0 < count_at file string_ids
string_for_type file tables some = let there = type_named file 0 tables.types some in omega arith

type_for_class : (file : List ℕ) → TablesHold file → 0 < count_at file class_defs → 0 < count_at file type_ids
type_for_class file tables some = let there = (class_kept file 0 tables.classes some).class in omega arith

pub said_fits : (p : Program) (file : List ℕ) → IsProgram p → HasRoom p → length p.files < 8 → length file ≤ most_bytes → broken_rule file ≡ None
    → FitsBehind p (new_names p.names (texts_of file)) (types_said (named_file p file)) (classes_said (named_file p file) (length p.files))
said_fits p file keeps room few short kept =
    let n : Named = named_file p file in
    let number : ℕ = length p.files in
    let count : ℕ = length p.names + length (new_names p.names (texts_of file)) in
    let tables = tables_hold file (rule_parts file kept).0 in
    let brings = brings_few p file tables in
    record {
      files = few;
      names_count = omega (arith, brings.names, room.names);
      types_count = omega (arith, brings.types, room.types);
      classes_count = omega (arith, brings.classes, room.classes);
      fields_count = omega (arith, brings.fields, room.fields);
      methods_count = omega (arith, brings.methods, room.methods);
      names_distinct = names_distinct p.names (texts_of file) keeps.names_distinct (texts_distinct file tables.string_order);
      types_distinct = types_distinct p file tables.string_order tables.types;
      types_named = listed_all (name_below count) (type_name n) 0 (count_at file type_ids)
          (λ k lt. type_below count n (strings_below p file (string_for_type file tables (omega arith))) k);
      classes_filed = listed_all (of_file number) (class_desc n number) 0 (count_at file class_defs) (λ k lt. class_filed n number k);
      classes_named = listed_all (class_below count) (class_desc n number) 0 (count_at file class_defs)
          (λ k lt. class_is count n (strings_below p file (string_for_type file tables (type_for_class file tables (omega arith)))) number k);
    }

pub said_keeps : (p : Program) (file : List ℕ) → IsProgram p → HasRoom p → length p.files < 8 → length file ≤ most_bytes → broken_rule file ≡ None → IsProgram (with_said p file)
unfolding with_said
said_keeps p file keeps room few short kept =
    kept_behind p (new_names p.names (texts_of file)) (types_said (named_file p file)) (classes_said (named_file p file) (length p.files)) keeps (said_fits p file keeps room few short kept)

pub one_file_more : (p : Program) (file : List ℕ) → length (with_said p file).files ≡ length p.files + 1
unfolding with_said
one_file_more p file = length_push p.files _

pub said_has_room : (p : Program) (file : List ℕ) → HasRoom p → length file ≤ most_bytes → broken_rule file ≡ None → HasRoom (with_said p file)
unfolding with_said
said_has_room p file room short kept =
    let n : Named = named_file p file in
    let classes : List ClassDesc = classes_said n (length p.files) in
    let brings = brings_few p file (tables_hold file (rule_parts file kept).0) in
    let files : length (with_said p file).files ≡ length p.files + 1 = one_file_more p file in
    record {
      names = omega (arith, brings.names, room.names, length-append p.names (new_names p.names (texts_of file)));
      types = omega (arith, brings.types, room.types, length-append p.types (new_types p.types (types_said n)));
      classes = omega (arith, brings.classes, room.classes, length-append p.classes classes);
      fields = omega (arith, brings.fields, room.fields, sum_by-append field_count p.classes classes);
      methods = omega (arith, brings.methods, room.methods, sum_by-append method_count p.classes classes);
    }

-- files one after the other
room_behind : (before : Program) (files : List (List ℕ)) (after : Program) → IsProgram before → HasRoom before → length before.files + length files ≤ 8
    → All (λ file. length file ≤ most_bytes) files → SaysBehind before files after → IsProgram after × HasRoom after × (length after.files ≡ length before.files + length files)
room_behind before [] after keeps room few short says =
    subst (λ (p : Program). IsProgram p × HasRoom p × (length p.files ≡ length before.files + 0)) (sym says) (keeps, room, omega arith)
room_behind before (file ∷ files) after keeps room few short says =
    let size : length file ≤ most_bytes = short 0 [] (omega arith) in
    let kept = says.0.kept in
    let more = one_file_more before file in
    let rest = room_behind (with_said before file) files after
    (said_keeps before file keeps room (omega arith) size kept) (said_has_room before file room size kept) (omega arith)
    (λ k d lt. short (suc k) d (omega arith)) says.1 in
    (rest.0, rest.1, omega (arith, rest.2))

pub no_files_room : HasRoom no_files
no_files_room = record { names = omega arith; types = omega arith; classes = omega arith; fields = omega arith; methods = omega arith }

pub said_program : (files : List (List ℕ)) (p : Program) → Says files p → length files ≤ 8 → All (λ file. length file ≤ most_bytes) files
    → IsProgram p × HasRoom p × (length p.files ≡ length files)
said_program files p says few short =
    let all = room_behind no_files files p kept_at_first no_files_room (omega arith) short says in
    (all.0, all.1, omega (arith, all.2))
