-- The whole law: an image has the form of a file, and says its tables.
use Rattle.std.proofs.Common.{◌≡◌, ℕ, ◌≤◌, List, [], ◌∷◌, length, drop, map, Some, false, refl, sym, ◌∙◌, arith}
use Rattle.std.specs.Prelude.{◌==◌, All, slice_get}
use Rattle.std.proofs.lemmas.Bool.Decides.{nat_tests}
use Rattle.pi_bytes.specs.Numbers.{word_at, most_bytes}
use Rattle.pi_bytes.specs.Sums.{adler}
use Rattle.pi_format.specs.Rules.ClassData.{class_values_at, rows_of}
use Rattle.pi_format.specs.Rules.Values.{class_values}
use Rattle.pi_parts.proofs.Stands.{Stands, stands_within}
use Rattle.pi_dextables.specs.declared.tables.Class.{Class}
use Rattle.pi_dextables.specs.declared.tables.Tables.{Tables}
use Rattle.pi_dextables.specs.declared.tables.Value.{Value}
use Rattle.pi_dextables.specs.Items.{array_item, read_value}
use Rattle.pi_dextables.specs.Image.{file_end, image}
use Rattle.pi_dextables.specs.Said.{HasForm, ClassSaid, IsSaid, held, values_fit}
use Rattle.pi_dextables.specs.Writable.{ValueFits, ClassFits, IsWritable, PlacesFit}
use Rattle.pi_dextables.proofs.Laid.{Laid, Headed}
use Rattle.pi_dextables.proofs.Whole.{laid as parts_laid, digests}
use Rattle.pi_dextables.proofs.Head.{HeadSaid, head_said, headed as header_read}
use Rattle.pi_dextables.proofs.HeadKept.{length_kept, magic_kept, equal, signature_kept, tables_kept, data_kept}
use Rattle.pi_dextables.proofs.MapKept.{map_kept}
use Rattle.pi_dextables.proofs.Counts.{array_long}
use Rattle.pi_dextables.proofs.Each.{all_got}
use Rattle.pi_dextables.proofs.Strings.{string_said, strings_kept}
use Rattle.pi_dextables.proofs.Values.{values_read}
use Rattle.pi_dextables.proofs.Pools.{kept_said, faces_kept, array_place, ArrayFound, array_found}
use Rattle.pi_dextables.proofs.Entries.{type_said, proto_said, field_said, method_said}
use Rattle.pi_dextables.proofs.ClassLines.{LineSaid, line_said, rows_said}
use Rattle.pi_dextables.proofs.Methods.{rows_behind, methods_said}

pub form_kept : (t : Tables) → IsWritable t → file_end t ≤ most_bytes → HasForm (image t)
form_kept t fits short =
    let file : List ℕ = image t in
    let laid : Laid file t = parts_laid t in
    let head : HeadSaid file t = head_said file t laid short in
    let headed : Headed file t = header_read file t laid short in
    let sums = digests t in
    let strings = strings_kept file t laid headed fits short in
    record {
      length = length_kept file t laid.whole;
      magic = magic_kept t;
      order = equal (word_at file 40) 0x12345678 40 head.order;
      header_size = equal (word_at file 36) 112 36 head.size;
      file_size = equal (word_at file 32) (length file) 32 (head.length ∙ sym laid.whole);
      checksum = equal (word_at file 8) (adler (drop 12 file)) 8 sums.0;
      signature = signature_kept file sums.1;
      tables = tables_kept file t laid.whole fits.few_types fits.few_protos headed;
      data_fits = data_kept file t laid.whole head;
      map = map_kept file t laid headed head short;
      strings = strings.0;
      string_order = strings.1;
    }

-- the static values of a class
values_said : (file : List ℕ) (t : Tables) (i : ℕ) (values : List Value) → length file ≤ most_bytes → class_values_at file i ≡ array_place t values
    → All ValueFits values → ArrayFound file t values
    → class_values file i ≡ held (values_fit file (rows_of file i).statics (map read_value values)) (map read_value values)
unfolding class_values
values_said file t i [] short is fit found = (let zero : class_values_at file i ≡ 0 = is ∙ found.none refl in rw zero refl)
values_said file t i (v ∷ vs) short is fit found =
    let at : ℕ = array_place t (v ∷ vs) in
    let some : (at == 0) ≡ false = (let lt = found.behind (omega arith) in grind (arith, nat_tests)) in
    let stands : Stands file at (array_item (v ∷ vs)) = found.there (omega arith) in
    let long = array_long (v ∷ vs) in
    let within = stands_within file (array_item (v ∷ vs)) at (omega (arith, long)) stands in
    rw (is, some) (values_read file (rows_of file i).statics at (v ∷ vs) fit (omega (arith, long, within)) stands)

class_said : (file : List ℕ) (t : Tables) → Laid file t → Headed file t → IsWritable t → PlacesFit t → file_end t ≤ most_bytes
    → (i : ℕ) (c : Class) → slice_get t.classes i ≡ Some c → ClassSaid file i c
class_said file t laid headed fits places short i c is =
    let fit : ClassFits c = all_got ClassFits t.classes i c fits.classes is in
    let line : LineSaid file t i c = line_said file t laid headed fits short i c is in
    let methods = methods_said file t laid fits places short i c line.rows in
    let few : length file ≤ most_bytes = (let e = laid.whole in omega arith) in
    record {
      class = line.class;
      parent = line.parent;
      faces = rw line.faces (kept_said file t c.faces laid short (faces_kept t i c is) fit.faces);
      flags = line.flags;
      rows = rows_behind t c line.rows.front;
      statics = refl;
      instances = refl;
      directs = methods.0;
      virtuals = methods.1;
      listed = rows_said file t fits short i c is line;
      values = values_said file t i c.values few line.values_at fit.values (array_found file t laid short i c is);
    }

pub tables_said : (t : Tables) → IsWritable t → PlacesFit t → file_end t ≤ most_bytes → IsSaid (image t) t
tables_said t fits places short =
    let file : List ℕ = image t in
    let laid : Laid file t = parts_laid t in
    let headed : Headed file t = header_read file t laid short in
    record {
      strings = headed.strings;
      string = string_said file t laid headed fits short;
      types = headed.types;
      ty = type_said file t laid headed fits;
      protos = headed.protos;
      proto = proto_said file t laid headed fits short;
      fields = headed.fields;
      field = field_said file t laid headed fits;
      methods = headed.methods;
      method = method_said file t laid headed fits;
      classes = headed.classes;
      class = class_said file t laid headed fits places short;
    }
