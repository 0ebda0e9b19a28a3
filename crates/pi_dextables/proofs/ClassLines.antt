-- What the definitions of classes say, word by word, and that the members of a class are rows that can be read again.
use Rattle.std.proofs.Common.{◌≡◌, ℕ, zero, suc, ◌+◌, ◌*◌, ◌^◌, ◌<◌, ◌≤◌, List, [], ◌∷◌, length, drop, map, Option, Some, None, Bool, true, false, refl, sym, ap, subst, ◌∙◌, length-append, arith}
use Rattle.std.specs.Prelude.{slice_get, IfSome, All}
use Rattle.std.specs.List.{flat_map}
use Rattle.std.proofs.lemmas.List.Elements.{All-nil, All-cons, All-head, All-tail, All-drop, All-map, All-weaker}
use Rattle.pi_bytes.specs.Numbers.{word_at, most_bytes}
use Rattle.pi_format.specs.declared.lists.MemberList.{MemberList}
use Rattle.pi_format.specs.declared.lists.MemberList.TheVariants.{StaticFields, InstanceFields, DirectMethods, VirtualMethods}
use Rattle.pi_format.specs.Tables.{table_at, class_defs}
use Rattle.pi_format.specs.Rules.Entries.{entry_at}
use Rattle.pi_format.specs.Rules.Classes.{class_entry}
use Rattle.pi_format.specs.Rules.Rows.{has_code}
use Rattle.pi_format.specs.Rules.ClassData.{ClassRows, owner, class_flags, class_data_at, class_values_at, class_rows}
use Rattle.pi_parts.specs.Parts.{words, zeros, padding, offsets, aligned, aligned_offsets}
use Rattle.pi_parts.proofs.Stands.{Stands, stands_left, stands_right, length_zeros, Found, found, words_read}
use Rattle.pi_dextables.specs.declared.tables.Body.{Body}
use Rattle.pi_dextables.specs.declared.tables.Class.{Class}
use Rattle.pi_dextables.specs.declared.tables.FieldRow.{FieldRow}
use Rattle.pi_dextables.specs.declared.tables.MethodRow.{MethodRow}
use Rattle.pi_dextables.specs.declared.tables.Tables.{Tables}
use Rattle.pi_dextables.specs.Codes.{code_item}
use Rattle.pi_dextables.specs.Rows.{bodies_in, all_bodies, next_offset, offsets_left, field_row, method_row, method_rows, class_rows_with, class_item, class_data, has_no_rows}
use Rattle.pi_dextables.specs.Image.{codes_begin, codes_part, members_begin, members_part, arrays_begin, classes_begin, classes_table, file_end, code_offsets, listed, list_at, parent_word, class_words, definitions}
use Rattle.pi_dextables.specs.Said.{held, rows_hold}
use Rattle.pi_dextables.specs.Writable.{IsHalf, IsWord, Rise, FieldFits, MethodFits, ClassFits, IsWritable}
use Rattle.pi_dextables.proofs.Steps.{Steps, steps}
use Rattle.pi_dextables.proofs.Laid.{Laid, Headed, table_there}
use Rattle.pi_dextables.proofs.Each.{all_got}
use Rattle.pi_dextables.proofs.Pools.{kept_low, faces_kept, array_place, array_found}
use Rattle.pi_dextables.proofs.Methods.{RowsListed, rows_listed, rows_behind}
use Rattle.pi_dextables.proofs.MemberRows.{RowFits, RowsFit}
use Rattle.pi_dextables.proofs.ClassData.{AllFit, AllFew, few_in_data, class_data_read, class_data_long, no_rows_read, no_class_data, some_class_data}

-- the words of a definition stand at its entry
line_stands : (file : List ℕ) (t : Tables) (classes : List Class) (offs : List ℕ) (at i o : ℕ) (c : Class) → Stands file at (flat_map words (definitions t classes offs))
    → slice_get classes i ≡ Some c → slice_get offs i ≡ Some o → Stands file (at + 32 * i) (words (class_words t c o))
line_stands file t [] offs at i o c s e f = absurd cc
line_stands file t (d ∷ classes) [] at i o c s e f = absurd cc
line_stands file t (d ∷ classes) (p ∷ offs) at zero o c s e f =
    let same : d ≡ c = cc in
    let place : p ≡ o = cc in
    let here : at + 32 * 0 ≡ at = omega arith in
    rw (here, ← same, ← place) (stands_left file (words (class_words t d p)) (flat_map words (definitions t classes offs)) at s)
line_stands file t (d ∷ classes) (p ∷ offs) at (suc i) o c s e f =
    let next : at + 32 * suc i ≡ at + 32 + 32 * i = omega arith in
    rw next (line_stands file t classes offs (at + 32) i o c
    (stands_right file (words (class_words t d p)) (flat_map words (definitions t classes offs)) at (at + 32) refl s) e f)

-- the word at an index of the definition at a place
word_read : (file : List ℕ) (t : Tables) (c : Class) (o at k place x : ℕ) → Stands file at (words (class_words t c o)) → place ≡ at + 4 * k
    → slice_get (class_words t c o) k ≡ Some x → x < 2 ^ 32 → word_at file place ≡ x
word_read file t c o at k place x s e g lt = rw e (words_read file (class_words t c o) at k x s g lt)

parent_low : (parent : Option ℕ) → IfSome parent IsHalf → parent_word parent < 2 ^ 32
parent_low None fits = omega arith
parent_low (Some parent) fits = omega (arith, fits)

-- where the class data of a class stands
abbrev pub DataFound : List ℕ → Tables → ℕ → ClassRows → Type 0
DataFound file t i rows = Found file class_data (members_begin t) i rows (listed t)

data_found : (file : List ℕ) (t : Tables) → Laid file t → (i : ℕ) (rows : ClassRows) → slice_get (listed t) i ≡ Some rows → DataFound file t i rows
unfolding members_part
data_found file t laid i rows e = found file class_data (listed t) (members_begin t) i rows laid.members e

data_low : (file : List ℕ) (t : Tables) (i : ℕ) (rows : ClassRows) → file_end t ≤ most_bytes → (f : DataFound file t i rows)
    → (f.offset < 2 ^ 32) × (length (class_data rows) < 2 ^ 32)
unfolding members_part
data_low file t i rows short f =
    let st : Steps t = steps t in
    let part : arrays_begin t ≡ members_begin t + length (flat_map class_data (listed t)) = st.arrays in
    by_length (length (class_data rows)) (members_begin t) (length (flat_map class_data (listed t))) f.offset f.none f.within (omega (arith, part, st.end))
  where
    by_length : (n at all offset : ℕ) → (n ≡ 0 → offset ≡ 0) → (0 < n → offset + n ≤ at + all) → at + all < 2 ^ 32 → (offset < 2 ^ 32) × (n < 2 ^ 32)
    by_length zero at all offset none within lt = (let e = none refl in (omega arith, omega arith))
    by_length (suc n) at all offset none within lt = (let e = within (omega arith) in (omega arith, omega arith))

-- the definition of a class stands at its entry
definition_stands : (file : List ℕ) (t : Tables) → Laid file t → (i o : ℕ) (c : Class) → slice_get t.classes i ≡ Some c
    → slice_get (offsets class_data (members_begin t) (listed t)) i ≡ Some o → Stands file (classes_begin t + 32 * i) (words (class_words t c o))
unfolding classes_table
definition_stands file t laid i o c e f =
    line_stands file t t.classes (offsets class_data (members_begin t) (listed t)) (classes_begin t) i o c laid.classes e f

-- what the definition of a class says: its words, and the rows of its members with the place of their class data
pub record LineSaid (file : List ℕ) (t : Tables) (i : ℕ) (c : Class) : Type 0 where
  pub rows : RowsListed (code_offsets t) t.classes i c
  pub members : DataFound file t i (rows_behind t c rows.front)
  pub class : (class_entry file i).class ≡ c.class
  pub parent : (class_entry file i).parent ≡ parent_word c.parent
  pub faces : (class_entry file i).faces ≡ list_at t c.faces
  pub flags : class_flags file i ≡ c.flags
  pub data_at : class_data_at file i ≡ members.offset
  pub values_at : class_values_at file i ≡ array_place t c.values

pub line_said : (file : List ℕ) (t : Tables) → Laid file t → Headed file t → IsWritable t → file_end t ≤ most_bytes
    → (i : ℕ) (c : Class) → slice_get t.classes i ≡ Some c → LineSaid file t i c
unfolding listed
line_said file t laid headed fits short i c e =
    let rows : RowsListed (code_offsets t) t.classes i c = rows_listed t.classes (code_offsets t) i c e in
    let members : DataFound file t i (rows_behind t c rows.front) = data_found file t laid i (rows_behind t c rows.front) rows.is in
    let fit : ClassFits c = all_got ClassFits t.classes i c fits.classes e in
    let at : ℕ = classes_begin t + 32 * i in
    let s : Stands file at (words (class_words t c members.offset)) = definition_stands file t laid i members.offset c e members.is in
    let table : table_at file class_defs ≡ classes_begin t = table_there file class_defs (classes_begin t) t.classes i c headed.classes_at e in
    let begin : ℕ = entry_at file class_defs 32 i in
    let entry : begin ≡ at = ap (λ z. z + 32 * i) table in
    record {
      rows = rows;
      members = members;
      class = word_read file t c members.offset at 0 begin c.class s (omega (arith, entry)) refl (omega (arith, fit.class));
      parent = word_read file t c members.offset at 2 (begin + 8) (parent_word c.parent) s (omega (arith, entry)) refl (parent_low c.parent fit.parent);
      faces = word_read file t c members.offset at 3 (begin + 12) (list_at t c.faces) s (omega (arith, entry)) refl (kept_low file t c.faces laid short (faces_kept t i c e));
      flags = word_read file t c members.offset at 1 (begin + 4) c.flags s (omega (arith, entry)) refl (omega (arith, fit.flags));
      data_at = word_read file t c members.offset at 6 (begin + 24) members.offset s (omega (arith, entry)) refl (data_low file t i (rows_behind t c rows.front) short members).0;
      values_at = word_read file t c members.offset at 7 (begin + 28) (array_place t c.values) s (omega (arith, entry)) refl (array_found file t laid short i c e).low;
    }

-- the offsets of codes are no larger than the place behind them
aligned_low : {X : Type 0} (f : X → List ℕ) (xs : List X) (at bound : ℕ) → at + length (aligned f at xs) < bound → All (λ o. o < bound) (aligned_offsets f at xs)
aligned_low f [] at bound lt = All-nil (λ o. o < bound)
aligned_low f (x ∷ xs) at bound lt =
    let here : ℕ = at + padding at in
    let next : ℕ = here + length (f x) in
    let pad : length (zeros (padding at)) ≡ padding at = length_zeros (padding at) in
    let all = simp length-append at lt in
    All-cons (λ o. o < bound) here (aligned_offsets f next xs) (omega (arith, pad, all)) (aligned_low f xs next bound (omega (arith, pad, all)))

code_offsets_low : (t : Tables) → file_end t ≤ most_bytes → All IsWord (code_offsets t)
unfolding code_offsets codes_part
code_offsets_low t short =
    let st : Steps t = steps t in
    aligned_low code_item (all_bodies t.classes) (codes_begin t) (2 ^ 32) (omega (arith, st.strings, st.members, st.arrays, st.end))

-- rows of fields
field_ids : (fs : List FieldRow) → map (λ r. r.id) (map field_row fs) ≡ map (λ f. f.id) fs
field_ids [] = refl
field_ids (f ∷ fs) = ap (λ ids. f.id ∷ ids) (field_ids fs)

fields_fit : (list : MemberList) (fs : List FieldRow) → All FieldFits fs → Rise (map (λ f. f.id) fs) → length (map field_row fs) < 2 ^ 32 → RowsFit list (map field_row fs)
fields_fit list fs fit rise few = record {
  each = All-map (RowFits list) field_row fs (All-weaker FieldFits (λ f. RowFits list (field_row f)) one fs fit);
  rise = subst Rise (sym (field_ids fs)) rise;
  few = few;
}
  where
    one : (f : FieldRow) → FieldFits f → RowFits list (field_row f)
    one f fit = record { id = fit.id; flags = fit.flags; code = omega arith; none = λ e. refl }

-- rows of methods
method_ids : (ms : List MethodRow) (offs : List ℕ) → map (λ r. r.id) (method_rows offs ms) ≡ map (λ m. m.id) ms
method_ids [] offs = refl
method_ids (m ∷ ms) offs = ap (λ ids. m.id ∷ ids) (method_ids ms (offsets_left m.code offs))

next_low : (code : Option Body) (offs : List ℕ) → All IsWord offs → next_offset code offs < 2 ^ 32
next_low None offs low = omega arith
next_low (Some b) [] low = omega arith
next_low (Some b) (o ∷ offs) low = All-head IsWord o offs low

left_low : (code : Option Body) (offs : List ℕ) → All IsWord offs → All IsWord (offsets_left code offs)
left_low None offs low = low
left_low (Some b) offs low = All-drop IsWord 1 offs low

each_fits : (list : MemberList) (ms : List MethodRow) (offs : List ℕ) → has_code list ≡ true → All IsWord offs → All MethodFits ms → All (RowFits list) (method_rows offs ms)
each_fits list [] offs coded low fit = All-nil (RowFits list)
each_fits list (m ∷ ms) offs coded low fit =
    let here : MethodFits m = All-head MethodFits m ms fit in
    All-cons (RowFits list) (method_row offs m) (method_rows (offsets_left m.code offs) ms)
    (record { id = here.id; flags = here.flags; code = next_low m.code offs low; none = λ e. cc })
    (each_fits list ms (offsets_left m.code offs) coded (left_low m.code offs low) (All-tail MethodFits m ms fit))

methods_fit : (list : MemberList) (ms : List MethodRow) (offs : List ℕ) → has_code list ≡ true → All IsWord offs → All MethodFits ms → Rise (map (λ m. m.id) ms)
    → length (method_rows offs ms) < 2 ^ 32 → RowsFit list (method_rows offs ms)
methods_fit list ms offs coded low fit rise few = record {
  each = each_fits list ms offs coded low fit;
  rise = subst Rise (sym (method_ids ms offs)) rise;
  few = few;
}

class_fits : (c : Class) (offs : List ℕ) → ClassFits c → All IsWord offs → AllFew (class_rows_with offs c) (2 ^ 32) → AllFit (class_rows_with offs c)
class_fits c offs fit low few = record {
  statics = fields_fit StaticFields c.statics fit.statics fit.statics_rise few.statics;
  instances = fields_fit InstanceFields c.instances fit.instances fit.instances_rise few.instances;
  directs = methods_fit DirectMethods c.directs offs refl low fit.directs fit.directs_rise few.directs;
  virtuals =
      methods_fit VirtualMethods c.virtuals (drop (length (bodies_in c.directs)) offs) refl (All-drop IsWord (length (bodies_in c.directs)) offs low) fit.virtuals fit.virtuals_rise few.virtuals;
}

-- the rows that a class definition leads to
pub rows_said : (file : List ℕ) (t : Tables) → IsWritable t → file_end t ≤ most_bytes → (i : ℕ) (c : Class) → slice_get t.classes i ≡ Some c
    → (l : LineSaid file t i c) → class_rows file i ≡ held (rows_hold file (owner file i) (rows_behind t c l.rows.front)) (rows_behind t c l.rows.front)
rows_said file t fits short i c e l =
    let st : Steps t = steps t in
    by_test (omega (arith, st.types, st.protos, st.fields, st.methods, st.classes, st.map, st.lists, st.codes, st.strings, st.members)) (has_no_rows rows) refl
  where
    rows : ClassRows
    rows = rows_behind t c l.rows.front

    by_test : 0 < members_begin t → (b : Bool) → has_no_rows rows ≡ b → class_rows file i ≡ held (rows_hold file (owner file i) rows) rows
    by_test some true none = no_rows_read file i rows none (l.data_at ∙ l.members.none (ap length (no_class_data rows none)))
    by_test some false there =
        let long : 0 < length (class_data rows) = class_data_long rows there in
        let stands : Stands file (class_data_at file i) (class_item rows) =
        subst (λ z. Stands file z (class_item rows)) (sym l.data_at) (subst (Stands file l.members.offset) (some_class_data rows there) (l.members.there long)) in
        let few : AllFew rows (2 ^ 32) = few_in_data rows (2 ^ 32) (omega arith) (data_low file t i rows short l.members).1 in
        let offs : List ℕ = drop (length l.rows.front) (code_offsets t) in
        let fit : AllFit rows = class_fits c offs (all_got ClassFits t.classes i c fits.classes e) (All-drop IsWord (length l.rows.front) (code_offsets t) (code_offsets_low t short)) few in
        class_data_read file i rows fit (omega (arith, l.data_at, l.members.behind long)) stands
