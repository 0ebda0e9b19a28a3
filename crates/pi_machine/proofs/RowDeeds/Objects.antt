-- The deeds of instructions on objects and arrays.
use Rattle.std.proofs.Common.{◌≡◌, ℕ, ◌+◌, ◌<◌, ◌≤◌, ◌==◌, List, [], ◌∷◌, ◌++◌, length, slice_get, Option, Some, None, Bool, true, false, refl, arith}
use Rattle.std.proofs.lemmas.List.{length-map}
use Rattle.std.specs.Prelude.{not, nat_lt, nat_le, ◌^◌, map, replicate, ◌&&◌}
use Rattle.std.specs.List.{list_all}
use Rattle.std.proofs.lemmas.Bool.{ltb-true, leb-true}
use Rattle.pi_model.specs.declared.numbers.NameNo.{NameNo}
use Rattle.pi_model.specs.declared.insn.Access.{Access}
use Rattle.pi_model.specs.declared.insn.FieldRef.{FieldRef}
use Rattle.pi_model.specs.Program.{Program}
use Rattle.pi_model.specs.Known.{Throwable, NullPointer, ClassCast, NegativeArraySize, ArrayIndexOutOfBounds, ArrayStore, descriptor_of}
use Rattle.pi_model.specs.Texts.{units_of}
use Rattle.pi_model.specs.Sizes.{width_of, is_reference}
use Rattle.pi_model.specs.Search.{Member, class_of, find_field, field_no_of}
use Rattle.pi_model.specs.Fields.{new_instance, field_place, is_subclass}
use Rattle.pi_model.specs.Values.{Ref, Num, Value, Word, At, Object, Array}
use Rattle.pi_machine.specs.State.{State, Frame, Result}
use Rattle.pi_machine.specs.Deeds.{Deed, Make, Saw, OfStatic, OfField, OfItem, Reads, Writes, SetField, SetItem, Pend}
use Rattle.pi_machine.specs.Objects.{Shape, OfInstance, OfArray, shape_at, object_at, field_in, item_in}
use Rattle.pi_machine.specs.Operands.{Deeds, register_of, registers_of, go_on, kind_of, stored_value, fits_letter}
use Rattle.pi_machine.specs.Throwing.{next_made, is_of_type}
use Rattle.pi_machine.specs.Natives.{truth, is_index, sets_items}
use Rattle.pi_machine.specs.Rows.Objects.{new_instance_row, monitor_row, check_cast_row, instance_of_row, throw_row, with_instance, iget_row, iput_row, sget_row, sput_row}
use Rattle.pi_machine.specs.Rows.Arrays.{with_array, is_array, item_letter, first_item, item_value, fills, may_store, array_length_row, new_array_row, filled_array, filled_row, fill_array_row, aget_row, aput_row}
use Rattle.pi_machine.specs.Sound.{EachOf}
use Rattle.pi_machine.specs.StepLaws.{HasField}
use Rattle.pi_machine.proofs.FieldNumbers.{found_field}
use Rattle.pi_machine.proofs.RowDeeds.Words.{Does, RowFacts, RowLists, stuck, these, before, either, if_found, if_found_as, by_word, by_ref, by_operand, registers_values, registers_count, by_kind, either_is, goes_on, goes, sets_last, sets_new, sets, thrown}

-- an index within a length is below it
pub index_within : (i n : ℕ) → is_index i n ≡ true → i < n
index_within i n e = ltb-true i n (second (nat_lt i (2 ^ 31)) (nat_lt i n) e)
  where
    second : (a b : Bool) → (a && b) ≡ true → b ≡ true
    second true b e = e
    second false b e = cc

not_false : (b : Bool) → not b ≡ false → b ≡ true
not_false true e = refl
not_false false e = cc

pub truth_small : (b : Bool) → truth b < 2 ^ 32
truth_small true = omega arith
truth_small false = omega arith

test_is : (a b : ℕ) → not (a == b) ≡ false → (a == b) ≡ true
test_is a b e = not_false (a == b) e

module _ {p : Program} {s : State} {f : Frame} {V : Option Ref → Value → Type 0} {O : Object → Type 0} {U : List ℕ → Type 0}
    {Ends : Option Ref → List Deed → Type 0} {After : ℕ → List Deed → Type 0} {All : List Deed → Type 0}
    (g : RowFacts p s f V O U) (k : RowLists p s f V O Ends After All) where
  -- objects
  pub new_instance_deeds : (units a : ℕ) (t : NameNo) → Does All (new_instance_row p s f units a t)
  new_instance_deeds units a t = if_found (class_of p t) (λ c.
      before (Make (new_instance p c)) (λ ds h. k.make (new_instance p c) ds (g.instance c) h) (sets_new g k units a))

  pub monitor_deeds : (units a : ℕ) → Does All (monitor_row p s f units a)
  monitor_deeds units a = by_ref s (register_of f a) (thrown g k NullPointer) (λ r e. goes g k units)

  pub check_cast_deeds : (units a : ℕ) (t : NameNo) → Does All (check_cast_row p s f units a t)
  check_cast_deeds units a t =
      by_ref s (register_of f a) (goes g k units) (λ r e. either (is_of_type p s r (units_of p t.0)) (goes g k units) (thrown g k ClassCast))

  pub instance_of_deeds : (units a b : ℕ) (t : NameNo) → Does All (instance_of_row p s f units a b t)
  instance_of_deeds units a b t =
      by_ref s (register_of f b) (sets g k units a (Word 0) (g.small 0 (omega arith))) (λ r e.
      sets g k units a (Word (truth (is_of_type p s r (units_of p t.0)))) (g.small _ (truth_small (is_of_type p s r (units_of p t.0)))))

  pub throw_deeds : (a : ℕ) → Does All (throw_row p s f a)
  throw_deeds a = by_ref s (register_of f a) (thrown g k NullPointer) (λ r e. either (is_of_type p s r (descriptor_of Throwable))
      (these (k.rest (Pend r ∷ []) (k.pend None r [] (g.register a (At r) e) (k.none None)))) stuck)

  -- fields
  by_field : (o : Ref) (i : Member) (shape : Option Shape) {go : ℕ → ℕ → Deeds} → shape_at p s o ≡ shape
      → ((n place : ℕ) → HasField s n place → Does All (go n place)) → Does All (with_instance p o i shape go)
  by_field (Num n) i (Some (OfInstance c fields)) e h =
      either (is_subclass p c i.class) (if_found (field_place p i) (λ place. either_is (nat_lt place fields)
      (λ below. h n place (record { class = c; fields = fields; is = e; within = ltb-true place fields below })) (λ past. stuck))) stuck
  by_field _ i _ e h = stuck

  pub iget_deeds : (units : ℕ) (access : Access) (a b : ℕ) (r : FieldRef) → Does All (iget_row p s f units access a b r)
  iget_deeds units access a b r = if_found (find_field p r) (λ i.
      by_ref s (register_of f b) (thrown g k NullPointer) (λ o e. by_field o i (shape_at p s o) refl (λ n place there.
      by_kind (kind_of access) (field_in (object_at p s o) place) (λ v is.
      before (Reads n) (k.reads n) (before (Saw (OfField o place v)) (λ ds h. k.saw (OfField o place v) ds is refl h)
      (sets g k units a v (g.field o place v is)))))))

  pub iput_deeds : (units : ℕ) (access : Access) (a b : ℕ) (r : FieldRef) → Does All (iput_row p s f units access a b r)
  iput_deeds units access a b r = if_found (find_field p r) (λ i. by_operand g (kind_of access) a (λ v x.
      by_ref s (register_of f b) (thrown g k NullPointer) (λ o e. by_field o i (shape_at p s o) refl (λ n place there.
      these (k.writes n (SetField n place (stored_value access v) ∷ go_on f units)
      (k.set_field n place (stored_value access v) (go_on f units) there (g.stored_value access v x) (k.rest_then n (go_on f units) (goes_on g k None units))))))))

  pub sget_deeds : (units : ℕ) (access : Access) (a : ℕ) (r : FieldRef) → Does All (sget_row p s f units access a r)
  sget_deeds units access a r = if_found_as (find_field p r) (λ i found.
      by_kind (kind_of access) (slice_get s.statics (field_no_of p i)) (λ v is.
      before (Saw (OfStatic (field_no_of p i) v)) (λ ds h. k.saw_static i.class (field_no_of p i) v ds is (found_field p r i found) h)
      (sets_last g k None units a v (g.static (field_no_of p i) v is))))

  pub sput_deeds : (units : ℕ) (access : Access) (a : ℕ) (r : FieldRef) → Does All (sput_row p s f units access a r)
  sput_deeds units access a r = if_found_as (find_field p r) (λ i found. by_operand g (kind_of access) a (λ v x.
      either_is (nat_lt (field_no_of p i) (length s.statics))
      (λ below. these (k.set_static i.class (field_no_of p i) (stored_value access v) (go_on f units) (found_field p r i found)
      (ltb-true (field_no_of p i) (length s.statics) below) (g.stored_value access v x) (goes_on g k None units))) (λ past. stuck)))

  -- arrays
  by_array : (r : Ref) (shape : Option Shape) {go : ℕ → ℕ → ℕ → Deeds} → shape_at p s r ≡ shape
      → ((n ty items : ℕ) → shape_at p s (Num n) ≡ Some (OfArray ty items) → Does All (go n ty items)) → Does All (with_array r shape go)
  by_array (Num n) (Some (OfArray ty items)) e h = h n ty items e
  by_array _ _ e h = stuck

  pub array_length_deeds : (units a b : ℕ) → Does All (array_length_row p s f units a b)
  array_length_deeds units a b = by_ref s (register_of f b) (thrown g k NullPointer) (λ r x.
      by_array r (shape_at p s r) refl (λ n ty items e. sets g k units a (Word items) (g.array_length (Num n) ty items e)))

  pub new_array_deeds : (units a b : ℕ) (t : NameNo) → Does All (new_array_row p s f units a b t)
  new_array_deeds units a b t = by_word (register_of f b) (λ n x. either (not (is_array p t)) stuck (either_is (nat_lt n (2 ^ 31))
      (λ few. before (Make (Array t.0 (replicate n (first_item (item_letter p t.0)))))
      (λ ds h. k.make _ ds (g.zeros t.0 n (item_letter p t.0) (ltb-true n (2 ^ 31) few)) h) (sets_new g k units a))
      (λ many. thrown g k NegativeArraySize)))

  filled_deeds : (units : ℕ) (t : NameNo) (values : List Value) → O (Array t.0 values) → Does All (filled_array p s f units t values)
  filled_deeds units t values x =
      either (is_array p t && list_all (fills s (item_letter p t.0)) values)
      (these (k.make (Array t.0 values) _ x
      (k.hold (Some (next_made s)) (Result (At (next_made s))) (go_on f units) (g.new (next_made s)) (goes_on g k (Some (next_made s)) units)))) stuck

  pub filled_row_deeds : (units : ℕ) (t : NameNo) (regs : List ℕ)
      → ((vs : List Value) → length vs ≡ length regs → EachOf (V None) vs → O (Array t.0 vs)) → Does All (filled_row p s f units t regs)
  filled_row_deeds units t regs c = if_found_as (registers_of f regs) (λ values e.
      filled_deeds units t values (c values (registers_count f regs values e) (registers_values g regs values e)))

  -- elements of an array from a place on are set, before what follows them
  pub sets_items_deeds : (n ty items : ℕ) → shape_at p s (Num n) ≡ Some (OfArray ty items) → (values : List Value) (at : ℕ) (ds : List Deed)
      → at + length values ≤ items → EachOf (V None) values → After n ds → After n (sets_items n at values ++ ds)
  sets_items_deeds n ty items e [] at ds h x a = a
  sets_items_deeds n ty items e (v ∷ vs) at ds h x a =
      k.set_item n at v (sets_items n (at + 1) vs ++ ds) (record { ty = ty; items = items; is = e; within = omega arith }) x.0
      (sets_items_deeds n ty items e vs (at + 1) ds (omega arith) x.1 a)

  pub fill_array_deeds : (units a width : ℕ) (given : List ℕ)
      → ((letter : ℕ) → (width_of letter == width) ≡ true → EachOf (V None) (map (item_value letter) given))
      → Does All (fill_array_row p s f units a width given)
  fill_array_deeds units a width given c = by_ref s (register_of f a) (thrown g k NullPointer) (λ r x.
      by_array r (shape_at p s r) refl (λ n ty items e.
      either (is_reference (item_letter p ty)) stuck (either_is (not (width_of (item_letter p ty) == width)) (λ other. stuck)
      (λ same. either_is (nat_le (length given) items)
      (λ fits. these {ds = Writes n ∷ sets_items n 0 (map (item_value (item_letter p ty)) given) ++ go_on f units}
      (all_filled n ty items e (item_letter p ty) (c (item_letter p ty) (test_is (width_of (item_letter p ty)) width same)) fits))
      (λ past. thrown g k ArrayIndexOutOfBounds)))))
    where
      all_filled : (n ty items : ℕ) → shape_at p s (Num n) ≡ Some (OfArray ty items) → (letter : ℕ) → EachOf (V None) (map (item_value letter) given)
          → nat_le (length given) items ≡ true → All (Writes n ∷ sets_items n 0 (map (item_value letter) given) ++ go_on f units)
      all_filled n ty items e letter x fits =
          let values : List Value = map (item_value letter) given in
          let many : length values ≡ length given = length-map given (item_value letter) in
          let room : length given ≤ items = leb-true (length given) items fits in
          k.writes n (sets_items n 0 values ++ go_on f units)
          (sets_items_deeds n ty items e values 0 (go_on f units) (omega arith) x (k.rest_then n (go_on f units) (goes_on g k None units)))

  pub aget_deeds : (units : ℕ) (access : Access) (a b c : ℕ) → Does All (aget_row p s f units access a b c)
  aget_deeds units access a b c = by_word (register_of f c) (λ i y. by_ref s (register_of f b) (thrown g k NullPointer) (λ r x.
      by_array r (shape_at p s r) refl (λ n ty items e.
      either (not (fits_letter access (item_letter p ty))) stuck (either (is_index i items)
      (by_kind (kind_of access) (item_in (object_at p s r) i) (λ v is.
      before (Reads n) (k.reads n) (before (Saw (OfItem r i v)) (λ ds h. k.saw (OfItem r i v) ds is refl h) (sets g k units a v (g.item r i v is)))))
      (thrown g k ArrayIndexOutOfBounds)))))

  pub aput_deeds : (units : ℕ) (access : Access) (a b c : ℕ) → Does All (aput_row p s f units access a b c)
  aput_deeds units access a b c = by_word (register_of f c) (λ i y. by_operand g (kind_of access) a (λ v x.
      by_ref s (register_of f b) (thrown g k NullPointer) (λ r z. by_array r (shape_at p s r) refl (λ n ty items e.
      either (not (fits_letter access (item_letter p ty))) stuck
      (either_is (not (is_index i items)) (λ past. thrown g k ArrayIndexOutOfBounds) (λ within. either (may_store p s access ty v)
      (these (k.writes n (SetItem n i (stored_value access v) ∷ go_on f units) (k.set_item n i (stored_value access v) (go_on f units)
      (record { ty = ty; items = items; is = e; within = index_within i items (not_false (is_index i items) within) }) (g.stored_value access v x)
      (k.rest_then n (go_on f units) (goes_on g k None units))))) (thrown g k ArrayStore)))))))
