-- Static values that hold set their fields: a number has the bytes that its kind and argument say, and what a value names
-- is there.
use Rattle.std.proofs.Common.{◌≡◌, ◌⊎◌, inl, inr, ℕ, zero, suc, ◌+◌, ◌*◌, ◌^◌, ◌<◌, List, [], ◌∷◌, length, drop, Option, Some, None, Result, Ok, Err, Bool, true, false, refl, sym, ap, ◌∙◌, arith, subst}
use Rattle.std.specs.Prelude.{◌==◌, ◌&&◌, ◌/◌, ◌%◌, nat_lt, nat_le, codes, slice_index, if◌then◌else◌}
use Rattle.std.specs.List.{All}
use Rattle.std.proofs.Math.Nat.{pow-succ'}
use Rattle.byteorder.specs.Endian.{little_from, little_number}
use Rattle.pi_bytes.specs.Place.{Place, bytes_from}
use Rattle.pi_bytes.specs.Reading.{number_at, reading_at}
use Rattle.pi_bytes.specs.Leb.{uleb_at, uleb_by}
use Rattle.pi_bytes.specs.declared.fault.ReadFault.{ReadFault}
use Rattle.pi_bytes.specs.declared.fault.ReadFault.TheVariants as fault
use Rattle.pi_model.specs.Texts.{same_text}
use Rattle.pi_format.specs.Tables.{count_at, string_ids, type_ids}
use Rattle.pi_format.specs.Rules.Descriptors.{begins_with}
use Rattle.pi_format.specs.Rules.Rows.{MemberRow, readable}
use Rattle.pi_format.specs.Rules.ClassData.{rows_of, class_values_at}
use Rattle.pi_format.specs.Rules.Values.{EncodedValue, value_bytes, encoded_value, value_fits, is_reference, names_reference, field_type, values_from, values_at, class_values}
use Rattle.pi_format.specs.Says.Classes.{values_in}
use Rattle.pi_dex.specs.Judged.{AreBytes, IsInit}
use Rattle.pi_format.proofs.Held.{both, below}
use Rattle.pi_insn.proofs.Steps.{bind_some}
use Rattle.pi_dexcode.proofs.Types.{if_held}
use Rattle.pi_format.proofs.Every.{all_nothing, all_more}

one_more_byte : (b rest power : ℕ) → b < 256 → rest < power → b + 256 * rest < 256 * power
one_more_byte b rest power lt below = omega (arith, lt, below)

-- the number in n bytes has n bytes
small_number : (bytes : List ℕ) → AreBytes bytes → (i n : ℕ) → little_from i n bytes < 256 ^ n
small_number bytes are i zero = omega arith
small_number bytes are i (suc n) =
    rw (pow-succ' 256 n) (one_more_byte (slice_index bytes i) (little_from (suc i) n bytes) (256 ^ n) (are i) (small_number bytes are (suc i) n))

rest_are : (bytes : List ℕ) → AreBytes bytes → (n : ℕ) → AreBytes (drop n bytes)
rest_are bytes are zero k = are k
rest_are [] are (suc n) k = are k
rest_are (b ∷ bytes) are (suc n) k = rest_are bytes (λ j. are (suc j)) n k

readable_some : {A : Type 0} (r : Result A ReadFault) (x : A) → readable r ≡ Some x → r ≡ Ok x
readable_some (Ok y) x e = cc
readable_some (Err fault) x e = cc

-- a number that was read has so many bytes, and the place behind it is in the same bytes
number_read : (n : ℕ) (p : Place) (x : ℕ × Place) → AreBytes p.bytes → number_at n p ≡ Ok x → (x.0 < 256 ^ n) × (x.1.bytes ≡ p.bytes)
number_read n p x are e = by_test (nat_le n (length (bytes_from p))) e
  where
    by_test : (b : Bool) → (if b then Ok (little_number n (bytes_from p), record { bytes = p.bytes; at = p.at + n }) else Err fault.Short) ≡ Ok x
        → (x.0 < 256 ^ n) × (x.1.bytes ≡ p.bytes)
    by_test true f =
        let is : (little_number n (bytes_from p), record { bytes = p.bytes; at = p.at + n }) ≡ x = cc in
        subst (λ (y : ℕ × Place). (y.0 < 256 ^ n) × (y.1.bytes ≡ p.bytes)) is (small_number (bytes_from p) (rest_are p.bytes are p.at) 0 n, refl)
    by_test false f = cc

-- a value that was read has as many bytes as its kind and argument say, an argument of three bits, and the same bytes behind
record IsRead (p : Place) (x : EncodedValue × Place) : Type 0 where
  number : x.0.number < 256 ^ value_bytes x.0.kind x.0.arg
  arg : x.0.arg < 8
  stays : x.1.bytes ≡ p.bytes

less_than_eight : (n : ℕ) → n < 256 ^ 1 → n / 32 < 8
less_than_eight n lt = omega (arith, lt)

value_read : (p : Place) (x : EncodedValue × Place) → AreBytes p.bytes → encoded_value p ≡ Some x → IsRead p x
unfolding encoded_value
value_read p x are e =
    let a = bind_some (readable (number_at 1 p)) _ x e in
    let head = number_read 1 p a.0 are (readable_some (number_at 1 p) a.0 a.1.0) in
    let bytes : ℕ = value_bytes (a.0.0 % 32) (a.0.0 / 32) in
    let b = bind_some (readable (number_at bytes a.0.1)) _ x a.1.1 in
    let number = number_read bytes a.0.1 b.0 (subst AreBytes (sym head.1) are) (readable_some (number_at bytes a.0.1) b.0 b.1.0) in
    let v : EncodedValue = record { kind = a.0.0 % 32; arg = a.0.0 / 32; number = b.0.0 } in
    let whole : EncodedValue × Place = (v, b.0.1) in
    let is : whole ≡ x = cc in
    subst (IsRead p) is (record { number = number.0; arg = less_than_eight a.0.0 head.0; stays = number.1 ∙ head.1 })

-- the test of a value by its kind
abbrev fits_kind : ℕ → List ℕ → List ℕ → EncodedValue → Bool
fits_kind kind file ty v =
    if kind == 0x00 then begins_with 66 ty && nat_lt v.arg 1 else
    if kind == 0x02 then begins_with 83 ty && nat_lt v.arg 2 else
    if kind == 0x03 then begins_with 67 ty && nat_lt v.arg 2 else
    if kind == 0x04 then begins_with 73 ty && nat_lt v.arg 4 else
    if kind == 0x06 then begins_with 74 ty && nat_lt v.arg 8 else
    if kind == 0x1f then begins_with 90 ty && nat_lt v.arg 2 else
    if kind == 0x17 then
    same_text (codes "Ljava/lang/String;") ty && (nat_lt v.arg 4 && nat_lt v.number (count_at file string_ids)) else
    if kind == 0x18 then same_text (codes "Ljava/lang/Class;") ty && (nat_lt v.arg 4 && names_reference file v.number) else
    if kind == 0x1e then is_reference ty && (v.arg == 0) else false

of_kind : (kind : ℕ) (file ty : List ℕ) (v : EncodedValue) → value_fits file ty v ≡ true → v.kind ≡ kind → fits_kind kind file ty v ≡ true
unfolding value_fits
of_kind kind file ty v e is = sym (ap (λ (k : ℕ). fits_kind k file ty v) is) ∙ e

value_sets : (file ty : List ℕ) (v : EncodedValue) → v.number < 256 ^ value_bytes v.kind v.arg → v.arg < 8 → value_fits file ty v ≡ true → IsInit file v
value_sets file ty v small arg e = record {
  number = small;
  few = by_kind;
  long = λ is. arg;
  string = λ is.
      let a = both (same_text (codes "Ljava/lang/String;") ty) (nat_lt v.arg 4 && nat_lt v.number (count_at file string_ids)) (of_kind 0x17 file ty v e is) in
      below v.number (count_at file string_ids) ((both (nat_lt v.arg 4) (nat_lt v.number (count_at file string_ids)) a.1).1);
  string_few = λ is.
      let a = both (same_text (codes "Ljava/lang/String;") ty) (nat_lt v.arg 4 && nat_lt v.number (count_at file string_ids)) (of_kind 0x17 file ty v e is) in
      below v.arg 4 ((both (nat_lt v.arg 4) (nat_lt v.number (count_at file string_ids)) a.1).0);
  type_few = λ is.
      let a = both (same_text (codes "Ljava/lang/Class;") ty) (nat_lt v.arg 4 && names_reference file v.number) (of_kind 0x18 file ty v e is) in
      below v.arg 4 ((both (nat_lt v.arg 4) (names_reference file v.number) a.1).0);
  type = λ is.
      let a = both (same_text (codes "Ljava/lang/Class;") ty) (nat_lt v.arg 4 && names_reference file v.number) (of_kind 0x18 file ty v e is) in
      let b = both (nat_lt v.arg 4) (names_reference file v.number) a.1 in
      below v.number (count_at file type_ids) ((both (nat_lt v.number (count_at file type_ids)) _ b.1).0);
}
  where
    by_kind : (v.kind ≡ 0) ⊎ ((v.kind ≡ 2) ⊎ ((v.kind ≡ 3) ⊎ (v.kind ≡ 4))) → v.arg < 4
    by_kind (inl is) =
        let lt = below v.arg 1 ((both (begins_with 66 ty) (nat_lt v.arg 1) (of_kind 0 file ty v e is)).1) in
        omega (arith, lt)
    by_kind (inr (inl is)) =
        let lt = below v.arg 2 ((both (begins_with 83 ty) (nat_lt v.arg 2) (of_kind 2 file ty v e is)).1) in
        omega (arith, lt)
    by_kind (inr (inr (inl is))) =
        let lt = below v.arg 2 ((both (begins_with 67 ty) (nat_lt v.arg 2) (of_kind 3 file ty v e is)).1) in
        omega (arith, lt)
    by_kind (inr (inr (inr is))) = below v.arg 4 ((both (begins_with 73 ty) (nat_lt v.arg 4) (of_kind 4 file ty v e is)).1)

values_set : (file : List ℕ) (fields : List MemberRow) (n : ℕ) (p : Place) (values : List EncodedValue) → AreBytes p.bytes
    → values_from file fields n p ≡ Some values → All (IsInit file) values
values_set file fields zero p values are e =
    let is : [] ≡ values = cc in
    subst (All (IsInit file)) is (all_nothing (IsInit file))
values_set file [] (suc n) p values are e = cc
values_set file (field ∷ fields) (suc n) p values are e =
    let a = bind_some (encoded_value p) _ values e in
    let b = if_held (value_fits file (field_type file field.id) a.0.0) _ values a.1.1 in
    let c = bind_some (values_from file fields n a.0.1) _ values b.1 in
    let is : a.0.0 ∷ c.0 ≡ values = cc in
    let read = value_read p a.0 are a.1.0 in
    let here = value_sets file (field_type file field.id) a.0.0 read.number read.arg b.0 in
    let rest = values_set file fields n a.0.1 c.0 (subst AreBytes (sym read.stays) are) c.1.0 in
    subst (All (IsInit file)) is (all_more (IsInit file) a.0.0 c.0 here rest)

uleb_stays : (p : Place) (x : ℕ × Place) → uleb_at p ≡ Ok x → x.1.bytes ≡ p.bytes
unfolding uleb_at
uleb_stays p x e = by_read (uleb_by 4 (bytes_from p)) e
  where
    by_read : (r : Result (ℕ × ℕ) ReadFault) → reading_at p r ≡ Ok x → x.1.bytes ≡ p.bytes
    by_read (Ok y) f =
        let is : (y.0, record { bytes = p.bytes; at = p.at + y.1 }) ≡ x = cc in
        ap (λ (z : ℕ × Place). z.1.bytes) (sym is)
    by_read (Err g) f = cc

values_at_set : (file : List ℕ) (fields : List MemberRow) (p : Place) (values : List EncodedValue) → AreBytes p.bytes
    → values_at file fields p ≡ Some values → All (IsInit file) values
unfolding values_at
values_at_set file fields p values are e =
    let a = bind_some (readable (uleb_at p)) _ values e in
    values_set file fields a.0.0 a.0.1 values (subst AreBytes (sym (uleb_stays p a.0 (readable_some (uleb_at p) a.0 a.1.0))) are) a.1.1

-- the values of each class set their fields
pub inits_there : (file : List ℕ) (i : ℕ) → AreBytes file → All (IsInit file) (values_in (class_values file i))
unfolding class_values
inits_there file i are = by_values (class_values file i) refl
  where
    by_offset : (b : Bool) (values : List EncodedValue)
        → (if b then Some [] else values_at file (rows_of file i).statics (record { bytes = file; at = class_values_at file i })) ≡ Some values → All (IsInit file) values
    by_offset true values e =
        let is : [] ≡ values = cc in
        subst (All (IsInit file)) is (all_nothing (IsInit file))
    by_offset false values e = values_at_set file (rows_of file i).statics (record { bytes = file; at = class_values_at file i }) values are e

    by_values : (r : Option (List EncodedValue)) → class_values file i ≡ r → All (IsInit file) (values_in r)
    by_values None e = all_nothing (IsInit file)
    by_values (Some values) e = by_offset (class_values_at file i == 0) values e
