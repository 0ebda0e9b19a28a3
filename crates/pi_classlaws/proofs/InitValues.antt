-- The value that sets a field: what it can be, by the first letter of the type and by what the field is set to.
use Rattle.std.proofs.Common.{◌≡◌, ℕ, ◌%◌, ◌^◌, ◌<◌, Bool, true, false, List, refl}
use Rattle.std.specs.Prelude.{◌&&◌, nat_lt, is_some, if◌then◌else◌}
use Rattle.std.proofs.lemmas.Bool.{and_parts, or_from, cond_both, ltb-true}
use Rattle.pi_insn.specs.Numbers.{short_bits}
use Rattle.pi_format.specs.Rules.Descriptors.{begins_with}
use Rattle.pi_dextables.specs.declared.tables.Value.{Value}
use Rattle.pi_contents.specs.Asked.{is_number, word_fits}
use Rattle.pi_classtables.specs.Values.{value, empty_value, word_value}

-- nothing
pub empty_by : (P : Value → Type 0) (ty : List ℕ) → (begins_with 66 ty ≡ true → P (value 0x00 0 0)) → (begins_with 83 ty ≡ true → P (value 0x02 1 0))
    → (begins_with 67 ty ≡ true → P (value 0x03 1 0)) → (begins_with 73 ty ≡ true → P (value 0x04 3 0)) → (begins_with 74 ty ≡ true → P (value 0x06 7 0))
    → (begins_with 90 ty ≡ true → P (value 0x1f 0 0)) → (is_number ty ≡ false → P (value 0x1e 0 0)) → P (empty_value ty)
empty_by P ty byte short char int long bool other =
    cond_both (begins_with 66 ty) (value 0x00 0 0) _ P byte (λ a.
    cond_both (begins_with 83 ty) (value 0x02 1 0) _ P short (λ b.
    cond_both (begins_with 67 ty) (value 0x03 1 0) _ P char (λ c.
    cond_both (begins_with 73 ty) (value 0x04 3 0) _ P int (λ d.
    cond_both (begins_with 74 ty) (value 0x06 7 0) _ P long (λ e.
    cond_both (begins_with 90 ty) (value 0x1f 0 0) (value 0x1e 0 0) P bool (λ f. other (none a b c d e f)))))))
  where
    none : begins_with 66 ty ≡ false → begins_with 83 ty ≡ false → begins_with 67 ty ≡ false → begins_with 73 ty ≡ false → begins_with 74 ty ≡ false
        → begins_with 90 ty ≡ false → is_number ty ≡ false
    none a b c d e f =
        or_from (begins_with 66 ty) _ a (or_from (begins_with 83 ty) _ b (or_from (begins_with 67 ty) _ c (or_from (begins_with 73 ty) _ d
        (or_from (begins_with 74 ty) (begins_with 90 ty) e f))))

-- a number of 32 bits: where it fits the type and is no byte, short, char or boolean, it is an int
skip : (b fits rest : Bool) → (b && fits) ≡ false → (if b then fits else rest) ≡ true → rest ≡ true
skip true fits rest not_both e = cc
skip false fits rest not_both e = e

last_left : (b fits c more : Bool) → (c && more) ≡ false → (if b then fits else if c then more else false) ≡ true → b ≡ true
last_left true fits c more not_both e = refl
last_left false fits c more not_both e = (let f : false ≡ true = skip c more false not_both e in cc)

abbrev is_byte : ℕ → Bool
is_byte w = is_some (short_bits 128 (2 ^ 32) w)

abbrev is_short : ℕ → Bool
is_short w = is_some (short_bits 32768 (2 ^ 32) w)

int_left : (ty : List ℕ) (w : ℕ) → (begins_with 66 ty && is_byte w) ≡ false → (begins_with 83 ty && is_short w) ≡ false → (begins_with 67 ty && nat_lt w 65536) ≡ false
    → (begins_with 90 ty && nat_lt w 2) ≡ false → word_fits ty w ≡ true → begins_with 73 ty ≡ true
int_left ty w a b c d e =
    last_left (begins_with 73 ty) (nat_lt w (2 ^ 32)) (begins_with 90 ty) (nat_lt w 2) d
    (skip (begins_with 67 ty) (nat_lt w 65536) _ c (skip (begins_with 83 ty) (is_short w) _ b (skip (begins_with 66 ty) (is_byte w) _ a e)))

pub word_by : (P : Value → Type 0) (ty : List ℕ) (w : ℕ)
    → (begins_with 66 ty ≡ true → is_some (short_bits 128 (2 ^ 32) w) ≡ true → P (value 0x00 0 (w % 256)))
    → (begins_with 83 ty ≡ true → is_some (short_bits 32768 (2 ^ 32) w) ≡ true → P (value 0x02 1 (w % 65536)))
    → (begins_with 67 ty ≡ true → w < 65536 → P (value 0x03 1 w))
    → (begins_with 90 ty ≡ true → w < 2 → P (value 0x1f w 0))
    → ((word_fits ty w ≡ true → begins_with 73 ty ≡ true) → P (value 0x04 3 w))
    → P (word_value ty w)
word_by P ty w byte short char bool int =
    cond_both (begins_with 66 ty && is_byte w) (value 0x00 0 (w % 256)) _ P (λ y. let h = and_parts (begins_with 66 ty) (is_byte w) y in byte h.0 h.1) (λ a.
    cond_both (begins_with 83 ty && is_short w) (value 0x02 1 (w % 65536)) _ P (λ y. let h = and_parts (begins_with 83 ty) (is_short w) y in short h.0 h.1) (λ b.
    cond_both (begins_with 67 ty && nat_lt w 65536) (value 0x03 1 w) _ P
    (λ y. let h = and_parts (begins_with 67 ty) (nat_lt w 65536) y in char h.0 (ltb-true w 65536 h.1)) (λ c.
    cond_both (begins_with 90 ty && nat_lt w 2) (value 0x1f w 0) (value 0x04 3 w) P
    (λ y. let h = and_parts (begins_with 90 ty) (nat_lt w 2) y in bool h.0 (ltb-true w 2 h.1)) (λ d. int (λ e. int_left ty w a b c d e)))))
