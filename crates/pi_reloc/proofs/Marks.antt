-- Marks as bits of bytes.
use Rattle.std.proofs.Common.{◌≡◌, ◌≢◌, ℕ, zero, suc, ◌+◌, ◌*◌, ◌/◌, ◌%◌, ◌^◌, ◌<◌, ◌==◌, Bool, true, false, List, length, replicate, get_or, set, slice_get, Some, inl, inr, arith, refl, sym, ap, ◌∙◌, length-set, w8, bit_or, bit_and}
use Rattle.std.specs.Int.{bit_at}
use Rattle.std.proofs.lemmas.Bool.{cases_eq}
use Rattle.std.proofs.lemmas.List.{length-replicate, get_or-replicate, get_or-set_same, get_or-set_other, get_or_default}
use Rattle.std.proofs.lemmas.List.FromFn.{length-map-range_with_len, get_or-map-range_with_len, fill_by_all}
use Rattle.std.proofs.lemmas.Nat.Bits.{bit_at-zero, bit_at_set_same, bit_at_set_other, shr_and_one}
use Rattle.std.proofs.lemmas.Option.{slice_get-get_or}
use Rattle.pi_reloc.specs.Bitmap.{mark_in, marks_in}

pub length-marks_in : (n : ℕ) (bytes : List ℕ) → length (marks_in n bytes) ≡ n
length-marks_in n bytes = length-map-range_with_len (mark_in bytes) 0 n

get_or-marks_in : (n : ℕ) (bytes : List ℕ) (i : ℕ) (d : Bool) → i < n → get_or (marks_in n bytes) i d ≡ mark_in bytes i
get_or-marks_in n bytes i d lt = get_or-map-range_with_len (mark_in bytes) 0 n i i d lt (omega arith)

pub slice_get-marks_in : (n : ℕ) (bytes : List ℕ) (i : ℕ) → i < n → slice_get (marks_in n bytes) i ≡ Some (mark_in bytes i)
slice_get-marks_in n bytes i lt =
    slice_get-get_or (marks_in n bytes) i false (rw length-marks_in lt) ∙ ap (λ b. Some b) (get_or-marks_in n bytes i false lt)

-- the byte of a place is there
pub byte_within : (n i m : ℕ) → i < n → m ≡ (n + 7) / 8 → i / 8 < m
byte_within n i m lt e = omega arith

-- no bit of a byte that is 0 is set
zero_at : (m j : ℕ) → get_or {A = ℕ} (replicate m 0) j 0 ≡ 0
zero_at zero j = refl
zero_at (suc m) zero = refl
zero_at (suc m) (suc j) = zero_at m j

mark_in-zero : (m k : ℕ) → mark_in (replicate m 0) k ≡ false
mark_in-zero m k = ap (λ b. bit_at b (k % 8) == 1) (zero_at m (k / 8)) ∙ ap (λ b. b == 1) (bit_at-zero (k % 8))

pub marks_in-zero : (n m : ℕ) (bytes : List ℕ) → bytes ≡ replicate m 0 → marks_in n bytes ≡ replicate n false
marks_in-zero n m bytes e =
    ap (marks_in n) e ∙ sym (fill_by_all (mark_in (replicate m 0)) (replicate n false) n false (length-replicate n false) (λ k lt. get_or-replicate n k false false lt ∙ sym (mark_in-zero m k)))

-- one bit more is one mark more
mark_in-set : (n : ℕ) (bytes : List ℕ) (i b k : ℕ) → i / 8 < length bytes → b ≡ get_or bytes (i / 8) b → k ≢ i → mark_in (set bytes (i / 8) (bit_or b (1 * 2 ^ (i % 8) % 256))) k ≡ mark_in bytes k
mark_in-set n bytes i b k within is other =
    elim (cases_eq (k / 8) (i / 8)) [
      | inl same ↦
          let apart : k % 8 ≢ i % 8 = λ e. other (omega arith) in
          let byte = get_or-set_same bytes (i / 8) (bit_or b (1 * 2 ^ (i % 8) % 256)) 0 within in
          let old : b ≡ get_or bytes (i / 8) 0 = is ∙ get_or_default bytes (i / 8) b 0 within in
          ap (λ j. bit_at (get_or (set bytes (i / 8) (bit_or b (1 * 2 ^ (i % 8) % 256))) j 0) (k % 8) == 1) same
          ∙ ap (λ v. bit_at v (k % 8) == 1) byte
          ∙ ap (λ v. v == 1) (bit_at_set_other w8 b (i % 8) (omega arith) (k % 8) apart)
          ∙ ap (λ v. bit_at v (k % 8) == 1) old
          ∙ ap (λ j. bit_at (get_or bytes j 0) (k % 8) == 1) (sym same)
      | inr apart ↦ ap (λ v. bit_at v (k % 8) == 1) (get_or-set_other bytes (i / 8) (k / 8) (bit_or b (1 * 2 ^ (i % 8) % 256)) 0 apart)
    ]

mark_in-set_same : (bytes : List ℕ) (i b : ℕ) → i / 8 < length bytes → mark_in (set bytes (i / 8) (bit_or b (1 * 2 ^ (i % 8) % 256))) i ≡ true
mark_in-set_same bytes i b within =
    ap (λ v. bit_at v (i % 8) == 1) (get_or-set_same bytes (i / 8) (bit_or b (1 * 2 ^ (i % 8) % 256)) 0 within)
    ∙ ap (λ v. v == 1) (bit_at_set_same w8 b (i % 8) (omega arith))

pub marks_in-set : (n : ℕ) (bytes : List ℕ) (i b : ℕ) → i < n → length bytes ≡ (n + 7) / 8 → b ≡ get_or bytes (i / 8) b → marks_in n (set bytes (i / 8) (bit_or b (1 * 2 ^ (i % 8) % 256))) ≡ set (marks_in n bytes) i true
marks_in-set n bytes i b lt whole is =
    let within : i / 8 < length bytes = byte_within n i (length bytes) lt whole in
    let long : length (set (marks_in n bytes) i true) ≡ n = length-set (marks_in n bytes) i true ∙ length-marks_in n bytes in
    sym (fill_by_all (mark_in (set bytes (i / 8) (bit_or b (1 * 2 ^ (i % 8) % 256)))) (set (marks_in n bytes) i true) n false long (λ k below.
    elim (cases_eq k i) [
      | inl same ↦
          rw same (get_or-set_same (marks_in n bytes) i true false (rw length-marks_in lt) ∙ sym (mark_in-set_same bytes i b within))
      | inr other ↦
          get_or-set_other (marks_in n bytes) i k true false other ∙ get_or-marks_in n bytes k false below ∙ sym (mark_in-set n bytes i b k within is other)
    ]))

-- what reading the place finds
pub mark_read : (n : ℕ) (bytes : List ℕ) (i b : ℕ) → i < n → length bytes ≡ (n + 7) / 8 → b ≡ get_or bytes (i / 8) b → slice_get (marks_in n bytes) i ≡ Some (bit_and (b / 2 ^ (i % 8)) 1 == 1)
mark_read n bytes i b lt whole is =
    let old : b ≡ get_or bytes (i / 8) 0 = is ∙ get_or_default bytes (i / 8) b 0 (byte_within n i (length bytes) lt whole) in
    slice_get-marks_in n bytes i lt ∙ ap (λ v. Some (bit_at v (i % 8) == 1)) (sym old) ∙ ap (λ v. Some (v == 1)) (sym (shr_and_one b (i % 8)))
