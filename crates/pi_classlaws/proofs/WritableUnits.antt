-- The units of an instruction are numbers of 16 bits.
use Rattle.std.proofs.Common.{◌≡◌, ℕ, ◌+◌, ◌*◌, ◌/◌, ◌%◌, Bool, true, false, nat_lt, List, [], ◌∷◌, Option, Some, None, IfSome, refl, subst}
use Rattle.std.specs.Prelude.{if◌then◌else◌}
use Rattle.std.specs.List.{All, list_all}
use Rattle.std.proofs.lemmas.Bool.{ltb-true}
use Rattle.std.proofs.lemmas.List.Elements.{All-weaker}
use Rattle.std.proofs.lemmas.List.Sums.{AllPass-from_list_all}
use Rattle.pi_insn.specs.declared.raw.RawBody.{RawBody}
use Rattle.pi_insn.specs.declared.raw.RawBody.TheVariants.{ConstWide}
use Rattle.pi_insn.specs.declared.raw.RawInsn.{RawInsn}
use Rattle.pi_insn.specs.declared.raw.RawRegs.{RawRegs}
use Rattle.pi_insn.specs.declared.raw.RawRegs.TheVariants.{Few, Run}
use Rattle.pi_insn.specs.declared.table.Row.{Row}
use Rattle.pi_insn.specs.declared.table.Row.TheVariants.{F10x, F12x, F11n, F11x, F10t, F20t, F22x, F21t, F21s, F21h, F21c, F23x, F22b, F22t, F22s, F22c, F30t, F32x, F31i, F31t, F31c, F35c, F3rc, F51l}
use Rattle.pi_insn.specs.Chain.{◌>>=◌}
use Rattle.pi_insn.specs.Numbers.{number_below}
use Rattle.pi_insn.specs.Table.{row_of}
use Rattle.pi_insn.specs.Writing.{as_units, with_byte, with_pair, with_unit, with_word, alone, single_of, pair_of, triple_of, literal_of, high_of, named_of, named_pair_of, payload_of, goto_of, test_of, compare_of, with_literal_of, listing_of, few_of, few_units, run_units, byte_alone, pair_alone, unit_behind, byte_and_unit, pair_and_unit, three_bytes, two_units_behind, word_behind, byte_and_word, units_51l, units_by, units_where, encoding}
use Rattle.pi_classlaws.proofs.PayloadHalves.{IsHalf}

-- what is given, if anything, are units of 16 bits
abbrev AreHalves : Option (List ℕ) → Type 0
AreHalves o = IfSome o (All IsHalf)

-- so it is at the end of each format, whatever steps come before
chained : {A B : Type 0} (P : B → Type 0) (o : Option A) (f : A → Option B) → ((x : A) → IfSome (f x) P) → IfSome (o >>= f) P
chained P None f each = tt
chained P (Some x) f each = each x

as_halves : (us : List ℕ) → AreHalves (as_units us)
as_halves us = by_test (list_all (λ u. nat_lt u 65536) us) (λ e. tested us e)
  where
    tested : (vs : List ℕ) → list_all (λ u. nat_lt u 65536) vs ≡ true → All IsHalf vs
    tested vs e =
        All-weaker (λ u. nat_lt u 65536 ≡ true) IsHalf (λ u h. ltb-true u 65536 h) vs (AllPass-from_list_all (λ u. nat_lt u 65536) vs e)

    by_test : (b : Bool) → (b ≡ true → All IsHalf us) → AreHalves (if b then Some us else None)
    by_test true all = all refl
    by_test false all = tt

-- the shapes of the units
behind_halves : (first : Option ℕ) (f : ℕ → List ℕ) → AreHalves (first >>= (λ u. as_units (f u)))
behind_halves first f = chained (All IsHalf) first (λ u. as_units (f u)) (λ u. as_halves (f u))

module _ (op : ℕ) where
  byte_alone_halves : (o : Option ℕ) → AreHalves (byte_alone op o)
  byte_alone_halves o = chained (All IsHalf) o (λ a. alone (with_byte op a)) (λ a. behind_halves (with_byte op a) (λ u. u ∷ []))

  pair_alone_halves : (o : Option (ℕ × ℕ)) → AreHalves (pair_alone op o)
  pair_alone_halves o =
      chained (All IsHalf) o (λ p. alone (with_pair op p.0 p.1)) (λ p. behind_halves (with_pair op p.0 p.1) (λ u. u ∷ []))

  unit_behind_halves : (o : Option ℕ) → AreHalves (unit_behind op o)
  unit_behind_halves o = chained (All IsHalf) o (λ n. with_unit (Some op) n) (λ n. behind_halves (Some op) (λ u. u ∷ n ∷ []))

  byte_and_unit_halves : (o : Option (ℕ × ℕ)) → AreHalves (byte_and_unit op o)
  byte_and_unit_halves o =
      chained (All IsHalf) o (λ p. with_unit (with_byte op p.0) p.1) (λ p. behind_halves (with_byte op p.0) (λ u. u ∷ p.1 ∷ []))

  pair_and_unit_halves : (o : Option (ℕ × ℕ × ℕ)) → AreHalves (pair_and_unit op o)
  pair_and_unit_halves o =
      chained (All IsHalf) o (λ p. with_unit (with_pair op p.0 p.1) p.2) (λ p. behind_halves (with_pair op p.0 p.1) (λ u. u ∷ p.2 ∷ []))

  two_bytes_halves : (u b c : ℕ) → AreHalves (number_below 256 b >>= (λ b. number_below 256 c >>= (λ c. as_units (u ∷ (b + 256 * c) ∷ []))))
  two_bytes_halves u b c =
      chained (All IsHalf) (number_below 256 b) (λ b. number_below 256 c >>= (λ c. as_units (u ∷ (b + 256 * c) ∷ [])))
      (λ b. behind_halves (number_below 256 c) (λ c. u ∷ (b + 256 * c) ∷ []))

  three_bytes_halves : (o : Option (ℕ × ℕ × ℕ)) → AreHalves (three_bytes op o)
  three_bytes_halves None = tt
  three_bytes_halves (Some p) =
      chained (All IsHalf) (with_byte op p.0) (λ u. number_below 256 p.1 >>= (λ b. number_below 256 p.2 >>= (λ c. as_units (u ∷ (b + 256 * c) ∷ []))))
      (λ u. two_bytes_halves u p.1 p.2)

  two_units_halves : (o : Option (ℕ × ℕ)) → AreHalves (two_units_behind op o)
  two_units_halves o = chained (All IsHalf) o (λ p. as_units (op ∷ p.0 ∷ p.1 ∷ [])) (λ p. as_halves (op ∷ p.0 ∷ p.1 ∷ []))

  word_behind_halves : (o : Option ℕ) → AreHalves (word_behind op o)
  word_behind_halves o =
      chained (All IsHalf) o (λ n. with_word (Some op) n) (λ n. behind_halves (Some op) (λ u. u ∷ n % 65536 ∷ n / 65536 ∷ []))

  byte_and_word_halves : (o : Option (ℕ × ℕ)) → AreHalves (byte_and_word op o)
  byte_and_word_halves o =
      chained (All IsHalf) o (λ p. with_word (with_byte op p.0) p.1)
      (λ p. behind_halves (with_byte op p.0) (λ u. u ∷ p.1 % 65536 ∷ p.1 / 65536 ∷ []))

  few_of_halves : (i n : ℕ) (regs : List ℕ) → AreHalves (few_of op i n regs)
  few_of_halves i n (c ∷ d ∷ e ∷ f ∷ g ∷ []) =
      step (number_below 6 n) _ (λ n. step (number_below 16 c) _ (λ c. step (number_below 16 d) _ (λ d. step (number_below 16 e) _ (λ e.
      step (number_below 16 f) _ (λ f. step (number_below 16 g) _ (λ g.
      as_halves ((op + 256 * (g + 16 * n)) ∷ i ∷ (c + 16 * d + 256 * e + 4096 * f) ∷ [])))))))
    where
      step : (o : Option ℕ) (f : ℕ → Option (List ℕ)) → ((x : ℕ) → AreHalves (f x)) → AreHalves (o >>= f)
      step o f each = chained (All IsHalf) o f each
  few_of_halves i n _ = tt

  few_halves : (i : ℕ) (regs : RawRegs) → AreHalves (few_units op i regs)
  few_halves i (Few n regs) = few_of_halves i n regs
  few_halves i (Run first n) = tt

  run_halves : (i : ℕ) (regs : RawRegs) → AreHalves (run_units op i regs)
  run_halves i (Few n regs) = tt
  run_halves i (Run first n) = behind_halves (with_byte op n) (λ u. u ∷ i ∷ first ∷ [])

  long_halves : (body : RawBody) → AreHalves (units_51l op body)
  long_halves (ConstWide a v) =
      behind_halves (with_byte op a) (λ u. u ∷ v % 65536 ∷ v / 65536 % 65536 ∷ v / 4294967296 % 65536 ∷ v / 281474976710656 ∷ [])
  long_halves _ = tt

  -- and each row has one of these
  row_halves : (row : Row) (body : RawBody) → AreHalves (units_by row op body)
  row_halves (F10x w) body = as_halves (op ∷ [])
  row_halves (F12x w) body = pair_alone_halves (pair_of body)
  row_halves F11n body = pair_alone_halves (literal_of 8 body)
  row_halves (F11x w) body = byte_alone_halves (single_of body)
  row_halves F10t body = byte_alone_halves (goto_of 128 body)
  row_halves F20t body = unit_behind_halves (goto_of 32768 body)
  row_halves (F22x k) body = byte_and_unit_halves (pair_of body)
  row_halves (F21t c) body = byte_and_unit_halves (test_of 32768 body)
  row_halves (F21s w) body = byte_and_unit_halves (literal_of 32768 body)
  row_halves (F21h w) body = byte_and_unit_halves (high_of body)
  row_halves (F21c w) body = byte_and_unit_halves (named_of body)
  row_halves (F23x w) body = three_bytes_halves (triple_of body)
  row_halves (F22b k) body = three_bytes_halves (with_literal_of 128 body)
  row_halves (F22t c) body = pair_and_unit_halves (compare_of 32768 body)
  row_halves (F22s k) body = pair_and_unit_halves (with_literal_of 32768 body)
  row_halves (F22c w) body = pair_and_unit_halves (named_pair_of body)
  row_halves F30t body = word_behind_halves (goto_of 2147483648 body)
  row_halves (F32x k) body = two_units_halves (pair_of body)
  row_halves (F31i w) body = byte_and_word_halves (literal_of 2147483648 body)
  row_halves (F31t w) body = byte_and_word_halves (payload_of 2147483648 body)
  row_halves F31c body = byte_and_word_halves (named_of body)
  row_halves (F35c w) body = chained (All IsHalf) (listing_of body) (λ p. few_units op p.0 p.1) (λ p. few_halves p.0 p.1)
  row_halves (F3rc w) body = chained (All IsHalf) (listing_of body) (λ p. run_units op p.0 p.1) (λ p. run_halves p.0 p.1)
  row_halves F51l body = long_halves body

  where_halves : (row : Option Row) (body : RawBody) → AreHalves (units_where row op body)
  where_halves None body = tt
  where_halves (Some row) body = row_halves row body

pub insn_halves : (i : RawInsn) (units : List ℕ) → encoding i ≡ Some units → All IsHalf units
unfolding encoding
insn_halves i units e = subst AreHalves e (where_halves i.op (row_of i.op) i.body)
