-- The keys of a switch: those of a packed one follow each other, those of a sparse one rise.
use Rattle.std.proofs.Common.{◌≡◌, ℕ, zero, suc, ◌+◌, ◌-◌, ◌*◌, ◌/◌, ◌%◌, ◌^◌, ◌<◌, ◌≤◌, ℤ, pos, negsuc, List, length, Bool, true, refl, sym, ap, ◌∙◌, subst, arith}
use Rattle.std.specs.Prelude.{◌==◌, ◌||◌, ◌+ℤ◌, int_lt}
use Rattle.std.proofs.Math.IntN.{+ℤ_assoc}
use Rattle.std.proofs.lemmas.Bool.{and_from, eq-eqb}
use Rattle.std.proofs.lemmas.Bool.Decides.{nat_tests}
use Rattle.std.proofs.lemmas.Int.{ints}
use Rattle.pi_model.specs.declared.insn.Case.{Case}
use Rattle.pi_insn.specs.Numbers.{signed_number, word}
use Rattle.pi_format.specs.Rules.Lowest.{tabulation}
use Rattle.pi_format.specs.Rules.Pieces as pieces
use Rattle.pi_format.specs.Says.Insns.{word_of, case_target}
use Rattle.pi_contents.specs.Asked.{follow_on, keys_rise}
use Rattle.pi_saidkeeps.proofs.Each.{each_at}

-- the next number modulo 2^32, below 0
next_below : (n : ℕ) → word_of (negsuc n) ≡ (word_of (negsuc (suc n)) + 1) % 2 ^ 32
next_below n = omega arith

next_word : (z : ℤ) → word_of (z +ℤ pos 1) ≡ (word_of z + 1) % 2 ^ 32
next_word (pos n) = omega arith
next_word (negsuc zero) = refl
next_word (negsuc (suc n)) = let up : negsuc (suc n) +ℤ pos 1 ≡ negsuc n = omega (arith, ints) in ap word_of up ∙ next_below n

next_key : (first : ℤ) (k : ℕ) → word_of (first +ℤ pos (k + 1)) ≡ (word_of (first +ℤ pos k) + 1) % 2 ^ 32
next_key first k = ap word_of (sym (+ℤ_assoc first (pos k) (pos 1))) ∙ next_word (first +ℤ pos k)

follow_from : (f : ℕ → Case) → ((k : ℕ) → (f (k + 1)).key ≡ ((f k).key + 1) % 2 ^ 32) → (i n : ℕ) → follow_on (tabulation f i n) ≡ true
follow_from f next i zero = refl
follow_from f next i (suc zero) = refl
follow_from f next i (suc (suc n)) =
    and_from ((f (i + 1)).key == ((f i).key + 1) % 2 ^ 32) (follow_on (tabulation f (i + 1) (suc n))) (eq-eqb _ _ (next i)) (follow_from f next (i + 1) (suc n))

-- a case of a packed switch, and one of a sparse switch
abbrev pub packed_case : ℕ → ℤ → List ℕ → ℕ → Case
packed_case at first targets k = record { key = word_of (first +ℤ pos k); to = case_target at targets k }

abbrev pub sparse_case : ℕ → List ℕ → List ℕ → ℕ → Case
sparse_case at keys targets k = record { key = word keys (2 * k); to = case_target at targets k }

pub packed_follow : (at : ℕ) (first : ℤ) (targets : List ℕ) (n : ℕ) → follow_on (tabulation (packed_case at first targets) 0 n) ≡ true
packed_follow at first targets n = follow_from (packed_case at first targets) (next_key first) 0 n

-- the signed number of a key
abbrev signed : Case → ℤ
signed c = signed_number 2147483648 c.key

rise_from : (f : ℕ → Case) (i n : ℕ) → ((k : ℕ) → i ≤ k → k + 1 < i + n → int_lt (signed (f k)) (signed (f (k + 1))) ≡ true) → keys_rise (tabulation f i n) ≡ true
rise_from f i zero rises = refl
rise_from f i (suc zero) rises = refl
rise_from f i (suc (suc n)) rises =
    and_from (int_lt (signed (f i)) (signed (f (i + 1)))) (keys_rise (tabulation f (i + 1) (suc n)))
    (rises i (omega arith) (omega arith))
    (rise_from f (i + 1) (suc n) (λ k le lt. rises k (omega arith) (omega arith)))

not_first : (k : ℕ) (b : Bool) → ((k + 1 == 0) || b) ≡ true → b ≡ true
not_first k b e = grind (arith, nat_tests)

pub sparse_rise : (at : ℕ) (keys targets : List ℕ) → length keys ≡ length targets → pieces.keys_rise keys ≡ true
    → keys_rise (tabulation (sparse_case at keys targets) 0 (length targets / 2)) ≡ true
sparse_rise at keys targets same rise =
    rise_from (sparse_case at keys targets) 0 (length targets / 2)
    (λ k le lt. back k (not_first k (int_lt (pieces.signed_key keys (k + 1 - 1)) (pieces.signed_key keys (k + 1)))
    (each_at (pieces.key_rises keys) 0 (length keys / 2) rise (k + 1) (omega arith) (omega arith))))
  where
    back : (k : ℕ) → int_lt (pieces.signed_key keys (k + 1 - 1)) (pieces.signed_key keys (k + 1)) ≡ true → int_lt (pieces.signed_key keys k) (pieces.signed_key keys (k + 1)) ≡ true
    back k e = let place : k + 1 - 1 ≡ k = omega arith in subst (λ (j : ℕ). int_lt (pieces.signed_key keys j) (pieces.signed_key keys (k + 1)) ≡ true) place e
