-- Registers one by one and in a row give the registers again.
use Rattle.std.proofs.Common.{◌≡◌, ℕ, zero, suc, ◌-◌, ◌<◌, ◌≤◌, Bool, true, false, nat_le, List, [], ◌∷◌, ◌++◌, length, take, map, slice_index, refl, ◌∙◌, arith, ◌⊎◌, inl, inr, length-take}
use Rattle.std.specs.Prelude.{if◌then◌else◌}
use Rattle.std.specs.List.{AllByRecursion}
use Rattle.std.proofs.lemmas.Bool.{leb-true, cases_lt}
use Rattle.std.proofs.lemmas.List.{get_or-take, get_or_past, take-take}
use Rattle.std.proofs.Math.Seq.{take-append_seam, get_or-append_right}
use Rattle.pi_model.specs.Registers.{registers_in_row, places_of}
use Rattle.pi_model.specs.Texts.{same_text}
use Rattle.pi_said.proofs.Names.{text_equal}
use Rattle.pi_insn.specs.declared.raw.RawBody.{RawBody}
use Rattle.pi_insn.specs.declared.raw.RawRegs.{RawRegs}
use Rattle.pi_insn.specs.declared.raw.RawRegs.TheVariants.{Few, Run}
use Rattle.pi_insn.specs.Writing.{AreFew}
use Rattle.pi_format.specs.Says.Insns.{registers}
use Rattle.pi_classtables.specs.Forms.{as_few, as_run, as_registers}

-- five zeros, and nothing else behind them
all_zero : (i : ℕ) → slice_index (0 ∷ 0 ∷ 0 ∷ 0 ∷ 0 ∷ []) i ≡ 0
all_zero zero = refl
all_zero (suc zero) = refl
all_zero (suc (suc zero)) = refl
all_zero (suc (suc (suc zero))) = refl
all_zero (suc (suc (suc (suc zero)))) = refl
all_zero (suc (suc (suc (suc (suc i))))) = refl

none_behind : (regs : List ℕ) (i : ℕ) → length regs ≤ i → slice_index (take 5 (regs ++ 0 ∷ 0 ∷ 0 ∷ 0 ∷ 0 ∷ [])) i ≡ 0
none_behind regs i behind = by_place (cases_lt i 5)
  where
    padded : List ℕ
    padded = regs ++ 0 ∷ 0 ∷ 0 ∷ 0 ∷ 0 ∷ []

    by_place : (i < 5) ⊎ (5 ≤ i) → slice_index (take 5 padded) i ≡ 0
    by_place (inl within) =
        get_or-take 5 padded i 0 within ∙ get_or-append_right regs (0 ∷ 0 ∷ 0 ∷ 0 ∷ 0 ∷ []) i 0 behind ∙ all_zero (i - length regs)
    by_place (inr past) = get_or_past (take 5 padded) i 0 (omega (arith, length-take 5 padded))

places_are : (regs : List ℕ) → nat_le (length regs) 5 ≡ true → places_of regs ≡ take 5 (regs ++ 0 ∷ 0 ∷ 0 ∷ 0 ∷ 0 ∷ [])
places_are regs few = rw few refl

-- registers that stand for a list, of which those that are named one by one are at most five
pub record StandFor (regs : List ℕ) (raw : RawRegs) : Type 0 where
  pub few : AreFew raw
  pub again : registers raw ≡ regs

few_stand : (regs : List ℕ) → nat_le (length regs) 5 ≡ true → StandFor regs (Few (length regs) (places_of regs))
few_stand regs test =
    let few : length regs ≤ 5 = leb-true (length regs) 5 test in
    record {
      few = (few, λ i behind. rw (places_are regs test) (none_behind regs i behind));
      again = rw (places_are regs test) (take-take (length regs) 5 (regs ++ 0 ∷ 0 ∷ 0 ∷ 0 ∷ 0 ∷ []) few ∙ take-append_seam regs (0 ∷ 0 ∷ 0 ∷ 0 ∷ 0 ∷ []));
    }

run_stands : (regs : List ℕ) → same_text (registers_in_row (slice_index regs 0) (length regs)) regs ≡ true
    → StandFor regs (Run (slice_index regs 0) (length regs))
run_stands regs test = record { few = tt; again = text_equal (registers_in_row (slice_index regs 0) (length regs)) regs test }

each_of : (P : RawRegs → Type 0) (b : Bool) (raw : RawRegs) → (b ≡ true → P raw) → AllByRecursion P (if b then raw ∷ [] else [])
each_of P true raw holds = (holds refl, tt)
each_of P false raw holds = tt

each_joined : {A : Type 0} (P : A → Type 0) (xs ys : List A) → AllByRecursion P xs → AllByRecursion P ys → AllByRecursion P (xs ++ ys)
each_joined P [] ys left right = right
each_joined P (x ∷ xs) ys left right = (left.0, each_joined P xs ys left.1 right)

all_stand : (regs : List ℕ) → AllByRecursion (StandFor regs) (as_registers regs)
all_stand regs =
    each_joined (StandFor regs) (as_few regs) (as_run regs)
    (each_of (StandFor regs) (nat_le (length regs) 5) (Few (length regs) (places_of regs)) (few_stand regs))
    (each_of (StandFor regs) (same_text (registers_in_row (slice_index regs 0) (length regs)) regs) (Run (slice_index regs 0) (length regs)) (run_stands regs))

-- and so do the instructions that name them
each_mapped : (P : RawBody → Type 0) (f : RawRegs → RawBody) (Q : RawRegs → Type 0) (raws : List RawRegs) → ((raw : RawRegs) → Q raw → P (f raw))
    → AllByRecursion Q raws → AllByRecursion P (map f raws)
each_mapped P f Q [] holds all = tt
each_mapped P f Q (raw ∷ raws) holds all = (holds raw all.0, each_mapped P f Q raws holds all.1)

pub all_listings : (P : RawBody → Type 0) (f : RawRegs → RawBody) (regs : List ℕ) → ((raw : RawRegs) → StandFor regs raw → P (f raw))
    → AllByRecursion P (map f (as_registers regs))
all_listings P f regs holds = each_mapped P f (StandFor regs) (as_registers regs) holds (all_stand regs)
