-- The test of a free range, space by space, and the place of a space that was found.
use Rattle.std.proofs.Common.{◌≡◌, ℕ, ◌<◌, ◌≤◌, List, length, Bool, true, ◌||◌, nat_le, position, Option, Some, IsTrue, ◌↔◌, inl, inr, arith, sym, ap, ◌∙◌}
use Rattle.std.specs.List.{list_all}
use Rattle.std.proofs.lemmas.Bool.{cases_lt, or_cases, or_parts, leb-true, leb-false, true_from_ne_false}
use Rattle.std.proofs.lemmas.List.{get_or_default}
use Rattle.std.proofs.lemmas.List.Sums.{AllPass-from_list_all, list_all-from_AllPass}
use Rattle.std.proofs.lemmas.List.Quantifiers.{position-Some}
use Rattle.pi_memory.specs.Space.{Space, no_space, IsIn, apart, holds}
use Rattle.pi_memory.specs.Memory.{space_at, IsFree}

apart_free : (base end : ℕ) (s : Space) (a : ℕ) → apart base end s ≡ true → IsIn a s → base ≤ a → end ≤ a
apart_free base end s a test here above =
    elim (or_cases (nat_le end s.base || nat_le s.end base || nat_le end base) (nat_le s.end s.base) test) [
      | inl three ↦ elim (or_cases (nat_le end s.base || nat_le s.end base) (nat_le end base) three) [
        | inl two ↦ elim (or_cases (nat_le end s.base) (nat_le s.end base) two) [
          | inl before ↦ omega (arith, leb-true end s.base before, here.from)
          | inr behind ↦ omega (arith, leb-true s.end base behind, here.to)
        ]
        | inr none ↦ omega (arith, leb-true end base none)
      ]
      | inr empty ↦ omega (arith, leb-true s.end s.base empty, here.from, here.to)
    ]

free_apart : (base end : ℕ) (s : Space) → ((a : ℕ) → IsIn a s → base ≤ a → end ≤ a) → apart base end s ≡ true
free_apart base end s free =
    true_from_ne_false (apart base end s) (λ wrong.
    let one = or_parts (nat_le end s.base || nat_le s.end base || nat_le end base) (nat_le s.end s.base) wrong in
    let two = or_parts (nat_le end s.base || nat_le s.end base) (nat_le end base) one.0 in
    let three = or_parts (nat_le end s.base) (nat_le s.end base) two.0 in
    let p : s.base < end = leb-false end s.base three.0 in
    let q : base < s.end = leb-false s.end base three.1 in
    let r : base < end = leb-false end base two.1 in
    let t : s.base < s.end = leb-false s.end s.base one.1 in
    elim (cases_lt base s.base) [
      | inl below ↦ let no = free s.base (record { from = omega arith; to = t }) (omega arith) in omega arith
      | inr above ↦ let no = free base (record { from = above; to = q }) (omega arith) in omega arith
    ])

pub free_is : (ss now : List Space) (base end : ℕ) (r : Bool) → ss ≡ now → r ≡ list_all (apart base end) ss → IsTrue r ↔ IsFree now base end
free_is ss now base end r same r_is = (
  λ yes.
      let all = AllPass-from_list_all (apart base end) ss (sym r_is ∙ yes) in
      let free : IsFree ss base end = λ k a lt here above. apart_free base end (space_at ss k) a (all k no_space lt) here above in
      rw (← same) free,
  λ free_now.
      let free : IsFree ss base end = rw same free_now in
      r_is ∙ list_all-from_AllPass (apart base end) ss (λ k d lt.
      ap (apart base end) (get_or_default ss k d no_space lt) ∙ free_apart base end (space_at ss k) (λ a here above. free k a lt here above)),
)

-- the place of a space is below nine
pub few_found : (ss : List Space) (at n k : ℕ) (r : Option ℕ) → length ss ≤ 9 → r ≡ position (holds at n) ss → r ≡ Some k → k < 9
few_found ss at n k r few r_is some =
    let lt : k < length ss = (position-Some (holds at n) ss k no_space (sym r_is ∙ some)).0 in
    omega arith
