-- Where payloads end, by how many units they have, and the nop before them.
use Rattle.std.proofs.Common.{◌≡◌, ℕ, ◌+◌, List, [], ◌∷◌, suc, length, refl, arith}
use Rattle.std.specs.Prelude.{◌==◌, ◌%◌, false, Some, if◌then◌else◌}
use Rattle.std.proofs.lemmas.Bool.{ne_eqb}
use Rattle.pi_contents.specs.Contents.{LineContent}
use Rattle.pi_classtables.specs.Layout.{next_data}
use Rattle.pi_dexspelled.specs.Tests.{behind_nop, behind_pad}

not_none : (n : ℕ) → (suc n == 0) ≡ false
not_none n = ne_eqb (suc n) 0 (λ e. omega (arith, e))

pub next_by : (at len : ℕ) (units : List ℕ) → length units ≡ len → next_data at units ≡ (if len == 0 then at else at + at % 2 + len)
next_by at len [] e = rw (← e) refl
next_by at len (u ∷ us) e = rw (← e, not_none (length us)) refl

pub pad_by : (at len : ℕ) (units : List ℕ) (rest : List LineContent) → length units ≡ len
    → behind_pad at units rest ≡ (if len == 0 then Some rest else if at % 2 == 0 then Some rest else behind_nop at rest)
pad_by at len [] rest e = rw (← e) refl
pad_by at len (u ∷ us) rest e = rw (← e, not_none (length us)) refl
