-- The distance from an address forward leads to the address itself.
use Rattle.std.proofs.Common.{◌≡◌, ℕ, ◌+◌, ◌-◌, ◌^◌, ◌<◌, ◌≤◌, Some, pos, refl, arith}
use Rattle.std.specs.Prelude.{◌+ℤ◌}
use Rattle.std.proofs.lemmas.Bool.{lt-ltb}
use Rattle.pi_insn.specs.Numbers.{signed_number}
use Rattle.pi_format.specs.Rules.Pieces.{address}
use Rattle.pi_classtables.specs.Forms.{distance_bits, distance}

below : (half n : ℕ) → n < half → signed_number half n ≡ pos n
below half n less = rw (lt-ltb n half less) refl

-- a distance of less than 2^31 units forward leads to the address itself
pub address_again : (at to : ℕ) → at ≤ to → to < at + 2 ^ 31 → address (pos at +ℤ distance at to) ≡ Some to
address_again at to a b =
    let bits : distance_bits at to ≡ to - at = omega arith in
    let back : at + (to - at) ≡ to = omega arith in
    rw (bits, below 2147483648 (to - at) (omega arith), back) refl
