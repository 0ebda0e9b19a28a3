use Rattle.std.proofs.Common.{◌≡◌, ◌+◌, ◌%◌, ◌<◌, ℕ, slice_get, Some}
use Rattle.pi_dexforms.proofs.registers.is_row.Given as goal

abbrev pub invariant-loop-place : goal.invariant-loop-place
invariant-loop-place l = record {
  next : l.next ≡ (l.first + l.place) % 65536;
  follow : (k : ℕ) → k < l.place → slice_get l.regs k ≡ Some ((l.first + k) % 65536);
}
