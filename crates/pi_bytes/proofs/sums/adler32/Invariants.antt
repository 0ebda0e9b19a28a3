use Rattle.std.proofs.Common.{◌≡◌, ◌<◌, drop}
use Rattle.pi_bytes.specs.Sums.{sums_from}
use Rattle.pi_bytes.proofs.sums.adler32.Given as goal

abbrev pub invariant-loop-byte : goal.invariant-loop-byte
invariant-loop-byte l = record {
  a_small : l.a < 65521;
  b_small : l.b < 65521;
  so_far : sums_from (record { a = l.a; b = l.b }) (drop l.byte-index l.bytes) ≡ sums_from (record { a = 1; b = 0 }) l.bytes;
}
