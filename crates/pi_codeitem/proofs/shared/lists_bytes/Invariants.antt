use Rattle.std.proofs.Common.{◌≡◌, ◌+◌, drop}
use Rattle.std.specs.Prelude.{sum_by}
use Rattle.pi_codeitem.specs.Shared.{list_bytes}
use Rattle.pi_codeitem.proofs.shared.lists_bytes.Given as goal

abbrev pub invariant-loop-k : goal.invariant-loop-k
invariant-loop-k l = l.bytes + sum_by list_bytes (drop l.k l.lists) ≡ sum_by list_bytes l.lists
