use Rattle.std.proofs.Common.{◌≡◌, ◌-◌, ◌/◌, length}
use Rattle.pi_format.specs.Rules.Entries.{each_from}
use Rattle.pi_format.specs.Rules.Pieces.{key_rises, keys_rise}
use Rattle.pi_codeitem.proofs.pieces.keys_rise.Given as goal

abbrev pub invariant-loop-k : goal.invariant-loop-k
invariant-loop-k l = each_from (key_rises l.keys) l.k (length l.keys / 2 - l.k) ≡ keys_rise l.keys
