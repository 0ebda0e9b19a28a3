use Rattle.std.proofs.Common.{◌≡◌, ◌-◌}
use Rattle.pi_format.specs.Rules.Entries.{each_from}
use Rattle.pi_format.specs.Rules.CodeItems.{ranges_have_lists}
use Rattle.pi_codeitem.proofs.Listing.{has_list}
use Rattle.pi_codeitem.proofs.codes.have_lists.Given as goal

abbrev pub invariant-loop-k : goal.invariant-loop-k
invariant-loop-k l =
    each_from (has_list l.file l.at l.fn.head l.lists) l.k (l.fn.head.tries - l.k) ≡ ranges_have_lists l.file l.at l.fn.head l.lists
