use Rattle.std.proofs.Common.{◌≡◌, map, sym, subst, List, ℕ}
use Rattle.std.specs.List.{All}
use Rattle.pi_classtables.specs.Sorted.{sorted, text_order}
use Rattle.pi_dexnumbers.specs.Rows.{member_row, MemberRowFits}
use Rattle.pi_dexnumbers.proofs.Fits.{member_rows_fit}
use Rattle.pi_dexnumbers.proofs.members.rank_members.Goals as goal

pub member_entries-requires : goal.member_entries-requires
member_entries-requires c =
    let args = c.args in
    let rows : List (List ℕ) = sorted text_order (map (member_row args.classes.now args.names.now args.kinds.now) args.members.now) in
    let same : c.as_slice.result.now ≡ rows = cc (c.in_ok-ranked.ensures.sorted, c.in_ok-member_rows.ensures) in
    subst (All MemberRowFits) (sym same) (member_rows_fit args.classes.now args.names.now args.kinds.now c.requires.classes c.requires.kinds args.members.now)
