use Rattle.std.proofs.Common.{◌≡◌, sym, subst, List, ℕ}
use Rattle.std.specs.List.{All}
use Rattle.pi_classtables.specs.Sorted.{sorted, text_order}
use Rattle.pi_dexnumbers.specs.Rows.{proto_lines, ProtoLineFits}
use Rattle.pi_dexnumbers.proofs.Fits.{proto_lines_fit}
use Rattle.pi_dexnumbers.proofs.protos.rank_protos.Goals as goal

pub proto_entries-requires : goal.proto_entries-requires
proto_entries-requires c =
    let args = c.args in
    let lines : List (List ℕ) = sorted text_order (proto_lines args.texts.now args.types.now c.as_slice.result.now args.protos.now) in
    let same : c.as_slice-2.result.now ≡ lines = cc (c.in_ok-numbered.ensures.sorted, c.in_ok-lines.ensures) in
    subst (All ProtoLineFits) (sym same) (proto_lines_fit args.texts.now args.types.now c.requires c.as_slice.result.now args.protos.now)
