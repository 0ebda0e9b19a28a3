use Rattle.std.proofs.Common.{◌≡◌, ℕ, ◌≤◌, List, length, sym, ap, ◌∙◌, subst}
use Rattle.std.specs.List.{All}
use Rattle.pi_bytes.specs.Numbers.{most_bytes}
use Rattle.pi_format.specs.Rules.Pieces.{Walk, walk, code_units, code_walk}
use Rattle.pi_dexcode.specs.Whole.{NamesIndex}
use Rattle.pi_dexcode.proofs.Walks.{units_short, indices_there}
use Rattle.pi_dex.proofs.weight.code_weight.Goals as goal

pub walk-requires : goal.walk-requires
walk-requires c =
    let file = c.args.raw.now in
    let units : c.as_slice.result.now ≡ code_units file c.args.at = c.as_slice.ensures.value ∙ c.in_ok-units.ensures ∙ ap (λ (f : List ℕ). code_units f c.args.at) c.file-file.ensures.value in
    subst (λ (us : List ℕ). length us ≤ most_bytes) (sym units) (units_short file c.args.at c.file-file.ensures.small c.requires.lies)

pub with_pieces-requires-clause-indices : goal.with_pieces-requires-clause-indices
with_pieces-requires-clause-indices c =
    let file = c.args.raw.now in
    let units : c.as_slice.result.now ≡ code_units file c.args.at = c.as_slice.ensures.value ∙ c.in_ok-units.ensures ∙ ap (λ (f : List ℕ). code_units f c.args.at) c.file-file.ensures.value in
    subst (λ (w : Walk). All (NamesIndex file) w.pieces) (sym (c.in_ok-walk.ensures ∙ ap walk units)) (indices_there file (code_walk file c.args.at).pieces c.requires.indices)
