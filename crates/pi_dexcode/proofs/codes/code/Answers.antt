use Rattle.std.proofs.Common.{◌≡◌, ℕ, ◌≤◌, List, length, sym, ap, ◌∙◌, subst}
use Rattle.std.specs.List.{All}
use Rattle.pi_bytes.specs.Numbers.{most_bytes}
use Rattle.pi_format.specs.Rules.Pieces.{Walk, walk, code_units, code_walk}
use Rattle.pi_dexcode.specs.Whole.{AreWhole, NamesIndex}
use Rattle.pi_dexcode.proofs.Walks.{units_short, walk_whole, indices_there}
use Rattle.pi_dexcode.proofs.codes.code.Goals as goal

pub walk-requires : goal.walk-requires
walk-requires c =
    let file = c.args.names.now.file in
    let units : c.as_slice.result.now ≡ code_units file c.args.at = c.as_slice.ensures.value ∙ c.in_ok-units.ensures ∙ ap (λ (f : List ℕ). code_units f c.args.at) (c.file-file.ensures.value ∙ c.raw.ensures) in
    let few = subst (λ (f : List ℕ). length f ≤ most_bytes) c.raw.ensures c.file-file.ensures.small in
    subst (λ (us : List ℕ). length us ≤ most_bytes) (sym units) (units_short file c.args.at few c.requires.lies)

pub lines-requires-clause-whole : goal.lines-requires-clause-whole
lines-requires-clause-whole c =
    let file = c.args.names.now.file in
    let units : c.as_slice.result.now ≡ code_units file c.args.at = c.as_slice.ensures.value ∙ c.in_ok-units.ensures ∙ ap (λ (f : List ℕ). code_units f c.args.at) (c.file-file.ensures.value ∙ c.raw.ensures) in
    let few = subst (λ (f : List ℕ). length f ≤ most_bytes) c.raw.ensures c.file-file.ensures.small in
    subst (λ (w : Walk). AreWhole w.pieces) (sym (c.in_ok-walk.ensures ∙ ap walk units)) (walk_whole (code_units file c.args.at) (units_short file c.args.at few c.requires.lies))

pub lines-requires-clause-indices : goal.lines-requires-clause-indices
lines-requires-clause-indices c =
    let file = c.args.names.now.file in
    let units : c.as_slice.result.now ≡ code_units file c.args.at = c.as_slice.ensures.value ∙ c.in_ok-units.ensures ∙ ap (λ (f : List ℕ). code_units f c.args.at) (c.file-file.ensures.value ∙ c.raw.ensures) in
    subst (λ (w : Walk). All (NamesIndex file) w.pieces) (sym (c.in_ok-walk.ensures ∙ ap walk units)) (indices_there file (code_walk file c.args.at).pieces c.requires.indices)
