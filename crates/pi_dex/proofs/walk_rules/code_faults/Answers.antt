use Rattle.std.proofs.Common.{◌≡◌, ℕ, ◌≤◌, List, length, sym, ap, ◌∙◌, subst, arith}
use Rattle.pi_bytes.specs.Numbers.{most_bytes}
use Rattle.pi_format.specs.Rules.Pieces.{unit_of, Walk, walk, code_units, code_walk, index_holds, points_well}
use Rattle.pi_dex.proofs.Faults.{same_three}
use Rattle.pi_dex.proofs.Units.{units_few, stop_fits, insn_fits, index_is, payload_is}
use Rattle.pi_dex.proofs.walk_rules.code_faults.Goals as goal

pub walk-requires : goal.walk-requires
walk-requires c =
    let file = c.args.raw.now in
    let units : c.as_slice.result.now ≡ code_units file c.args.at = c.as_slice.ensures.value ∙ c.in_ok-units.ensures ∙ ap (λ (f : List ℕ). code_units f c.args.at) c.file-file.ensures.value in
    let few = units_few file c.args.at c.requires in
    subst (λ (us : List ℕ). length us ≤ most_bytes) (sym units) (omega (arith, c.file-file.ensures.small, few))

pub unit_place-requires : goal.unit_place-requires
unit_place-requires c =
    let file = c.args.raw.now in
    let units : c.as_slice.result.now ≡ code_units file c.args.at = c.as_slice.ensures.value ∙ c.in_ok-units.ensures ∙ ap (λ (f : List ℕ). code_units f c.args.at) c.file-file.ensures.value in
    let walked = c.in_ok-walk.ensures ∙ ap walk units in
    stop_fits file c.args.at c.stop.result c.file-file.ensures.small c.requires (c.stop.ensures ∙ ap (λ (w : Walk). w.stop) walked)

pub unit_place-requires-2 : goal.unit_place-requires-2
unit_place-requires-2 c =
    let file = c.args.raw.now in
    let units : c.as_slice.result.now ≡ code_units file c.args.at = c.as_slice.ensures.value ∙ c.in_ok-units.ensures ∙ ap (λ (f : List ℕ). code_units f c.args.at) c.file-file.ensures.value in
    let walked = c.in_ok-walk.ensures ∙ ap walk units in
    insn_fits file c.args.at (λ a i. index_holds file i.body) c.broken_index.result c.file-file.ensures.small c.requires c.pieces_fill_up.ensures
    (c.broken_index.ensures ∙ index_is _ file _ (code_walk file c.args.at) c.file-file.ensures.value walked)

pub unit_place-requires-3 : goal.unit_place-requires-3
unit_place-requires-3 c =
    let file = c.args.raw.now in
    let units : c.as_slice.result.now ≡ code_units file c.args.at = c.as_slice.ensures.value ∙ c.in_ok-units.ensures ∙ ap (λ (f : List ℕ). code_units f c.args.at) c.file-file.ensures.value in
    let walked = c.in_ok-walk.ensures ∙ ap walk units in
    insn_fits file c.args.at (points_well (code_walk file c.args.at).pieces) c.broken_payload.result c.file-file.ensures.small c.requires c.pieces_fill_up.ensures
    (c.broken_payload.ensures ∙ payload_is _ (code_walk file c.args.at) walked)

pub returns : goal.returns
returns c =
    let file = c.args.raw.now in
    let units : c.as_slice.result.now ≡ code_units file c.args.at = c.as_slice.ensures.value ∙ c.in_ok-units.ensures ∙ ap (λ (f : List ℕ). code_units f c.args.at) c.file-file.ensures.value in
    let walked = c.in_ok-walk.ensures ∙ ap walk units in
    same_three _ _ _ _ _ _
    (c.unit_place.ensures ∙ ap (unit_of c.args.at) (c.stop.ensures ∙ ap (λ (w : Walk). w.stop) walked))
    (c.unit_place-2.ensures ∙ ap (unit_of c.args.at) (c.broken_index.ensures ∙ index_is _ file _ (code_walk file c.args.at) c.file-file.ensures.value walked))
    (c.unit_place-3.ensures ∙ ap (unit_of c.args.at) (c.broken_payload.ensures ∙ payload_is _ (code_walk file c.args.at) walked))
