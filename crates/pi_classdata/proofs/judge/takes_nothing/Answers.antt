use Rattle.std.proofs.Common.{◌≡◌, ℕ, List, length, true, sym, ap, subst, ◌∙◌}
use Rattle.std.specs.Prelude.{◌==◌}
use Rattle.pi_format.specs.Rules.Entries.{list_fits, list_at}
use Rattle.pi_format.specs.Rules.ClassData.{listed_method, method_proto}
use Rattle.pi_classdata.proofs.Types.{params_fit, no_params}
use Rattle.pi_classdata.proofs.judge.takes_nothing.Goals as goal

pub has_no_types-requires-clause-fits : goal.has_no_types-requires-clause-fits
has_no_types-requires-clause-fits c =
    let file = c.args.raw.now in
    let fits = params_fit file (method_proto file c.args.row.now.id) c.file.ensures.kept c.params_at.ensures.there in
    subst (λ (f : List ℕ). list_fits f c.params_at.result ≡ true) (sym c.file.ensures.value)
    (subst (λ (at : ℕ). list_fits file at ≡ true) (sym c.params_at.ensures.value) fits)

pub returns : goal.returns
returns c =
    let file = c.args.raw.now in
    c.has_no_types.ensures
    ∙ ap (λ (f : List ℕ). length (list_at f c.params_at.result) == 0) c.file.ensures.value
    ∙ ap (λ (at : ℕ). length (list_at file at) == 0) c.params_at.ensures.value
    ∙ sym (no_params (listed_method file c.args.row.now))
