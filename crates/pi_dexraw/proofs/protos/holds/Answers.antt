use Rattle.std.proofs.Common.{◌≡◌, ℕ, List, true, sym, ◌∙◌, subst}
use Rattle.pi_format.specs.Rules.Entries.{list_fits}
use Rattle.pi_format.specs.Rules.Members.{proto_entry}
use Rattle.pi_dexraw.proofs.Params.{fits_list, holds_list}
use Rattle.pi_dexraw.proofs.protos.holds.Goals as goal

pub rises-requires-clause-fits : goal.rises-requires-clause-fits
rises-requires-clause-fits c =
    subst (λ (f : List ℕ). list_fits f (proto_entry f c.args.i).params ≡ true) (sym c.file.ensures.same)
    (fits_list c.args.types.now (proto_entry c.args.types.now c.args.i) (sym c.in_ok-fits_proto.ensures ∙ c.if-not-branch.false))

pub rises-requires-clause-before : goal.rises-requires-clause-before
rises-requires-clause-before c = λ k e.
    subst (λ (f : List ℕ). list_fits f (proto_entry f k).params ≡ true) (sym c.file.ensures.same)
    (holds_list c.args.types.now k (c.requires.before k e))
