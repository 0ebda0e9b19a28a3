use Rattle.std.proofs.Common.{None, get_or, refl}
use Rattle.pi_model.specs.declared.describe.Catch.{Catch}
use Rattle.pi_contents.specs.Named.{text_in, catch_content}
use Rattle.pi_contents.specs.Naming.{named_by_catch}
use Rattle.pi_dexnames.proofs.Together.{names_next}
use Rattle.pi_dexnames.proofs.codes.name_catches.Goals as goal

pub loop-catch-preserved : goal.loop-catch-preserved
loop-catch-preserved c =
    let none : Catch = record { from = 0; to = 0; ty = None; at = 0 } in
    let this : Catch = get_or c.args.catches.now c.loop-catch.catch-index none in
    names_next (λ (c' : Catch). named_by_catch (catch_content (text_in c.args.prog.now) c')) c.args.catches.now c.loop-catch.catch-index
    this none c.loop-catch-test.true refl c.loop-catch.invariant c.in_ok-name_optional_type.ensures
