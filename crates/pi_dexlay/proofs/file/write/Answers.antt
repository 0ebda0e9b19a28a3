use Rattle.std.proofs.Common.{sym, subst, List, ℕ}
use Rattle.pi_dextables.specs.Said.{HasForm, IsSaid}
use Rattle.pi_dextables.proofs.Told.{form_kept, tables_said}
use Rattle.pi_dexlay.proofs.WholeSteps.{places_fit, places_not}
use Rattle.pi_dexlay.proofs.Ends.{is_short, too_long}
use Rattle.pi_dexlay.proofs.file.write.Goals as goal

pub returns-clause-form : goal.returns-clause-form
returns-clause-form c =
    let t = c.args.tables.now in
    subst (λ (z : List ℕ). HasForm z) (sym c.in_ok-file.ensures) (form_kept t c.requires c.in_ok-made.ensures.made.places.few)

pub returns-clause-said : goal.returns-clause-said
returns-clause-said c =
    let t = c.args.tables.now in
    let made = c.in_ok-made.ensures.made in
    subst (λ (z : List ℕ). IsSaid z t) (sym c.in_ok-file.ensures)
    (tables_said t c.requires (places_fit t c.in_ok-made.made.codes.fit made.codes.fit c.if-not-made.false) made.places.few)

pub returns-clause-short : goal.returns-clause-short
returns-clause-short c = is_short c.args.tables.now c.in_ok-made.ensures.made.places.few

pub returns-clause-places : goal.returns-clause-places
returns-clause-places c = places_fit c.args.tables.now c.in_ok-made.made.codes.fit c.in_ok-made.ensures.made.codes.fit c.if-not-made.false

pub returns-in_default-clause-fault : goal.returns-in_default-clause-fault
returns-in_default-clause-fault c = too_long c.args.tables.now c.in_default.ensures.long

pub returns-then-not-made-clause-fault : goal.returns-then-not-made-clause-fault
returns-then-not-made-clause-fault c =
    let made = c.in_ok-made.ensures.made in
    (is_short c.args.tables.now made.places.few, places_not c.args.tables.now c.in_ok-made.made.codes.fit made.codes.fit c.if-not-made.true)
