use Rattle.std.proofs.Common.{sym, subst}
use Rattle.std.specs.List.{All}
use Rattle.pi_contents.specs.Naming.{named_by}
use Rattle.pi_classtables.specs.Whole.{classes_added}
use Rattle.pi_dexpools.specs.declared.gathered.Ranks.{Ranks}
use Rattle.pi_dexpools.specs.Ranked.{AreWhole}
use Rattle.pi_dexwrite.specs.Held.{all_added}
use Rattle.pi_dexwrite.specs.Ready.{IsReady}
use Rattle.pi_dexwrite.proofs.Adding.{held_counted}
use Rattle.pi_dexwrite.proofs.TablesMade.{parts_spelled, parts_ready, no_tables, tables_made}
use Rattle.pi_dexwrite.proofs.finish.tables_for.Goals as goal

pub number-requires-clause-whole : goal.number-requires-clause-whole
number-requires-clause-whole c =
    subst AreWhole (sym c.requires.whole) (c.named_are_gathered.ensures.whole (named_by (classes_added (all_added c.args.parts.now))))

pub rows_of-requires-clause-spelled : goal.rows_of-requires-clause-spelled
rows_of-requires-clause-spelled c = parts_spelled c.args.parts.now c.args.pools c.requires

pub returns-in-Err-clause-full : goal.returns-in-Err-clause-full
returns-in-Err-clause-full c is =
    let law = c.named_are_gathered.ensures in
    let parts = c.args.parts.now in
    let es = all_added parts in
    let ready = subst (λ (r : Ranks). All (IsReady es r) parts) (sym c.in_ok-numbered.ensures.ranks)
    (parts_ready c.places_are_numbered.ensures law.types law.protos parts c.args.pools c.requires) in
    no_tables es (held_counted law.types law.protos parts c.args.pools c.requires) (c.in-Err.ensures.full is es ready)

pub returns-clause-made : goal.returns-clause-made
returns-clause-made c =
    let law = c.named_are_gathered.ensures in
    let parts = c.args.parts.now in
    let es = all_added parts in
    let ready = subst (λ (r : Ranks). All (IsReady es r) parts) (sym c.in_ok-numbered.ensures.ranks)
    (parts_ready c.places_are_numbered.ensures law.types law.protos parts c.args.pools c.requires) in
    tables_made parts c.args.pools c.in_ok-numbered.numbered c.in-Ok.classes c.requires c.in_ok-numbered.ensures law.all
    (held_counted law.types law.protos parts c.args.pools c.requires) (c.in-Ok.ensures.ok es ready)

pub returns-clause-writable : goal.returns-clause-writable
returns-clause-writable c =
    let are = c.in_ok-numbered.ensures in
    c.classes_are_said.ensures.writable (all_added c.args.parts.now) _ c.requires.spelled c.requires.sized (returns-clause-made c) are.halves
    are.counted.strings are.counted.fields are.counted.methods
