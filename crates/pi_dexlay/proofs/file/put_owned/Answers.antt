use Rattle.std.proofs.Common.{ap, sym, ◌∙◌, length}
use Rattle.std.specs.List.{flat_map}
use Rattle.pi_parts.specs.Parts.{words}
use Rattle.pi_dextables.specs.Items.{member_bytes}
use Rattle.pi_dexlay.specs.Sections.{all_definitions}
use Rattle.pi_dexlay.proofs.WholeSteps.{lists_count, arrays_count, members_count, classes_are, owned_put}
use Rattle.pi_dexlay.proofs.file.put_owned.Goals as goal

pub put_classes-requires-clause-lists : goal.put_classes-requires-clause-lists
put_classes-requires-clause-lists c = lists_count c.args.tables.now c.args.pools.now c.args.made.now c.requires.pools c.requires.made

pub put_classes-requires-clause-arrays : goal.put_classes-requires-clause-arrays
put_classes-requires-clause-arrays c = arrays_count c.args.tables.now c.args.pools.now c.args.made.now c.requires.pools c.requires.made

pub put_classes-requires-clause-members : goal.put_classes-requires-clause-members
put_classes-requires-clause-members c =
    ap length c.deref.ensures.value ∙ members_count c.args.tables.now c.args.made.now c.requires.made ∙ ap length (sym c.as_slice-3.ensures)

pub returns : goal.returns
returns c =
    let t = c.args.tables.now in
    let p = c.args.pools.now in
    let m = c.args.made.now in
    owned_put t (flat_map member_bytes c.as_slice.result.now) (flat_map member_bytes c.as_slice-2.result.now)
    (flat_map words (all_definitions p m c.as_slice-3.result.now c.deref.result.now))
    c.args.out.now.items c.put_members.new.out.items c.put_members-2.new.out.items c.put_classes.new.out.items
    (ap (flat_map member_bytes) c.as_slice.ensures) (ap (flat_map member_bytes) c.as_slice-2.ensures)
    (ap (λ z. flat_map words (all_definitions p m c.as_slice-3.result.now z)) c.deref.ensures.value
    ∙ ap (λ z. flat_map words (all_definitions p m z m.members.offsets.items)) c.as_slice-3.ensures ∙ classes_are t p m c.requires.pools c.requires.made)
    c.in_ok-put_members.ensures c.in_ok-put_members-2.ensures c.in_ok-put_classes.ensures
