use Rattle.std.proofs.Common.{ap, ◌∙◌, length}
use Rattle.std.specs.List.{flat_map}
use Rattle.pi_parts.specs.Parts.{words}
use Rattle.pi_dexlay.specs.Sections.{proto_bytes}
use Rattle.pi_dexlay.proofs.WholeSteps.{lists_count, strings_are, protos_are, ids_put}
use Rattle.pi_dexlay.proofs.file.put_ids.Goals as goal

pub put_protos-requires : goal.put_protos-requires
put_protos-requires c = ap length c.deref-2.ensures.value ∙ lists_count c.args.tables.now c.args.pools.now c.args.made.now c.requires.pools c.requires.made

pub returns : goal.returns
returns c =
    let t = c.args.tables.now in
    let p = c.args.pools.now in
    let m = c.args.made.now in
    ids_put t (words c.deref.result.now) (words c.as_slice.result.now) (flat_map (proto_bytes p.lists.keys c.deref-2.result.now) c.as_slice-2.result.now)
    c.args.out.now.items c.put_words.new.out.items c.put_types.new.out.items c.put_protos.new.out.items
    (ap words c.deref.ensures.value ∙ strings_are t m c.requires.made) (ap words c.as_slice.ensures)
    (ap (λ z. flat_map (proto_bytes p.lists.keys z) c.as_slice-2.result.now) c.deref-2.ensures.value
    ∙ ap (flat_map (proto_bytes p.lists.keys m.lists.offsets.items)) c.as_slice-2.ensures ∙ protos_are t p m c.requires.pools c.requires.made)
    c.in_ok-put_words.ensures c.in_ok-put_types.ensures c.in_ok-put_protos.ensures
