use Rattle.std.proofs.Common.{ap, ◌∙◌, ◌++◌}
use Rattle.std.specs.List.{flat_map}
use Rattle.pi_dextables.specs.Image.{item_bytes, standing}
use Rattle.pi_dexlay.proofs.LayoutSteps.{table_same}
use Rattle.pi_dexlay.proofs.layout.put_table_items.Goals as goal

pub returns : goal.returns
returns c =
    let b = c.args.begins.now in
    c.in_ok-put_items.ensures
    ∙ ap (λ z. c.args.out.now.items ++ flat_map item_bytes (standing z))
    (table_same c.args.tables.now c.len.result c.len-2.result b.types c.len-3.result b.protos c.len-4.result b.fields c.len-5.result b.methods c.len-6.result b.classes b.map
    c.len.ensures c.len-2.ensures c.requires.types c.len-3.ensures c.requires.protos c.len-4.ensures c.requires.fields c.len-5.ensures c.requires.methods c.len-6.ensures c.requires.classes c.requires.map)
