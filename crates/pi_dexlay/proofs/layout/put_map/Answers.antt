use Rattle.pi_dexlay.proofs.LayoutSteps.{map_put}
use Rattle.pi_dexlay.proofs.layout.put_map.Goals as goal

pub returns : goal.returns
returns c =
    map_put c.args.tables.now c.args.pools.now.kinds c.args.out.now.items c.put_word.new.out.items c.put_table_items.new.out.items c.put_data_items.new.out.items
    c.requires.pools.kinds c.in_ok-put_word.ensures c.in_ok-put_table_items.ensures c.in_ok-put_data_items.ensures
