use Rattle.pi_dexlay.proofs.LayoutSteps.{map_low, header_put}
use Rattle.pi_dexlay.proofs.layout.put_header.Goals as goal

pub overflow_sub-places : goal.overflow_sub-places
overflow_sub-places c = map_low c.args.tables.now c.args.places.now c.args.begins.now.map c.requires.places c.requires.begins.map

pub returns : goal.returns
returns c =
    header_put c.args.tables.now c.args.places.now.end c.args.begins.now.map c.args.out.now.items c.put_words.new.out.items c.put_table_words.new.out.items c.put_words-2.new.out.items
    c.requires.places.end c.requires.begins.map c.in_ok-put_words.ensures c.in_ok-put_table_words.ensures c.in_ok-put_words-2.ensures
