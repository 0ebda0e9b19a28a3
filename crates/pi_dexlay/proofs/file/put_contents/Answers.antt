use Rattle.pi_dexlay.proofs.WholeSteps.{contents_put}
use Rattle.pi_dexlay.proofs.file.put_contents.Goals as goal

pub returns : goal.returns
returns c =
    contents_put c.args.tables.now c.args.out.now.items c.put_header.new.out.items c.put_ids.new.out.items c.put_owned.new.out.items c.put_map.new.out.items c.put_data.new.out.items
    c.in_ok-put_header.ensures c.in_ok-put_ids.ensures c.in_ok-put_owned.ensures c.in_ok-put_map.ensures c.in_ok-put_data.ensures
