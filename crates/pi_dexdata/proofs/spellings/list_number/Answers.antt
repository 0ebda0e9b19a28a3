use Rattle.pi_dexdata.proofs.ListNumbers.{put_is, number_is}
use Rattle.pi_dexdata.proofs.spellings.list_number.Goals as goal

pub returns-in-Ok-clause-lists : goal.returns-in-Ok-clause-lists
returns-in-Ok-clause-lists c =
    put_is c.args.lists.now c.add_new.new.lists c.args.list c.in_ok-spell.field-0 c.args.spellings.now.keys c.in_ok-place.is_new
    c.in_ok-spell.ensures c.requires c.in_ok-place.ensures.added c.in_ok-add_new.ensures

pub returns-in-Ok-clause-number : goal.returns-in-Ok-clause-number
returns-in-Ok-clause-number c =
    number_is c.args.lists.now c.add_new.new.lists c.args.list c.in_ok-spell.field-0 c.args.spellings.now.keys c.in_ok-place.place c.in-Ok.number
    c.in_ok-spell.ensures c.requires
    (put_is c.args.lists.now c.add_new.new.lists c.args.list c.in_ok-spell.field-0 c.args.spellings.now.keys c.in_ok-place.is_new
    c.in_ok-spell.ensures c.requires c.in_ok-place.ensures.added c.in_ok-add_new.ensures)
    c.in_ok-place.ensures.index c.in-Ok.ensures.1
