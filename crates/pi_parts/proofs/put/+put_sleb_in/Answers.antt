use Rattle.pi_parts.proofs.Puts.{sleb_put}
use Rattle.pi_parts.proofs.put.+put_sleb_in.Goals as goal

pub returns : goal.returns
returns t c =
    sleb_put c.args.out.now.items c.extend_from_slice-2.new.self.items c.put_sleb_in.new.out.items c.args.more c.args.x
    c.if-more-eq0.false c.if-x-lt64.false c.in_ok-extend_from_slice.ensures.items c.in_ok-put_sleb_in.ensures
