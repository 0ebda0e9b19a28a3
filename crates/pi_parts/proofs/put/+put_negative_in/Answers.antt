use Rattle.pi_parts.proofs.Puts.{negative_put}
use Rattle.pi_parts.proofs.put.+put_negative_in.Goals as goal

pub returns : goal.returns
returns t c =
    negative_put c.args.out.now.items c.extend_from_slice-2.new.self.items c.put_negative_in.new.out.items c.args.more c.args.x
    c.if-more-eq0.false c.if-x-lt65.false c.in_ok-extend_from_slice.ensures.items c.in_ok-put_negative_in.ensures
