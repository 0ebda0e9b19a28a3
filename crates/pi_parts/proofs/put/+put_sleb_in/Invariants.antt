use Rattle.pi_parts.proofs.put.+put_sleb_in.Given as goal

abbrev pub decreases-put_sleb_in : goal.decreases-put_sleb_in
decreases-put_sleb_in l = l.more
