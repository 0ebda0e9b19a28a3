use Rattle.pi_parts.proofs.put.+put_negative_in.Given as goal

abbrev pub decreases-put_negative_in : goal.decreases-put_negative_in
decreases-put_negative_in l = l.more
