use Rattle.pi_parts.proofs.put.+put_uleb_in.Given as goal

abbrev pub decreases-put_uleb_in : goal.decreases-put_uleb_in
decreases-put_uleb_in l = l.more
