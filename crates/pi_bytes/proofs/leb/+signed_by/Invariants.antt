use Rattle.pi_bytes.proofs.leb.«+signed_by».Given as goal

abbrev pub decreases-signed_by : goal.decreases-signed_by
decreases-signed_by l = l.more
