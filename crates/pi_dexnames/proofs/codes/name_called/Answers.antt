use Rattle.pi_dexnames.proofs.codes.name_called.Goals as goal

pub returns : goal.returns
returns c = rw c.as_slice.ensures at c.name_method_ref.ensures
