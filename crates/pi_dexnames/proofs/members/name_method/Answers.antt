use Rattle.pi_dexnames.proofs.Together.{names_then}
use Rattle.pi_dexnames.proofs.members.name_method.Goals as goal

pub returns : goal.returns
returns c =
    let first = rw c.as_slice-params.ensures at c.in_ok-name_method_ref.ensures in
    names_then first c.name_code.ensures
