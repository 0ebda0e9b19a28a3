use Rattle.pi_dexlay.proofs.WholeSteps.{sign_put}
use Rattle.pi_dexlay.proofs.sign.sign.Goals as goal

pub returns : goal.returns
returns c = sign_put c.args.out.now.items c.put_signature.new.out.items c.put_checksum.new.out.items c.requires c.put_signature.ensures c.put_checksum.ensures
