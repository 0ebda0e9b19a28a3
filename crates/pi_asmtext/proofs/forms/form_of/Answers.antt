use Rattle.pi_asmtext.specs.Checks.{form_of}
use Rattle.pi_asmtext.proofs.forms.form_of.Goals as goal

pub returns : goal.returns
unfolding form_of
returns c = c.form_in.ensures
