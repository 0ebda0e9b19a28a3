use Rattle.pi_bytes.proofs.LebLaws.{uleb_ok_value, uleb_ok_whole, uleb_ok_moved, uleb_err_short, uleb_err_long, uleb_again}
use Rattle.pi_bytes.proofs.leb.uleb_laws.Goals as goal

pub returns-clause-value : goal.returns-clause-value
returns-clause-value c = uleb_ok_value

pub returns-clause-whole : goal.returns-clause-whole
returns-clause-whole c = uleb_ok_whole

pub returns-clause-moved : goal.returns-clause-moved
returns-clause-moved c = uleb_ok_moved

pub returns-clause-short : goal.returns-clause-short
returns-clause-short c = uleb_err_short

pub returns-clause-long : goal.returns-clause-long
returns-clause-long c = uleb_err_long

pub returns-clause-again : goal.returns-clause-again
returns-clause-again c = uleb_again
