use Rattle.pi_bytes.proofs.LebLaws.{sleb_ok_value, sleb_ok_whole, sleb_ok_moved, sleb_err_short, sleb_err_long, sleb_again}
use Rattle.pi_bytes.proofs.leb.sleb_laws.Goals as goal

pub returns-clause-value : goal.returns-clause-value
returns-clause-value c = sleb_ok_value

pub returns-clause-whole : goal.returns-clause-whole
returns-clause-whole c = sleb_ok_whole

pub returns-clause-moved : goal.returns-clause-moved
returns-clause-moved c = sleb_ok_moved

pub returns-clause-short : goal.returns-clause-short
returns-clause-short c = sleb_err_short

pub returns-clause-long : goal.returns-clause-long
returns-clause-long c = sleb_err_long

pub returns-clause-again : goal.returns-clause-again
returns-clause-again c = sleb_again
