-- The law stands in Told.
use Rattle.std.proofs.Common.{arith}
use Rattle.pi_dextables.proofs.Whole.{length_image}
use Rattle.pi_dextables.proofs.Told.{form_kept, tables_said}
use Rattle.pi_dextables.proofs.laws.written_tables_are_read.Goals as goal

pub returns-clause-form : goal.returns-clause-form
returns-clause-form c = λ t fits short. form_kept t fits (omega (arith, short, length_image t))

pub returns-clause-said : goal.returns-clause-said
returns-clause-said c = λ t fits places short. tables_said t fits places (omega (arith, short, length_image t))
