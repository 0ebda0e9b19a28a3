use Rattle.std.proofs.Common.{rules, arith, ◌≡◌, true}
use Rattle.pi_duty.specs.Words.{is_number}
use Rattle.pi_top.proofs.Wording.{number_too_great}
use Rattle.pi_top.proofs.operands.read_number.Goals as goal

pub returns-in-Err : goal.returns-in-Err
returns-in-Err c =
    let number : is_number c.args.word.now ≡ true = search rules in
    number_too_great c.args.most c.args.word.now c.in-Err.field-0 (omega arith) number (rw c.in-Err.is at c.parse.ensures.value.0)
