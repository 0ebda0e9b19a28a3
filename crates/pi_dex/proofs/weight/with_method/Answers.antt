use Rattle.std.proofs.Common.{rules, ◌≡◌, ◌≢◌, Bool, false, ap, arith}
use Rattle.std.specs.Prelude.{◌==◌, if◌then◌else◌}
use Rattle.std.proofs.lemmas.Bool.Decides.{nat_tests}
use Rattle.pi_format.specs.Rules.Rows.{MemberRow}
use Rattle.pi_dex.specs.Weight.{param_count, code_weight}
use Rattle.pi_dex.proofs.Weights.{sum_is}
use Rattle.pi_dex.proofs.weight.with_method.Goals as goal

pub returns-clause-sum : goal.returns-clause-sum
returns-clause-sum c =
    let file = c.args.raw.now in
    let row = c.args.row.now in
    let code_is : c.row.inside.code ≡ row.code = ap (λ (r : MemberRow). r.code) c.row.view_is in
    let id_is : c.row.inside.id ≡ row.id = ap (λ (r : MemberRow). r.id) c.row.view_is in
    let some : row.code ≢ 0 = search rules in
    let no : (row.code == 0) ≡ false = grind (arith, nat_tests, some) in
    let code : (if row.code == 0 then 0 else code_weight file row.code) ≡ code_weight file row.code = ap (λ (b : Bool). if b then 0 else code_weight file row.code) no in
    sum_is c.with_code.result _ _ (omega (arith, code, ap (code_weight file) code_is, ap (param_count file) id_is, c.in_ok-total.ensures.sum)) c.with_code.ensures.sum
