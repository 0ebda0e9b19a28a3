use Rattle.std.proofs.Common.{◌≡◌, ℕ, length, sym, ap, ◌∙◌, subst, arith}
use Rattle.pi_format.specs.Tables.{count_at, class_defs}
use Rattle.pi_format.specs.Rules.ClassData.{rows_of}
use Rattle.pi_said.proofs.Lists.{length-listed}
use Rattle.pi_dex.specs.Judged.{AreThere}
use Rattle.pi_dex.proofs.Sayable.{rows_there}
use Rattle.pi_dex.proofs.members.members.Goals as goal

pub get-requires : goal.get-requires
get-requires c =
    let file = c.args.raw.now in
    let n : ℕ = count_at file class_defs in
    let all : length c.args.table.now ≡ n = ap length c.requires.table ∙ length-listed (rows_of file) 0 n in
    omega (arith, c.requires.counted, all)

pub returns-clause-rows : goal.returns-clause-rows
returns-clause-rows c = c.get.ensures.listed (rows_of c.args.raw.now) (count_at c.args.raw.now class_defs) c.requires.table

pub returns-clause-there : goal.returns-clause-there
returns-clause-there c =
    let file = c.args.raw.now in
    let is = c.get.ensures.listed (rows_of file) (count_at file class_defs) c.requires.table in
    subst (AreThere file) (sym is) (rows_there file c.args.i c.rows_are_members.ensures)
