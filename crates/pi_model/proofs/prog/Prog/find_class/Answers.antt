use Rattle.std.proofs.Common.{sym, ◌∙◌}
use Rattle.pi_model.specs.Index.{class_name}
use Rattle.pi_model.proofs.Firsts.{first_found, none_found}
use Rattle.pi_model.proofs.prog.Prog.find_class.Goals as goal

pub returns-in-Some-clause-some : goal.returns-in-Some-clause-some
returns-in-Some-clause-some c =
    let is = sym (c.in-Some.ensures ∙ c.self.invariant.index.classes.at c.args.n) in
    rw (← c.self.view_is) (first_found class_name c.self.inside.classes.items c.args.n c.in-Some.at is).0

pub returns-in-None-clause-none : goal.returns-in-None-clause-none
returns-in-None-clause-none c =
    let is = sym (c.in-None.ensures ∙ c.self.invariant.index.classes.at c.args.n) in
    rw (← c.self.view_is) (none_found class_name c.self.inside.classes.items c.args.n is)
