use Rattle.std.proofs.Common.{sym, ◌∙◌}
use Rattle.pi_model.specs.Index.{type_name}
use Rattle.pi_model.proofs.Firsts.{type_found, none_found}
use Rattle.pi_model.proofs.prog.Prog.find_type.Goals as goal

pub returns-in-Some-clause-some : goal.returns-in-Some-clause-some
returns-in-Some-clause-some c =
    let is = sym (c.in-Some.ensures ∙ c.self.invariant.index.types.at c.args.n) in
    rw (← c.self.view_is) (type_found c.self.inside.types.items c.args.n c.in-Some.at is)

pub returns-in-None-clause-none : goal.returns-in-None-clause-none
returns-in-None-clause-none c =
    let is = sym (c.in-None.ensures ∙ c.self.invariant.index.types.at c.args.n) in
    rw (← c.self.view_is) (none_found type_name c.self.inside.types.items c.args.n is)
