use Rattle.pi_dexraw.proofs.Kept.{type_there}
use Rattle.pi_dexraw.proofs.raw.Raw.type_string.Goals as goal

pub returns-clause-there : goal.returns-clause-there
returns-clause-there c =
    rw (c.string_of_type.ensures.value, c.file.ensures.value) (type_there c.args.self.now c.args.t c.file.ensures.kept c.requires)
