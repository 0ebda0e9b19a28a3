use Rattle.std.proofs.Common.{ℕ, ◌<◌, sym, subst}
use Rattle.pi_format.specs.Tables.{count_at, string_ids}
use Rattle.pi_dexids.proofs.Known.{type_in_range}
use Rattle.pi_dexids.proofs.types.letter.Goals as goal

pub string-requires-clause-counted : goal.string-requires-clause-counted
string-requires-clause-counted c =
    subst (λ (s : ℕ). s < count_at c.args.file.now string_ids) (sym c.string_of_type.ensures.value) (type_in_range c.args.file.now c.args.t c.requires.types c.requires.counted)
