use Rattle.std.proofs.Common.{ℕ, ◌<◌, List, sym, subst}
use Rattle.pi_format.specs.Tables.{count_at, string_ids, type_ids}
use Rattle.pi_dexids.proofs.types.Types.is_object.Goals as goal

pub spells-requires-clause-counted : goal.spells-requires-clause-counted
spells-requires-clause-counted c =
    let lt : c.args.t < count_at c.self.inside.file.now type_ids = subst (λ (f : List ℕ). c.args.t < count_at f type_ids) (sym c.self.view_is) c.requires in
    subst (λ (s : ℕ). s < count_at c.self.inside.file.now string_ids) (sym c.string_of_type.ensures.value) (c.self.invariant.strings c.args.t lt)
