use Rattle.std.proofs.Common.{sym, ◌∙◌, ap, subst, ◌∷◌, ◌++◌, [], List}
use Rattle.pi_dexpools.specs.declared.gathered.Gathered.{Gathered}
use Rattle.pi_dexwrite.specs.declared.part.Part.{Part}
use Rattle.pi_dexwrite.specs.Built.{added_in}
use Rattle.pi_dexwrite.specs.Held.{AreHeld}
use Rattle.pi_dexwrite.proofs.Adding.{held_more, held_counted, one_too_many}
use Rattle.pi_dexwrite.proofs.add.add_part.Goals as goal

pub returns-in-Err-clause-full : goal.returns-in-Err-clause-full
returns-in-Err-clause-full c is =
    one_too_many c.named_are_gathered.ensures.types c.named_are_gathered.ensures.protos c.args.parts.now.items c.args.pools.now
    (added_in c.args.prog.now c.args.sparse c.args.class.now) c.requires.held (c.in-Err.ensures.full is)

pub returns-clause-held : goal.returns-clause-held
returns-clause-held c =
    let part : Part = record { prog = c.args.prog; class = c.args.class; sparse = c.args.sparse; places = c.in-Ok.places } in
    let items = c.push_reserved.ensures.items ∙ ap (λ (ps : List Part). ps ++ part ∷ []) c.reserve.ensures.items in
    let parted = held_more c.args.parts.now.items c.args.pools.now part c.requires.held c.in-Ok.ensures.places c.requires.named c.requires.spelled
    (c.sized.ensures _) c.in-Ok.ensures.few in
    subst (λ (ps : List Part). AreHeld ps c.name_counted.new.pools) (sym items)
    (subst (λ (g : Gathered). AreHeld (c.args.parts.now.items ++ part ∷ []) g) (sym c.in-Ok.ensures.gathered) parted)

pub returns-clause-counted : goal.returns-clause-counted
returns-clause-counted c =
    held_counted c.named_are_gathered.ensures.types c.named_are_gathered.ensures.protos c.push_reserved.new.self.items
    c.name_counted.new.pools (returns-clause-held c)
