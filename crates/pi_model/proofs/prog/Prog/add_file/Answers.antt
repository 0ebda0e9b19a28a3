use Rattle.std.proofs.Common.{rules, ◌≡◌, ◌++◌, filter, is_none, slice_index_or, None, ap, ◌∙◌}
use Rattle.pi_model.specs.Program.{Program}
use Rattle.pi_model.specs.Valid.{FitsBehind}
use Rattle.pi_model.proofs.Kept.{kept_as}
use Rattle.pi_model.proofs.Firsts.{types_are, with_file_is}
use Rattle.pi_model.proofs.prog.Prog.add_file.Goals as goal

pub add_all-requires-clause-fits : goal.add_all-requires-clause-fits
add_all-requires-clause-fits c =
    let p : Program = record { names = c.self.inside.names.items; types = c.self.inside.types.items; classes = c.self.inside.classes.items; files = c.self.inside.files.items } in
    let fits : FitsBehind p c.args.names c.args.types c.args.classes = rw c.self.view_is c.requires in
    let fresh : c.in_ok-fresh.fresh.items ≡ filter (λ t. is_none (slice_index_or c.self.inside.index.type_slots t.0 None)) c.args.types = rw (← c.as_slice.ensures) c.in_ok-fresh.ensures in
    let types = types_are c.self.inside.index.type_slots p.types c.args.types _ c.self.invariant.index.types (ap (λ v. p.types ++ v) fresh) in
    kept_as p c.args.names c.args.types c.args.classes _ _ _ _ c.self.invariant.program fits (search rules) types (search rules) (search rules)

pub returns-clause-ok : goal.returns-clause-ok
returns-clause-ok c =
    let p : Program = record { names = c.self.inside.names.items; types = c.self.inside.types.items; classes = c.self.inside.classes.items; files = c.self.inside.files.items } in
    let fresh : c.in_ok-fresh.fresh.items ≡ filter (λ t. is_none (slice_index_or c.self.inside.index.type_slots t.0 None)) c.args.types = rw (← c.as_slice.ensures) c.in_ok-fresh.ensures in
    let types = types_are c.self.inside.index.type_slots p.types c.args.types c.add_all.new.types.items c.self.invariant.index.types (c.in_ok-add_all.ensures.types ∙ ap (λ v. p.types ++ v) fresh) in
    rw (← c.self.view_is) (with_file_is p c.args.names c.args.types c.args.classes c.add_all.new.names.items c.add_all.new.types.items c.add_all.new.classes.items c.add_all.new.files.items (search rules) types (search rules) (search rules))
