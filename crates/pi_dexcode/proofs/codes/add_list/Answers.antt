use Rattle.std.proofs.Common.{◌≡◌, ◌<◌, List, sym, ap, ◌∙◌, subst}
use Rattle.std.specs.List.{All}
use Rattle.pi_format.specs.Tables.{count_at, type_ids}
use Rattle.pi_format.specs.Rules.CodeItems.{Handler, HandlerList}
use Rattle.pi_dexcode.proofs.codes.add_list.Goals as goal

pub add_all_typed-requires-clause-types : goal.add_all_typed-requires-clause-types
add_all_typed-requires-clause-types c =
    let typed : c.as_slice.result.now ≡ c.args.list.now.typed = c.as_slice.ensures ∙ ap (λ (l : HandlerList). l.typed) c.list.view_is in
    subst (λ (hs : List Handler). All (λ (h : Handler). h.ty < count_at c.args.names.now.file type_ids) hs) (sym typed) c.requires.types
