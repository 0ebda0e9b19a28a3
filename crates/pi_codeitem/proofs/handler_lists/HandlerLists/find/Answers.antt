use Rattle.std.proofs.Common.{ℕ, List, sym, ap, ◌∙◌, subst}
use Rattle.std.specs.Prelude.{◌==◌, find, slice_get, Ok, Err}
use Rattle.std.specs.Ordering.{nat_cmp}
use Rattle.std.specs.List.Sorted.{IsBinarySearchResult}
use Rattle.pi_format.specs.Rules.CodeItems.{HandlerList}
use Rattle.pi_codeitem.proofs.Finds.{search_finds, search_fails}
use Rattle.pi_codeitem.proofs.handler_lists.HandlerLists.find.Goals as goal

pub returns-in-Ok : goal.returns-in-Ok
returns-in-Ok c =
    let position = subst (λ (xs : List ℕ). IsBinarySearchResult (λ y. nat_cmp y c.args.place) xs (Ok c.in-Ok.k)) c.deref.ensures.value c.in-Ok.ensures.position in
    let found = search_finds (λ (l : HandlerList). l.at) c.args.place c.in-Ok.k c.self.inside.places.items c.self.inside.lists.items c.self.invariant position in
    c.nth.ensures ∙ ap (λ (ls : List HandlerList). slice_get ls c.in-Ok.k) c.as_slice.ensures.value ∙ sym found
    ∙ ap (λ (ls : List HandlerList). find (λ (l : HandlerList). l.at == c.args.place) ls) c.self.view_is

pub returns-in-Err : goal.returns-in-Err
returns-in-Err c =
    let position = subst (λ (xs : List ℕ). IsBinarySearchResult (λ y. nat_cmp y c.args.place) xs (Err c.in-Err.field-0)) c.deref.ensures.value c.in-Err.ensures.position in
    let found = search_fails (λ (l : HandlerList). l.at) c.args.place c.in-Err.field-0 c.self.inside.places.items c.self.inside.lists.items c.self.invariant position in
    sym found ∙ ap (λ (ls : List HandlerList). find (λ (l : HandlerList). l.at == c.args.place) ls) c.self.view_is
