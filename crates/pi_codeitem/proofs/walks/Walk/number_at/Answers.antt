use Rattle.std.proofs.Common.{ℕ, List, sym, ap, ◌∙◌, subst}
use Rattle.std.specs.Prelude.{◌==◌, find, slice_get, Ok, Err}
use Rattle.std.specs.Ordering.{nat_cmp}
use Rattle.std.specs.List.Sorted.{IsBinarySearchResult}
use Rattle.pi_format.specs.Rules.Pieces.{Piece, Walk, walk}
use Rattle.pi_codeitem.proofs.Finds.{search_finds, search_fails}
use Rattle.pi_codeitem.proofs.walks.Walk.number_at.Goals as goal

pub returns-in-Ok-clause-found : goal.returns-in-Ok-clause-found
returns-in-Ok-clause-found c =
    let position = subst (λ (xs : List ℕ). IsBinarySearchResult (λ y. nat_cmp y c.args.at) xs (Ok c.in-Ok.k)) c.deref.ensures.value c.in-Ok.ensures.position in
    let found = search_finds (λ (p : Piece). p.at) c.args.at c.in-Ok.k c.self.inside.starts.items (walk c.self.inside.units.now).pieces c.self.invariant.begins.named position in
    ap (λ (w : Walk). slice_get w.pieces c.in-Ok.k) (sym c.self.view_is) ∙ sym found ∙ ap (λ (w : Walk). find (λ (p : Piece). p.at == c.args.at) w.pieces) c.self.view_is

pub returns-in-Err-clause-found : goal.returns-in-Err-clause-found
returns-in-Err-clause-found c =
    let position = subst (λ (xs : List ℕ). IsBinarySearchResult (λ y. nat_cmp y c.args.at) xs (Err c.in-Err.field-0)) c.deref.ensures.value c.in-Err.ensures.position in
    let found = search_fails (λ (p : Piece). p.at) c.args.at c.in-Err.field-0 c.self.inside.starts.items (walk c.self.inside.units.now).pieces c.self.invariant.begins.named position in
    sym found ∙ ap (λ (w : Walk). find (λ (p : Piece). p.at == c.args.at) w.pieces) c.self.view_is
