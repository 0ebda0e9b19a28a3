-- The list of a range.
use Rattle.std.proofs.Common.{◌≡◌, ℕ, ◌+◌, List, Bool, ap, ◌∙◌}
use Rattle.pi_format.specs.Rules.CodeItems.{CodeHead, HandlerList, tries_at, lists_at, try_range, is_list_at}

-- the list of a range is one of these
abbrev pub has_list : List ℕ → ℕ → CodeHead → List HandlerList → ℕ → Bool
has_list file at head lists k = is_list_at lists (lists_at at head + (try_range file (tries_at at head) k).handlers)

pub has_it : (file : List ℕ) (at : ℕ) (head : CodeHead) (lists : List HandlerList) (k begin place : ℕ) (r : Bool) → begin ≡ tries_at at head → place ≡ lists_at at head
    → r ≡ is_list_at lists (place + (try_range file begin k).handlers) → r ≡ has_list file at head lists k
has_it file at head lists k begin place r b p e =
    e ∙ ap (λ (n : ℕ). is_list_at lists (n + (try_range file begin k).handlers)) p
    ∙ ap (λ (n : ℕ). is_list_at lists (lists_at at head + (try_range file n k).handlers)) b
