-- Units that stand one behind the other make up a walk, from the last piece to the first.
use Rattle.std.proofs.Common.{◌≡◌, ℕ, zero, suc, ◌+◌, ◌<◌, ◌≤◌, List, [], ◌∷◌, ◌++◌, length, drop, Some, None, refl, ◌∙◌, ap, arith, length-append}
use Rattle.pi_format.specs.Rules.Pieces.{Piece, front_piece, with_piece, walk_from, walk}

-- the walk over units from an address on has such pieces and ends behind the last
pub record WalksTo (at : ℕ) (units : List ℕ) (pieces : List Piece) : Type 0 where
  pub walked : (more : ℕ) → length units ≤ more → walk_from more at units ≡ record { pieces = pieces; stop = None }

pub walks_end : (at : ℕ) → WalksTo at [] []
walks_end at = record { walked = λ more long. nothing more }
  where
    nothing : (more : ℕ) → walk_from more at [] ≡ record { pieces = []; stop = None }
    nothing zero = refl
    nothing (suc more) = refl

drop_front : (front rest : List ℕ) → drop (length front) (front ++ rest) ≡ rest
drop_front [] rest = refl
drop_front (u ∷ us) rest = drop_front us rest

-- one step, for what stands at the front
first_step : (more at : ℕ) (units : List ℕ) (p : Piece) → 0 < length units → front_piece at units ≡ Some p
    → walk_from (suc more) at units ≡ with_piece p (walk_from more (at + p.units) (drop p.units units))
first_step more at [] p some e = absurd (omega arith)
first_step more at (u ∷ units) p some e = rw e refl

pub walks_on : (at : ℕ) (front rest : List ℕ) (p : Piece) (pieces : List Piece) → front_piece at (front ++ rest) ≡ Some p → p.units ≡ length front → 0 < length front
    → WalksTo (at + length front) rest pieces → WalksTo at (front ++ rest) (p ∷ pieces)
walks_on at front rest p pieces found long some later = record { walked = λ more enough. by_count more enough }
  where
    by_count : (more : ℕ) → length (front ++ rest) ≤ more → walk_from more at (front ++ rest) ≡ record { pieces = p ∷ pieces; stop = None }
    by_count zero enough = absurd (omega (arith, length-append front rest))
    by_count (suc more) enough =
        let step = first_step more at (front ++ rest) p (omega (arith, length-append front rest)) found in
        let behind : drop p.units (front ++ rest) ≡ rest = ap (λ (n : ℕ). drop n (front ++ rest)) long ∙ drop_front front rest in
        let next : walk_from more (at + length front) rest ≡ record { pieces = pieces; stop = None } = later.walked more (omega (arith, length-append front rest)) in
        step
        ∙ ap (λ (us : List ℕ). with_piece p (walk_from more (at + p.units) us)) behind
        ∙ ap (λ (n : ℕ). with_piece p (walk_from more (at + n) rest)) long
        ∙ ap (with_piece p) next

pub whole_walk : (units : List ℕ) (pieces : List Piece) → WalksTo 0 units pieces → walk units ≡ record { pieces = pieces; stop = None }
unfolding walk
whole_walk units pieces walks = walks.walked (length units) (omega arith)
