-- Each piece of a walk stands where it begins.
use Rattle.std.proofs.Common.{◌≡◌, ℕ, zero, suc, ◌+◌, ◌<◌, List, [], ◌∷◌, length, drop, get_or, map, Option, Some, None, refl, sym, ap, ◌∙◌, arith, subst, length-drop, drop-drop}
use Rattle.std.specs.Prelude.{slice_get}
use Rattle.std.proofs.lemmas.Option.{slice_get-map, get_or_from_slice_get}
use Rattle.pi_format.specs.Rules.Pieces.{Piece, Walk, front_piece, walk_from, walk}
use Rattle.pi_codeitem.specs.Keeping.{IsWalk}
use Rattle.pi_codeitem.proofs.Askers.{there}
use Rattle.pi_codeitem.proofs.Filled.{front_size}
use Rattle.pi_codeitem.proofs.Walked.{step, halt}

-- a piece stands in the units where it begins
pub record Stands (units : List ℕ) (p : Piece) : Type 0 where
  pub inside : p.at < length units
  pub front : front_piece p.at (drop p.at units) ≡ Some p

stands_step : (units : List ℕ) (more at : ℕ) (o : Option Piece) → front_piece at (drop at units) ≡ o → at < length units
    → ((n k : ℕ) (p : Piece) → slice_get (walk_from more (at + n) (drop (at + n) units)).pieces k ≡ Some p → Stands units p)
    → (k : ℕ) (p : Piece) → slice_get (walk_from (suc more) at (drop at units)).pieces k ≡ Some p → Stands units p
stands_step units more at None found lt later k p is =
    let some : 0 < length (drop at units) = omega (arith, length-drop at units) in
    let none : slice_get [] k ≡ Some p = subst (λ (w : Walk). slice_get w.pieces k ≡ Some p) (halt more at (drop at units) some found) is in
    cc
stands_step units more at (Some q) found lt later k p is =
    let some : 0 < length (drop at units) = omega (arith, length-drop at units) in
    by_number k (subst (λ (w : Walk). slice_get w.pieces k ≡ Some p) (step more at (drop at units) q some found) is)
  where
    rest : Walk
    rest = walk_from more (at + q.units) (drop q.units (drop at units))

    by_number : (k : ℕ) → slice_get (q ∷ rest.pieces) k ≡ Some p → Stands units p
    by_number zero e =
        let same : q ≡ p = cc in
        let begins : q.at ≡ at = (front_size at (drop at units) q found).0 in
        subst (Stands units) same (record {
          inside = omega (arith, begins, lt);
          front = subst (λ (n : ℕ). front_piece n (drop n units) ≡ Some q) (sym begins) found;
        })
    by_number (suc k) e =
        later q.units k p (subst (λ (us : List ℕ). slice_get (walk_from more (at + q.units) us).pieces k ≡ Some p) (drop-drop q.units at units) e)

stands_from : (units : List ℕ) (more at : ℕ) (us : List ℕ) → drop at units ≡ us → (k : ℕ) (p : Piece) → slice_get (walk_from more at us).pieces k ≡ Some p → Stands units p
stands_from units more at [] e k p is = cc
stands_from units zero at (u ∷ us) e k p is = cc
stands_from units (suc more) at (u ∷ us) e k p is =
    let lt : at < length units = omega (arith, length-drop at units, ap length e) in
    stands_step units more at (front_piece at (drop at units)) refl lt (λ n k p found. stands_from units more (at + n) (drop (at + n) units) refl k p found) k p
    (subst (λ (us : List ℕ). slice_get (walk_from (suc more) at us).pieces k ≡ Some p) (sym e) is)

pub walk_stands : (units : List ℕ) (k : ℕ) (p : Piece) → slice_get (walk units).pieces k ≡ Some p → Stands units p
unfolding walk
walk_stands units k p is = stands_from units (length units) 0 units refl k p is

-- the piece with a number, by the address at which it begins
pub record StandsAt (units : List ℕ) (k at : ℕ) : Type 0 where
  pub inside : at < length units
  pub piece : Piece
  pub found : slice_get (walk units).pieces k ≡ Some piece
  pub front : front_piece at (drop at units) ≡ Some piece

pub numbered : (units starts : List ℕ) (askers : List (Option ℕ)) (stop : Option ℕ) (k at : ℕ) → IsWalk units starts askers stop → k < length (walk units).pieces
    → at ≡ get_or starts k at → StandsAt units k at
numbered units starts askers stop k at is lt begins =
    let p = there (walk units).pieces k lt in
    let stands = walk_stands units k p.0 p.1 in
    let mapped : slice_get (map (λ (p : Piece). p.at) (walk units).pieces) k ≡ Some p.0.at = slice_get-map (λ (p : Piece). p.at) (walk units).pieces k ∙ rw p.1 refl in
    let found = get_or_from_slice_get (map (λ (p : Piece). p.at) (walk units).pieces) k p.0.at at mapped in
    let place : at ≡ p.0.at = begins ∙ ap (λ (xs : List ℕ). get_or xs k at) is.begins.named.named ∙ found in
    record {
      inside = omega (arith, place, stands.inside);
      piece = p.0;
      found = p.1;
      front = subst (λ (n : ℕ). front_piece n (drop n units) ≡ Some p.0) (sym place) stands.front;
    }
