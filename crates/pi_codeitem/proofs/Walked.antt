-- What one more piece leaves of the walk.
use Rattle.std.proofs.Common.{◌≡◌, ℕ, zero, suc, ◌+◌, ◌-◌, ◌<◌, ◌≤◌, List, [], ◌∷◌, ◌++◌, length, drop, map, Option, Some, None, refl, sym, ap, ◌∙◌, arith, subst, append_assoc, length-append, length-drop, drop-drop}
use Rattle.std.proofs.Math.ListN.{drop_of_length-le}
use Rattle.std.proofs.lemmas.List.{append-nil, map-append}
use Rattle.pi_bytes.specs.Numbers.{most_bytes, word_end}
use Rattle.pi_format.specs.Rules.Pieces.{Piece, Walk, front_piece, with_piece, walk_from, walk}
use Rattle.pi_codeitem.specs.Asking.{asker}
use Rattle.pi_codeitem.specs.Keeping.{IsWalk}
use Rattle.pi_codeitem.specs.Places.{ArePlaces, AreBelow}
use Rattle.pi_codeitem.proofs.Finds.{no_places, below_push, places_push}

-- pieces before those of a walk
abbrev pub prepended : List Piece → Walk → Walk
prepended pieces w = record { pieces = pieces ++ w.pieces; stop = w.stop }

pub step : (more at : ℕ) (units : List ℕ) (p : Piece) → 0 < length units → front_piece at units ≡ Some p
    → walk_from (suc more) at units ≡ with_piece p (walk_from more (at + p.units) (drop p.units units))
step more at [] p some e = absurd (omega arith)
step more at (u ∷ units) p some e = rw e refl

pub halt : (more at : ℕ) (units : List ℕ) → 0 < length units → front_piece at units ≡ None → walk_from (suc more) at units ≡ record { pieces = []; stop = Some at }
halt more at [] some e = absurd (omega arith)
halt more at (u ∷ units) some e = rw e refl

abbrev laid : List Piece → Option ℕ → Walk
laid ps stop = record { pieces = ps; stop = stop }

prepend_with : (done : List Piece) (p : Piece) (w : Walk) → prepended (done ++ p ∷ []) w ≡ prepended done (with_piece p w)
prepend_with done p w = ap (λ (ps : List Piece). laid ps w.stop) (append_assoc done (p ∷ []) w.pieces)

drop_more : (n m : ℕ) (units : List ℕ) → drop (n + m) units ≡ drop m (drop n units)
drop_more n m units = sym (drop-drop m n units)

pub walk_goes : (units : List ℕ) (at : ℕ) (done : List Piece) (p : Piece) → at < length units → length done ≤ at → front_piece at (drop at units) ≡ Some p
    → prepended (done ++ p ∷ []) (walk_from (length units - length (done ++ p ∷ [])) (at + p.units) (drop (at + p.units) units))
    ≡ prepended done (walk_from (length units - length done) at (drop at units))
walk_goes units at done p lt few e =
    let left = length units - length (done ++ p ∷ []) in
    let more : length units - length done ≡ suc left = omega (arith, length-append done (p ∷ [])) in
    let some : 0 < length (drop at units) = omega (arith, length-drop at units) in
    let s = step left at (drop at units) p some e in
    prepend_with done p (walk_from left (at + p.units) (drop (at + p.units) units))
    ∙ ap (λ (us : List ℕ). prepended done (with_piece p (walk_from left (at + p.units) us))) (drop_more at p.units units)
    ∙ ap (prepended done) (sym s ∙ ap (λ (n : ℕ). walk_from n at (drop at units)) (sym more))

pub walk_stops : (units : List ℕ) (at : ℕ) (done : List Piece) → at < length units → length done ≤ at → front_piece at (drop at units) ≡ None
    → prepended done (walk_from (length units - length done) at (drop at units)) ≡ record { pieces = done; stop = Some at }
walk_stops units at done lt few e =
    let left = length units - suc (length done) in
    let more : length units - length done ≡ suc left = omega arith in
    let some : 0 < length (drop at units) = omega (arith, length-drop at units) in
    rw (more, halt left at (drop at units) some e, append-nil done) refl

-- pieces that stand before an address, with their addresses and askers, and what the rest of the walk is
pub record AreWalked (units : List ℕ) (at : ℕ) (starts : List ℕ) (askers : List (Option ℕ)) : Type 0 where
  pub pieces : List Piece
  pub places : ArePlaces (λ (p : Piece). p.at) starts pieces
  pub asked : askers ≡ map (λ (p : Piece). asker p.what) pieces
  pub below : AreBelow at starts
  pub few : length pieces ≤ at
  pub inside : at ≤ length units
  pub so_far : prepended pieces (walk_from (length units - length pieces) at (drop at units)) ≡ walk units

pub walked_none : (units : List ℕ) → AreWalked units 0 [] []
unfolding walk
walked_none units =
    let all : length units - 0 ≡ length units = omega arith in
    record {
      pieces = [];
      places = no_places (λ (p : Piece). p.at);
      asked = refl;
      below = record { each = λ k len. absurd (omega arith) };
      few = omega arith;
      inside = omega arith;
      so_far = rw all refl;
    }

pub walked_more : (units : List ℕ) (at : ℕ) (starts : List ℕ) (askers : List (Option ℕ)) (p : Piece) → AreWalked units at starts askers → at < length units
    → Some p ≡ front_piece at (drop at units) → p.at ≡ at → at + p.units ≤ length units → 1 ≤ p.units
    → AreWalked units (at + p.units) (starts ++ p.at ∷ []) (askers ++ asker p.what ∷ [])
walked_more units at starts askers p are lt found begins inside some = record {
  pieces = are.pieces ++ p ∷ [];
  places = places_push (λ (p : Piece). p.at) at p.at starts are.pieces p are.places are.below (omega arith) refl;
  asked = rw (are.asked, map-append (λ (p : Piece). asker p.what) are.pieces (p ∷ [])) refl;
  below = below_push at (at + p.units) p.at starts are.below (omega arith) (omega arith);
  few = omega (arith, are.few, length-append are.pieces (p ∷ []));
  inside = inside;
  so_far = walk_goes units at are.pieces p lt are.few (sym found) ∙ are.so_far;
}

below_end : (n m : ℕ) (xs : List ℕ) → AreBelow n xs → n ≤ m → AreBelow m xs
below_end n m xs below le = record { each = λ k len. omega (arith, below.each k len) }

-- a walk that ended with such pieces, and a stop
ended : (units : List ℕ) (at : ℕ) (starts : List ℕ) (askers : List (Option ℕ)) (stop : Option ℕ) (are : AreWalked units at starts askers) → length units ≤ most_bytes
    → laid are.pieces stop ≡ walk units → IsWalk units starts askers stop
ended units at starts askers stop are few whole = record {
  few = few;
  begins = record {
    named = subst (λ (w : Walk). ArePlaces (λ (p : Piece). p.at) starts w.pieces) whole are.places;
    small = below_end at word_end starts are.below (omega (arith, few, are.inside));
  };
  asked = are.asked ∙ ap (λ (w : Walk). map (λ (p : Piece). asker p.what) w.pieces) whole;
  stops = ap (λ (w : Walk). w.stop) whole;
}

pub walk_stopped : (units : List ℕ) (at : ℕ) (starts : List ℕ) (askers : List (Option ℕ)) → AreWalked units at starts askers → length units ≤ most_bytes → at < length units
    → front_piece at (drop at units) ≡ None → IsWalk units starts askers (Some at)
walk_stopped units at starts askers are few lt found =
    ended units at starts askers (Some at) are few (sym (walk_stops units at are.pieces lt are.few found) ∙ are.so_far)

pub walk_ended : (units : List ℕ) (at : ℕ) (starts : List ℕ) (askers : List (Option ℕ)) → AreWalked units at starts askers → length units ≤ most_bytes → length units ≤ at
    → IsWalk units starts askers None
walk_ended units at starts askers are few le =
    let none : drop at units ≡ [] = drop_of_length-le units le in
    let rest : prepended are.pieces (walk_from (length units - length are.pieces) at (drop at units)) ≡ laid are.pieces None =
    rw none (nothing (length units - length are.pieces)) in
    ended units at starts askers None are few (sym rest ∙ are.so_far)
  where
    nothing : (more : ℕ) → prepended are.pieces (walk_from more at []) ≡ laid are.pieces None
    nothing zero = ap (λ (ps : List Piece). laid ps None) (append-nil are.pieces)
    nothing (suc more) = ap (λ (ps : List Piece). laid ps None) (append-nil are.pieces)
