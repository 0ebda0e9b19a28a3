-- The instructions in front, as they are found one by one.
use Rattle.std.proofs.Common.{◌≡◌, ℕ, ◌+◌, ◌<◌, ◌≤◌, List, [], ◌∷◌, ◌++◌, length, get_or, take, drop, true, false, refl, sym, ◌∙◌, ap, add-one, drop-cons, append_assoc}
use Rattle.std.specs.Prelude.{◌==◌, ◌&&◌, nat_lt}
use Rattle.std.proofs.lemmas.List.{take_more, map-append, append-nil, drop_all}
use Rattle.std.proofs.lemmas.Bool.{and_from, eq-eqb, lt-ltb}
use Rattle.pi_model.specs.declared.describe.Line.{Line}
use Rattle.pi_contents.specs.Contents.{LineContent}
use Rattle.pi_contents.specs.Named.{line_content}
use Rattle.pi_classtables.specs.Layout.{front, lines_end}
use Rattle.pi_dexdata.specs.Numbers.{no_text}
use Rattle.pi_dexspelled.specs.Tests.{contents}

-- an instruction of a list and those behind it
pub drop_at : (ls : List Line) (i : ℕ) (l : Line) → i < length ls → l ≡ get_or ls i l
    → contents (drop i ls) ≡ line_content no_text l ∷ contents (drop (i + 1) ls)
drop_at ls i l h e = rw (add-one, drop-cons ls i l, ← e) refl

pub take_at : (ls : List Line) (i : ℕ) (l : Line) → i < length ls → l ≡ get_or ls i l
    → contents (take (i + 1) ls) ≡ contents (take i ls) ++ line_content no_text l ∷ []
take_at ls i l h e = rw (take_more ls i l h, ← e, map-append (line_content no_text) (take i ls) (l ∷ [])) refl

-- so far the instructions stand in front, up to an address
pub record Begun (ls : List Line) (i end : ℕ) : Type 0 where
  pub lines : front 0 (contents ls) ≡ contents (take i ls) ++ front end (contents (drop i ls))
  pub behind : lines_end 0 (front 0 (contents ls)) ≡ lines_end end (front end (contents (drop i ls)))

pub record AreFront (ls : List Line) (i end : ℕ) : Type 0 where
  pub lines : front 0 (contents ls) ≡ contents (take i ls)
  pub behind : lines_end 0 (front 0 (contents ls)) ≡ end

pub begun_first : (ls : List Line) → Begun ls 0 0
begun_first ls = record { lines = refl; behind = refl }

begins : (at end units : ℕ) → at ≡ end → 0 < units → ((at == end) && nat_lt 0 units) ≡ true
begins at end units e some = and_from (at == end) (nat_lt 0 units) (eq-eqb at end e) (lt-ltb 0 units some)

pub begun_more : (ls : List Line) (i end : ℕ) (l : Line) → i < length ls → l ≡ get_or ls i l → l.at ≡ end → 0 < l.units
    → Begun ls i end → Begun ls (i + 1) (end + l.units)
begun_more ls i end l h e at some begun =
    let next : front end (contents (drop i ls)) ≡ line_content no_text l ∷ front (end + l.units) (contents (drop (i + 1) ls)) =
    rw (drop_at ls i l h e, begins l.at end l.units at some) refl in
    record {
      lines = begun.lines ∙ ap (λ (rest : List LineContent). contents (take i ls) ++ rest) next
          ∙ sym (append_assoc (contents (take i ls)) (line_content no_text l ∷ []) (front (end + l.units) (contents (drop (i + 1) ls))))
          ∙ ap (λ (first : List LineContent). first ++ front (end + l.units) (contents (drop (i + 1) ls))) (sym (take_at ls i l h e));
      behind = begun.behind ∙ ap (λ (rest : List LineContent). lines_end end rest) next;
    }

pub begun_stop : (ls : List Line) (i end : ℕ) (l : Line) → i < length ls → l ≡ get_or ls i l → ((l.at == end) && nat_lt 0 l.units) ≡ false
    → Begun ls i end → AreFront ls i end
begun_stop ls i end l h e stops begun =
    let none : front end (contents (drop i ls)) ≡ [] = rw (drop_at ls i l h e, stops) refl in
    record {
      lines = begun.lines ∙ ap (λ (rest : List LineContent). contents (take i ls) ++ rest) none ∙ append-nil (contents (take i ls));
      behind = begun.behind ∙ ap (λ (rest : List LineContent). lines_end end rest) none;
    }

pub begun_all : (ls : List Line) (i end : ℕ) → length ls ≤ i → Begun ls i end → AreFront ls i end
begun_all ls i end h begun =
    let none : front end (contents (drop i ls)) ≡ [] = rw (drop_all i ls h) refl in
    record {
      lines = begun.lines ∙ ap (λ (rest : List LineContent). contents (take i ls) ++ rest) none ∙ append-nil (contents (take i ls));
      behind = begun.behind ∙ ap (λ (rest : List LineContent). lines_end end rest) none;
    }
