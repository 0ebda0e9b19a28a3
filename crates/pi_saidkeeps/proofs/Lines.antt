-- The instructions of each code lie one behind the other: payloads stand between them.
use Rattle.std.proofs.Common.{◌≡◌, ℕ, zero, suc, ◌+◌, ◌<◌, ◌≤◌, List, [], ◌∷◌, length, drop, map, Option, Some, None, true, refl, sym, subst, arith, length-drop}
use Rattle.std.specs.Prelude.{◌&&◌, nat_lt, nat_le, IsTrue}
use Rattle.std.specs.List.{flat_map, list_all}
use Rattle.std.proofs.lemmas.Bool.{and_from, lt-ltb, le-leb}
use Rattle.pi_model.specs.declared.numbers.NameNo.{NameNo}
use Rattle.pi_model.specs.Program.{Program}
use Rattle.pi_bytes.specs.Numbers.{word_at}
use Rattle.pi_bytes.proofs.Halves.{length_halves}
use Rattle.pi_format.specs.Rules.{broken_rule}
use Rattle.pi_format.specs.Rules.Pieces.{Piece, What, Instruction, Payload, Walk, front_piece, walk_from, walk, code_units, code_walk, unit_of}
use Rattle.pi_format.specs.Says.{named_file, with_said}
use Rattle.pi_format.specs.Says.Names.{Named}
use Rattle.pi_format.specs.Says.Codes.{line_of, code_at}
use Rattle.pi_format.specs.Says.Classes.{classes_said}
use Rattle.pi_format.proofs.Held.{rule_parts, content_holds}
use Rattle.pi_contents.specs.Contents.{LineContent, MethodContent}
use Rattle.pi_contents.specs.Named.{line_content, code_content, text_in, content_in}
use Rattle.pi_contents.specs.Asked.{lines_lie, code_lies, codes_lie}
use Rattle.pi_saidkeeps.specs.Chains.{AreBytes}
use Rattle.pi_saidkeeps.proofs.Pieces.{front_is, step, halt}
use Rattle.pi_saidkeeps.proofs.Methods.{each_method, with_code}

-- the lines of some of the pieces of a code
abbrev contents : (NameNo → List ℕ) → Named → List Piece → List Piece → List LineContent
contents text n all pieces = map (line_content text) (flat_map (line_of n all) pieces)

-- a piece before others, behind a place where an earlier line ends
one_more : (text : NameNo → List ℕ) (n : Named) (all : List Piece) (end start at units : ℕ) (what : What) (others : List Piece)
    → start ≤ at → 1 ≤ units → ((s : ℕ) → s ≤ at + units → lines_lie end s (contents text n all others) ≡ true)
    → lines_lie end start (contents text n all (record { at = at; units = units; what = what } ∷ others)) ≡ true
one_more text n all end start at units (Payload d) others le some later = later start (omega arith)
one_more text n all end start at units (Instruction i) others le some later =
    and_from (nat_le start at) (nat_lt 0 units && lines_lie end (at + units) (contents text n all others)) (le-leb start at le)
    (and_from (nat_lt 0 units) (lines_lie end (at + units) (contents text n all others)) (lt-ltb 0 units some) (later (at + units) (omega arith)))

lie_step : (text : NameNo → List ℕ) (n : Named) (all : List Piece) (end more at : ℕ) (units : List ℕ) (o : Option Piece) → front_piece at units ≡ o → 0 < length units
    → at + length units ≤ end
    → ((k s : ℕ) → k ≤ length units → s ≤ at + k → lines_lie end s (contents text n all (walk_from more (at + k) (drop k units)).pieces) ≡ true)
    → (start : ℕ) → start ≤ at → lines_lie end start (contents text n all (walk_from (suc more) at units).pieces) ≡ true
lie_step text n all end more at units None found some inside later start le =
    subst (λ (w : Walk). lines_lie end start (contents text n all w.pieces) ≡ true) (sym (halt more at units some found)) (le-leb start end (omega arith))
lie_step text n all end more at units (Some p) found some inside later start le =
    let front = front_is at units p found in
    let begins : p.at ≡ at = front.begins in
    let few = front.inside in
    subst (λ (w : Walk). lines_lie end start (contents text n all w.pieces) ≡ true) (sym (step more at units p some found))
    (one_more text n all end start p.at p.units p.what (walk_from more (at + p.units) (drop p.units units)).pieces (omega arith) front.some
    (λ s less. later p.units s few (omega arith)))

lie_from : (text : NameNo → List ℕ) (n : Named) (all : List Piece) (end more at : ℕ) (units : List ℕ) → at + length units ≤ end
    → (start : ℕ) → start ≤ at → lines_lie end start (contents text n all (walk_from more at units).pieces) ≡ true
lie_from text n all end more at [] inside start le = le-leb start end (omega arith)
lie_from text n all end zero at (u ∷ units) inside start le = le-leb start end (omega arith)
lie_from text n all end (suc more) at (u ∷ units) inside start le =
    lie_step text n all end more at (u ∷ units) (front_piece at (u ∷ units)) refl (omega arith) inside
    (λ k s few less. lie_from text n all end more (at + k) (drop k (u ∷ units)) (omega (arith, length-drop k (u ∷ units))) s less) start le

code_is : (text : NameNo → List ℕ) (n : Named) (at : ℕ) → code_lies (Some (code_content text (code_at n at))) ≡ true
unfolding code_at walk
code_is text n at =
    let units = code_units n.file at in
    let long : length units ≡ word_at n.file (at + 12) = length_halves n.file (at + 16) (word_at n.file (at + 12)) in
    lie_from text n (code_walk n.file at).pieces (word_at n.file (at + 12)) (length units) 0 units (omega arith) 0 (omega arith)

-- X21: the codes of all methods lie so
pub lines_hold : (p : Program) (file : List ℕ) (number : ℕ) → AreBytes file → broken_rule file ≡ None
    → IsTrue (list_all codes_lie (map (content_in (with_said p file)) (classes_said (named_file p file) number)))
lines_hold p file number bytes kept =
    let content = content_holds file (rule_parts file kept).1 in
    each_method p file number (λ row. unit_of row.code (code_walk file row.code).stop) (λ (m : MethodContent). code_lies m.code) content.walk
    (λ row is. with_code (text_in (with_said p file)) (named_file p file) code_lies (λ row. unit_of row.code (code_walk file row.code).stop) row is.code refl
    (λ none. code_is (text_in (with_said p file)) (named_file p file) row.code))
