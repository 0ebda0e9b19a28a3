-- The walk over the units of a code: an instruction for each line, and behind them the payloads.
use Rattle.std.proofs.Common.{◌≡◌, ℕ, ◌+◌, ◌%◌, ◌==◌, true, false, List, [], ◌∷◌, ◌++◌, length, Some, None, refl, sym, ◌∙◌, ap, arith, ◌⊎◌, inl, inr, length-append}
use Rattle.std.specs.List.{All}
use Rattle.std.proofs.lemmas.Bool.{cases_Bool, eqb-true, eqb-false}
use Rattle.std.proofs.lemmas.List.Elements.{recursion_from_All}
use Rattle.pi_insn.specs.declared.raw.RawInsn.{RawInsn}
use Rattle.pi_insn.specs.Payloads.{Data}
use Rattle.pi_insn.proofs.Steps.{bind_some}
use Rattle.pi_format.specs.Rules.Pieces.{Piece, walk}
use Rattle.pi_contents.specs.Contents.{LineContent}
use Rattle.pi_classtables.specs.Numbers.{Pools}
use Rattle.pi_classtables.specs.Layout.{data_of, data_place, padded, laid_data, next_data, all_data, data_end, lines_end, lines_units, code_units, lines_follow}
use Rattle.pi_classlaws.proofs.Walks.{whole_walk}
use Rattle.pi_classlaws.proofs.LinesFormed.{AreFormed, lines_formed, line_pieces, lines_walk}
use Rattle.pi_classlaws.proofs.PayloadsLaid.{PayloadReads, data_pieces, data_walk}
use Rattle.pi_classlaws.proofs.PayloadsFound.{lines_before, AreFound, all_found}

-- the pieces of a code, by the instructions that its lines became and by what its payloads say
abbrev pub code_pieces : List ℕ → (LineContent → Data) → List LineContent → List RawInsn → List Piece
code_pieces listed said lines insns = line_pieces lines insns ++ data_pieces listed said (lines_end 0 lines) lines

pub record IsWalked (p : Pools) (listed : List ℕ) (said : LineContent → Data) (lines : List LineContent) (units : List ℕ) : Type 0 where
  pub insns : List RawInsn
  pub front : List ℕ
  pub formed : AreFormed p listed (lines_end 0 lines) lines insns front
  pub are : units ≡ front ++ all_data listed (lines_end 0 lines) lines
  pub walked : walk units ≡ record { pieces = code_pieces listed said lines insns; stop = None }
  pub found : AreFound (code_pieces listed said lines insns) listed said (lines_end 0 lines) lines

pub code_walked : (p : Pools) (listed : List ℕ) (said : LineContent → Data) (lines : List LineContent) (units : List ℕ) → lines_follow 0 lines ≡ true
    → All (PayloadReads listed said) lines → code_units p listed lines ≡ Some units → IsWalked p listed said lines units
unfolding code_units
code_walked p listed said lines units follow reads e =
    let end = lines_end 0 lines in
    let first = bind_some (lines_units p listed end lines) (λ front. Some (front ++ all_data listed end lines)) units e in
    let formed = lines_formed p listed end lines first.0 first.1.0 in
    let joined : first.0 ++ all_data listed end lines ≡ units = cc in
    let behind = data_walk listed said end lines (recursion_from_All (PayloadReads listed said) lines reads) in
    let walks = lines_walk p listed end 0 lines formed.0 first.0 (all_data listed end lines) (data_pieces listed said end lines) formed.1 follow behind in
    record {
      insns = formed.0;
      front = first.0;
      formed = formed.1;
      are = sym joined;
      walked = ap walk (sym joined) ∙ whole_walk (first.0 ++ all_data listed end lines) (code_pieces listed said lines formed.0) walks;
      found = all_found (line_pieces lines formed.0) listed said end lines (lines_before 0 lines formed.0 follow);
    }

-- so it ends behind the last piece
pub walk_ends : (p : Pools) (listed : List ℕ) (said : LineContent → Data) (lines : List LineContent) (units : List ℕ) → lines_follow 0 lines ≡ true
    → All (PayloadReads listed said) lines → code_units p listed lines ≡ Some units → (walk units).stop ≡ None
walk_ends p listed said lines units follow reads e = rw (code_walked p listed said lines units follow reads e).walked refl

-- the units of a code are as many as its lines and payloads take
front_long : (p : Pools) (listed : List ℕ) (payload at : ℕ) (ls : List LineContent) (is : List RawInsn) (units : List ℕ) → AreFormed p listed payload ls is units
    → at + length units ≡ lines_end at ls
front_long p listed payload at [] [] units formed = rw formed (omega arith)
front_long p listed payload at [] (i ∷ is) units formed = absurd formed
front_long p listed payload at (l ∷ ls) [] units formed = absurd formed
front_long p listed payload at (l ∷ ls) (i ∷ is) units formed =
    let others = front_long p listed (next_data payload (data_of listed l)) (at + l.units) ls is formed.1 formed.4 in
    omega (arith, others, formed.3.long, length-append formed.0 formed.1, ap length formed.2)

padded_long : (at : ℕ) (units : List ℕ) → at + length (padded at units) ≡ data_place at + length units
padded_long at units = by_place (cases_Bool (at % 2 == 0))
  where
    by_place : ((at % 2 == 0) ≡ true) ⊎ ((at % 2 == 0) ≡ false) → at + length (padded at units) ≡ data_place at + length units
    by_place (inl even) = rw even (omega (arith, eqb-true (at % 2) 0 even))
    by_place (inr odd) = let uneven = eqb-false (at % 2) 0 odd in rw odd (omega (arith, uneven))

laid_long : (at : ℕ) (units : List ℕ) → at + length (laid_data at units) ≡ next_data at units
laid_long at [] = omega arith
laid_long at (u ∷ us) = padded_long at (u ∷ us)

data_long : (listed : List ℕ) (at : ℕ) (ls : List LineContent) → at + length (all_data listed at ls) ≡ data_end listed at ls
data_long listed at [] = omega arith
data_long listed at (l ∷ ls) =
    let next = next_data at (data_of listed l) in
    omega (arith, laid_long at (data_of listed l), data_long listed next ls, length-append (laid_data at (data_of listed l)) (all_data listed next ls))

pub code_long : (p : Pools) (listed : List ℕ) (lines : List LineContent) (units : List ℕ) → code_units p listed lines ≡ Some units
    → length units ≡ data_end listed (lines_end 0 lines) lines
unfolding code_units
code_long p listed lines units e =
    let end = lines_end 0 lines in
    let first = bind_some (lines_units p listed end lines) (λ front. Some (front ++ all_data listed end lines)) units e in
    let formed = lines_formed p listed end lines first.0 first.1.0 in
    let joined : first.0 ++ all_data listed end lines ≡ units = cc in
    omega (arith, ap length joined, length-append first.0 (all_data listed end lines), front_long p listed end 0 lines formed.0 first.0 formed.1, data_long listed end lines)
