-- The lines that a code's units say: its lines again, and a nop before each payload that would stand at an odd address.
use Rattle.std.proofs.Common.{◌≡◌, ℕ, ◌+◌, ◌%◌, ◌^◌, ◌≤◌, ◌==◌, true, false, List, [], ◌∷◌, ◌++◌, Option, Some, None, refl, ◌∙◌, ap, arith, ◌⊎◌, inl, inr}
use Rattle.std.specs.List.{All, AllByRecursion, flat_map}
use Rattle.std.proofs.lemmas.Bool.{cases_Bool}
use Rattle.std.proofs.lemmas.Grind.{flat_map-append}
use Rattle.std.proofs.lemmas.List.Elements.{recursion_from_All}
use Rattle.pi_insn.specs.declared.raw.RawInsn.{RawInsn}
use Rattle.pi_insn.specs.Payloads.{Data}
use Rattle.pi_format.specs.Rules.Pieces.{Piece, Walk, walk}
use Rattle.pi_format.specs.Says.Insns.{insn_of}
use Rattle.pi_dextables.specs.declared.tables.Class.{Class}
use Rattle.pi_contents.specs.Contents.{LineContent}
use Rattle.pi_contents.specs.Named.{bare}
use Rattle.pi_tablesaid.specs.Content.{naming_said, line_said, lines_said}
use Rattle.pi_classtables.specs.Numbers.{Pools}
use Rattle.pi_classtables.specs.Layout.{data_of, next_data, data_end, lines_end, code_units, lines_follow, pad_line, pad_lines}
use Rattle.pi_classtables.specs.Whole.{tables_with}
use Rattle.pi_classtables.specs.Sized.{LineSized}
use Rattle.pi_classlaws.proofs.Known.{HoldsNaming}
use Rattle.pi_classlaws.proofs.LinesFormed.{IsFormed, AreFormed, line_piece, line_pieces, follows}
use Rattle.pi_classlaws.proofs.PayloadsLaid.{PayloadReads, padded_pieces, laid_pieces, data_pieces}
use Rattle.pi_classlaws.proofs.PayloadsFound.{AreFound, end_behind, next_behind}
use Rattle.pi_classlaws.proofs.LineAgain.{FoundFor, data_end_behind, insn_said_again, naming_said_again}
use Rattle.pi_classlaws.proofs.WalkAgain.{code_pieces, code_walked}

-- what is asked of a line: its numbers, what it names, and that its payload is read again
pub record IsKnown (p : Pools) (listed : List ℕ) (said : LineContent → Data) (l : LineContent) : Type 0 where
  pub sized : LineSized l
  pub held : HoldsNaming p l.naming
  pub reads : PayloadReads listed said l

module _ (p : Pools) (classes : List Class) (listed : List ℕ) (said : LineContent → Data) (pieces : List Piece) where
  line_again : (payload : ℕ) (l : LineContent) (i : RawInsn) (units : List ℕ) → IsFormed p listed payload l i units → IsKnown p listed said l
      → l.at ≤ payload → next_data payload (data_of listed l) ≤ 2 ^ 31 → FoundFor pieces listed said payload l
      → line_said (tables_with p classes) pieces (line_piece l i) ≡ l ∷ []
  line_again payload l i units formed known behind near found =
      let same = insn_said_again p listed said pieces payload l i units formed known.sized known.reads behind near found in
      let names = naming_said_again p listed said pieces classes payload l i units formed known.sized known.held in
      ap (λ x. record { at = l.at; units = l.units; insn = x; naming = naming_said (tables_with p classes) i.body } ∷ []) same
      ∙ ap (λ n. record { at = l.at; units = l.units; insn = l.insn; naming = n } ∷ []) names

  each_again : (payload at : ℕ) (ls : List LineContent) (is : List RawInsn) (units : List ℕ) → AreFormed p listed payload ls is units
      → lines_follow at ls ≡ true → lines_end at ls ≤ payload → data_end listed payload ls ≤ 2 ^ 31 → AreFound pieces listed said payload ls
      → AllByRecursion (IsKnown p listed said) ls → flat_map (line_said (tables_with p classes) pieces) (line_pieces ls is) ≡ ls
  each_again payload at [] is units formed follow behind near found known = refl
  each_again payload at (l ∷ ls) [] units formed follow behind near found known = absurd formed
  each_again payload at (l ∷ ls) (i ∷ is) units formed follow behind near found known =
      let f = follows at l ls follow in
      let next = next_data payload (data_of listed l) in
      let more = next_behind payload (data_of listed l) in
      let ends = end_behind (at + l.units) ls in
      let first = line_again payload l i formed.0 formed.3 known.0 (omega (arith, f.begins, ends, behind))
      (omega (arith, data_end_behind listed next ls, near)) found.0 in
      let others = each_again next (at + l.units) ls is formed.1 formed.4 f.later (omega (arith, behind, more)) near found.1 known.1 in
      ap (λ (ms : List LineContent). ms ++ flat_map (line_said (tables_with p classes) pieces) (line_pieces ls is)) first ∙ ap (λ (ms : List LineContent). l ∷ ms) others

  padded_said : (at : ℕ) (d : Data) (u : ℕ) (us : List ℕ) → flat_map (line_said (tables_with p classes) pieces) (padded_pieces at d) ≡ pad_line at (u ∷ us)
  unfolding insn_of bare naming_said
  padded_said at d u us = by_place (cases_Bool (at % 2 == 0))
    where
      by_place : ((at % 2 == 0) ≡ true) ⊎ ((at % 2 == 0) ≡ false)
          → flat_map (line_said (tables_with p classes) pieces) (padded_pieces at d) ≡ pad_line at (u ∷ us)
      by_place (inl even) = rw even refl
      by_place (inr odd) = rw odd refl

  laid_said : (at : ℕ) (units : List ℕ) (d : Data) → flat_map (line_said (tables_with p classes) pieces) (laid_pieces at units d) ≡ pad_line at units
  laid_said at [] d = refl
  laid_said at (u ∷ us) d = padded_said at d u us

  pads_said : (at : ℕ) (ls : List LineContent) → flat_map (line_said (tables_with p classes) pieces) (data_pieces listed said at ls) ≡ pad_lines listed at ls
  pads_said at [] = refl
  pads_said at (l ∷ ls) =
      let next = next_data at (data_of listed l) in
      flat_map-append (line_said (tables_with p classes) pieces) (laid_pieces at (data_of listed l) (said l)) (data_pieces listed said next ls)
      ∙ ap (λ (ms : List LineContent). ms ++ flat_map (line_said (tables_with p classes) pieces) (data_pieces listed said next ls)) (laid_said at (data_of listed l) (said l))
      ∙ ap (λ (ms : List LineContent). pad_line at (data_of listed l) ++ ms) (pads_said next ls)

-- by the pieces of a walk
by_walk : (p : Pools) (classes : List Class) (units : List ℕ) (pieces : List Piece) (stop : Option ℕ) → walk units ≡ record { pieces = pieces; stop = stop }
    → lines_said (tables_with p classes) units ≡ flat_map (line_said (tables_with p classes) pieces) pieces
unfolding lines_said
by_walk p classes units pieces stop is =
    ap (λ (w : Walk). flat_map (line_said (tables_with p classes) w.pieces) w.pieces) is

pub lines_said_again : (p : Pools) (classes : List Class) (listed : List ℕ) (said : LineContent → Data) (lines : List LineContent) (units : List ℕ)
    → lines_follow 0 lines ≡ true → data_end listed (lines_end 0 lines) lines ≤ 2 ^ 31 → All (IsKnown p listed said) lines → code_units p listed lines ≡ Some units
    → lines_said (tables_with p classes) units ≡ lines ++ pad_lines listed (lines_end 0 lines) lines
lines_said_again p classes listed said lines units follow near known e =
    let end = lines_end 0 lines in
    let reads : All (PayloadReads listed said) lines = λ k d less. (known k d less).reads in
    let w = code_walked p listed said lines units follow reads e in
    let pieces = code_pieces listed said lines w.insns in
    let say = line_said (tables_with p classes) pieces in
    let all = recursion_from_All (IsKnown p listed said) lines known in
    by_walk p classes units pieces None w.walked
    ∙ flat_map-append say (line_pieces lines w.insns) (data_pieces listed said end lines)
    ∙ ap (λ (ms : List LineContent). ms ++ flat_map say (data_pieces listed said end lines))
    (each_again p classes listed said pieces end 0 lines w.insns w.front w.formed follow (omega arith) near w.found all)
    ∙ ap (λ (ms : List LineContent). lines ++ ms) (pads_said p classes listed said pieces end lines)
