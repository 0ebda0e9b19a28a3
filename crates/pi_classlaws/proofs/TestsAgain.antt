-- What is asked of each instruction of a code: that its index names an entry, and that its payload fits.
use Rattle.std.proofs.Common.{◌≡◌, ℕ, ◌%◌, ◌==◌, Bool, true, false, List, [], ◌∷◌, ◌++◌, Some, None, refl, ◌∙◌, ap, ◌⊎◌, inl, inr}
use Rattle.std.specs.List.{All, AllByRecursion}
use Rattle.std.proofs.lemmas.Bool.{cases_Bool}
use Rattle.std.proofs.lemmas.List.Elements.{All-contains, recursion_from_All}
use Rattle.pi_insn.specs.declared.raw.RawInsn.{RawInsn}
use Rattle.pi_insn.specs.declared.raw.RawBody.TheVariants.{Nop}
use Rattle.pi_insn.specs.Payloads.{Data}
use Rattle.pi_format.specs.Rules.Pieces.{Piece, Walk, walk, first_insn}
use Rattle.pi_dextables.specs.declared.tables.Class.{Class}
use Rattle.pi_contents.specs.Contents.{LineContent}
use Rattle.pi_tablesaid.specs.Closed.{index_closes}
use Rattle.pi_classtables.specs.Numbers.{Pools, index_of}
use Rattle.pi_classtables.specs.Forms.{raw_bodies}
use Rattle.pi_classtables.specs.Layout.{data_of, data_place, next_data, lines_end, code_units, lines_follow}
use Rattle.pi_classtables.specs.Whole.{tables_with}
use Rattle.pi_classlaws.proofs.FormsRead.{raw_insn}
use Rattle.pi_classlaws.proofs.NamesAgain.{closes_again}
use Rattle.pi_classlaws.proofs.LinesFormed.{AreFormed, line_pieces}
use Rattle.pi_classlaws.proofs.PayloadsLaid.{PayloadReads, padded_pieces, laid_pieces, data_pieces}
use Rattle.pi_classlaws.proofs.WalkAgain.{code_pieces, code_walked}
use Rattle.pi_classlaws.proofs.LinesAgain.{IsKnown}

-- a test passes over lines whose instructions it holds of
abbrev pub AllPass : (ℕ → RawInsn → Bool) → List LineContent → List RawInsn → Type 0
AllPass test [] is = Unit {0}
AllPass test (l ∷ ls) [] = Unit {0}
AllPass test (l ∷ ls) (i ∷ is) = (test l.at i ≡ true) × AllPass test ls is

module _ (test : ℕ → RawInsn → Bool) where
  lines_pass : (ls : List LineContent) (is : List RawInsn) (rest : List Piece) → AllPass test ls is
      → first_insn test (line_pieces ls is ++ rest) ≡ first_insn test rest
  lines_pass [] is rest pass = refl
  lines_pass (l ∷ ls) [] rest pass = refl
  lines_pass (l ∷ ls) (i ∷ is) rest pass = rw pass.0 (lines_pass ls is rest pass.1)

  -- and over payloads, if it holds of the nops before them
  padded_pass : ((at : ℕ) → test at (raw_insn 0 Nop) ≡ true) → (at : ℕ) (d : Data) (rest : List Piece)
      → first_insn test (padded_pieces at d ++ rest) ≡ first_insn test rest
  padded_pass nops at d rest = by_place (cases_Bool (at % 2 == 0))
    where
      by_place : ((at % 2 == 0) ≡ true) ⊎ ((at % 2 == 0) ≡ false) → first_insn test (padded_pieces at d ++ rest) ≡ first_insn test rest
      by_place (inl even) = rw even refl
      by_place (inr odd) = rw (odd, nops at) refl

  laid_pass : ((at : ℕ) → test at (raw_insn 0 Nop) ≡ true) → (at : ℕ) (units : List ℕ) (d : Data) (rest : List Piece)
      → first_insn test (laid_pieces at units d ++ rest) ≡ first_insn test rest
  laid_pass nops at [] d rest = refl
  laid_pass nops at (u ∷ us) d rest = padded_pass nops at d rest

  data_pass : ((at : ℕ) → test at (raw_insn 0 Nop) ≡ true) → (listed : List ℕ) (said : LineContent → Data) (at : ℕ) (ls : List LineContent)
      → first_insn test (data_pieces listed said at ls) ≡ None
  data_pass nops listed said at [] = refl
  data_pass nops listed said at (l ∷ ls) =
      let next = next_data at (data_of listed l) in
      laid_pass nops at (data_of listed l) (said l) (data_pieces listed said next ls) ∙ data_pass nops listed said next ls

  pub code_pass : ((at : ℕ) → test at (raw_insn 0 Nop) ≡ true) → (listed : List ℕ) (said : LineContent → Data) (ls : List LineContent) (is : List RawInsn)
      → AllPass test ls is → first_insn test (code_pieces listed said ls is) ≡ None
  code_pass nops listed said ls is pass =
      lines_pass ls is (data_pieces listed said (lines_end 0 ls) ls) pass ∙ data_pass nops listed said (lines_end 0 ls) ls

-- the index of each line's instruction names an entry
module _ (p : Pools) (classes : List Class) (listed : List ℕ) (said : LineContent → Data) where
  each_closes : (payload : ℕ) (ls : List LineContent) (is : List RawInsn) (units : List ℕ) → AreFormed p listed payload ls is units
      → AllByRecursion (IsKnown p listed said) ls → AllPass (λ at i. index_closes (tables_with p classes) i.body) ls is
  each_closes payload [] is units formed known = tt
  each_closes payload (l ∷ ls) [] units formed known = tt
  each_closes payload (l ∷ ls) (i ∷ is) units formed known =
      let place = data_place payload in (
        All-contains (λ body. index_closes (tables_with p classes) body ≡ true) (raw_bodies (index_of p l.naming) l.at place l.insn) i.body
            (closes_again p classes l.at place l.insn l.naming known.0.sized.naming known.0.held) formed.3.body,
        each_closes (next_data payload (data_of listed l)) ls is formed.1 formed.4 known.1,
      )

  pub indices_close : (lines : List LineContent) (units : List ℕ) → lines_follow 0 lines ≡ true → All (IsKnown p listed said) lines
      → code_units p listed lines ≡ Some units → first_insn (λ at i. index_closes (tables_with p classes) i.body) (walk units).pieces ≡ None
  indices_close lines units follow known e =
      let reads : All (PayloadReads listed said) lines = λ k d less. (known k d less).reads in
      let w = code_walked p listed said lines units follow reads e in
      let all = recursion_from_All (IsKnown p listed said) lines known in
      let test : ℕ → RawInsn → Bool = λ at i. index_closes (tables_with p classes) i.body in
      ap (λ (w : Walk). first_insn test w.pieces) w.walked
      ∙ code_pass test (λ at. refl) listed said lines w.insns (each_closes (lines_end 0 lines) lines w.insns w.front w.formed all)
