-- The lines of a code by texts: each instruction without names, and what it names.
use Rattle.std.proofs.Common.{◌≡◌, ℕ, List, [], ◌∷◌, length, map, None, true, refl, ap}
use Rattle.std.specs.Prelude.{nat_lt, flat_map}
use Rattle.pi_model.specs.declared.numbers.NameNo.{NameNo}
use Rattle.pi_insn.specs.declared.raw.RawInsn.{RawInsn}
use Rattle.pi_insn.specs.declared.raw.RawBody.{RawBody}
use Rattle.pi_insn.specs.declared.raw.RawBody.TheVariants.{ConstString, ConstClass, CheckCast, InstanceOf, NewInstance, NewArray, Filled, Iget, Iput, Sget, Sput, Invoke}
use Rattle.pi_format.specs.Rules.Pieces.{Piece, What, Instruction, Payload, first_insn}
use Rattle.pi_format.specs.Says.Names.{Named, type_name, field_ref}
use Rattle.pi_format.specs.Says.Insns.{insn_of}
use Rattle.pi_format.specs.Says.Codes.{line_of, lines_of}
use Rattle.pi_format.proofs.Loops.{none_first}
use Rattle.pi_format.proofs.Held.{below}
use Rattle.pi_dextables.specs.declared.tables.Tables.{Tables}
use Rattle.pi_contents.specs.Contents.{OfText, OfType, OfField, OfMethod}
use Rattle.pi_contents.specs.Named.{bare, field_name, naming_of, line_content}
use Rattle.pi_tablesaid.specs.Entries.{type_at, field_at}
use Rattle.pi_tablesaid.specs.Content.{naming_said, insn_said, line_said}
use Rattle.pi_tablesaid.specs.Closed.{index_closes}
use Rattle.pi_tablesaid.proofs.TextsSaid.{Speaks, type_text, field_text, method_text}

-- without names an instruction is the same whatever names there are
bare_said : (n : Named) (pieces : List Piece) (at : ℕ) (body : RawBody) → bare (insn_of n pieces at body) ≡ insn_said pieces at body
unfolding insn_of bare
bare_said n pieces at (ConstString a s) = refl
bare_said n pieces at _ = refl

module _ (t : Tables) (n : Named) (text : NameNo → List ℕ) (s : Speaks t n text) where
  type_named : (i : ℕ) → nat_lt i (length t.types) ≡ true → OfType (text (type_name n i)) ≡ OfType (type_at t i)
  type_named i e = ap OfType (type_text t n text s i (below i (length t.types) e))

  field_named : (i : ℕ) → nat_lt i (length t.fields) ≡ true → OfField (field_name text (field_ref n i)) ≡ OfField (field_at t i)
  field_named i e = ap OfField (field_text t n text s i (below i (length t.fields) e))

  -- what an instruction names, where its index closes
  naming_is : (pieces : List Piece) (at : ℕ) (body : RawBody) → index_closes t body ≡ true → naming_of text (insn_of n pieces at body) ≡ naming_said t body
  unfolding insn_of naming_of naming_said
  naming_is pieces at (ConstString a i) e = ap OfText (s.string i (below i (length t.strings) e))
  naming_is pieces at (ConstClass a i) e = type_named i e
  naming_is pieces at (CheckCast a i) e = type_named i e
  naming_is pieces at (InstanceOf a b i) e = type_named i e
  naming_is pieces at (NewInstance a i) e = type_named i e
  naming_is pieces at (NewArray a b i) e = type_named i e
  naming_is pieces at (Filled i regs) e = type_named i e
  naming_is pieces at (Iget kind a b f) e = field_named f e
  naming_is pieces at (Iput kind a b f) e = field_named f e
  naming_is pieces at (Sget kind a f) e = field_named f e
  naming_is pieces at (Sput kind a f) e = field_named f e
  naming_is pieces at (Invoke how m regs) e = ap OfMethod (method_text t n text s m (below m (length t.methods) e))
  naming_is pieces at _ e = refl

  -- the line of an instruction
  line_is : (pieces : List Piece) (p : Piece) (i : RawInsn) → index_closes t i.body ≡ true
      → line_content text (record { at = p.at; units = p.units; insn = insn_of n pieces p.at i.body })
      ≡ record { at = p.at; units = p.units; insn = insn_said pieces p.at i.body; naming = naming_said t i.body }
  line_is pieces p i e = rw (bare_said n pieces p.at i.body, naming_is pieces p.at i.body e) refl

  lines_from : (pieces ps : List Piece) → first_insn (λ at i. index_closes t i.body) ps ≡ None
      → map (line_content text) (flat_map (line_of n pieces) ps) ≡ flat_map (line_said t pieces) ps
  lines_from pieces [] e = refl
  lines_from pieces (p ∷ ps) e = by_what p.what refl (λ h. lines_from pieces ps h)
    where
      by_what : (w : What) → p.what ≡ w
          → (first_insn (λ at i. index_closes t i.body) ps ≡ None → map (line_content text) (flat_map (line_of n pieces) ps) ≡ flat_map (line_said t pieces) ps)
          → map (line_content text) (flat_map (line_of n pieces) (p ∷ ps)) ≡ flat_map (line_said t pieces) (p ∷ ps)
      by_what (Payload d) is rest = (let others = rw is at e in rw is (rest others))
      by_what (Instruction i) is rest =
          let parts = none_first (index_closes t i.body) p.at (first_insn (λ at i. index_closes t i.body) ps) (rw is at e) in
          rw (is, line_is pieces p i parts.0, rest parts.1) refl

  -- all lines of a code
  pub lines_are : (pieces : List Piece) → first_insn (λ at i. index_closes t i.body) pieces ≡ None
      → map (line_content text) (lines_of n pieces) ≡ flat_map (line_said t pieces) pieces
  lines_are pieces e = lines_from pieces pieces e
