-- The payloads of a code's lines stand behind them, each at an even address, and are found there.
use Rattle.std.proofs.Common.{◌≡◌, ℕ, ◌+◌, ◌%◌, ◌<◌, ◌==◌, Bool, true, false, nat_lt, List, [], ◌∷◌, ◌++◌, length, Some, Err, refl, sym, ◌∙◌, ap, subst, arith, ◌⊎◌, inl, inr}
use Rattle.std.specs.Prelude.{if◌then◌else◌}
use Rattle.std.specs.List.{AllByRecursion}
use Rattle.std.proofs.lemmas.Bool.{cases_Bool, eqb-true, eqb-false, le-ltb}
use Rattle.pi_model.specs.declared.insn.Insn.{Insn}
use Rattle.pi_model.specs.declared.insn.Insn.TheVariants.{FillArray, Switch}
use Rattle.pi_insn.specs.declared.raw.RawBody.TheVariants.{Nop}
use Rattle.pi_insn.specs.declared.raw.InsnError.TheVariants.{Unsupported}
use Rattle.pi_insn.specs.Payloads.{Data, payload}
use Rattle.pi_insn.specs.Table.{row_of}
use Rattle.pi_insn.specs.Reading.{row_insn, insn_in}
use Rattle.pi_format.specs.Rules.Pieces.{Piece, Instruction, Payload, payload_units as units_of_data, front_piece}
use Rattle.pi_contents.specs.Contents.{LineContent}
use Rattle.pi_classtables.specs.Layout.{is_sparse, packed_units, sparse_units, array_units, payload_units, data_of, data_place, padded, laid_data, next_data, all_data}
use Rattle.pi_classlaws.proofs.FormsRead.{raw_insn}
use Rattle.pi_classlaws.proofs.InsnsAgain.{PayloadSays}
use Rattle.pi_classlaws.proofs.Walks.{WalksTo, walks_end, walks_on}

-- a payload begins with one of three units, with which no instruction begins
no_insn : (u : ℕ) (rest : List ℕ) → (u ≡ 0x0100) ⊎ ((u ≡ 0x0200) ⊎ (u ≡ 0x0300)) → insn_in (u ∷ rest) ≡ Err (Unsupported 0)
unfolding row_of row_insn
no_insn u rest (inl is) = rw is refl
no_insn u rest (inr (inl is)) = rw is refl
no_insn u rest (inr (inr is)) = rw is refl

payload_kind : (sparse : Bool) (at : ℕ) (x : Insn) (u : ℕ) (us : List ℕ) → payload_units sparse at x ≡ u ∷ us → (u ≡ 0x0100) ⊎ ((u ≡ 0x0200) ⊎ (u ≡ 0x0300))
unfolding payload_units packed_units sparse_units array_units
payload_kind true at (Switch a cases) u us e = let is : 0x0200 ≡ u = cc in inr (inl (sym is))
payload_kind false at (Switch a cases) u us e = let is : 0x0100 ≡ u = cc in inl (sym is)
payload_kind sparse at (FillArray a width items) u us e = let is : 0x0300 ≡ u = cc in inr (inr (sym is))
payload_kind sparse at _ u us e = cc

-- the payload of a line is read again, whatever stands behind, and says the cases or the items of the line's instruction
pub record PayloadReads (listed : List ℕ) (said : LineContent → Data) (l : LineContent) : Type 0 where
  pub reads : (u : ℕ) (us rest : List ℕ) → data_of listed l ≡ u ∷ us → payload ((u ∷ us) ++ rest) ≡ Some (said l)
  pub units : (u : ℕ) (us : List ℕ) → data_of listed l ≡ u ∷ us → units_of_data (said l) ≡ length (u ∷ us)
  pub says : PayloadSays l.insn l.at (Some (said l))

pub payload_reads : (listed : List ℕ) (said : LineContent → Data) (l : LineContent)
    → ((rest : List ℕ) → 0 < length (data_of listed l) → payload (data_of listed l ++ rest) ≡ Some (said l))
    → (0 < length (data_of listed l) → units_of_data (said l) ≡ length (data_of listed l))
    → PayloadSays l.insn l.at (Some (said l)) → PayloadReads listed said l
payload_reads listed said l reads long says = record {
  reads = λ u us rest e. subst (λ (vs : List ℕ). payload (vs ++ rest) ≡ Some (said l)) e (reads rest (omega (arith, ap length e)));
  units = λ u us e. long (omega (arith, ap length e)) ∙ ap length e;
  says = says;
}

-- the pieces of a payload that is laid from an address on, with the nop before it
abbrev pub nop_piece : ℕ → Piece
nop_piece at = record { at = at; units = 1; what = Instruction (raw_insn 0 Nop) }

abbrev pub payload_piece : ℕ → Data → Piece
payload_piece at d = record { at = at; units = units_of_data d; what = Payload d }

abbrev pub padded_pieces : ℕ → Data → List Piece
padded_pieces at d = if at % 2 == 0 then payload_piece (data_place at) d ∷ [] else nop_piece at ∷ payload_piece (data_place at) d ∷ []

abbrev pub laid_pieces : ℕ → List ℕ → Data → List Piece
laid_pieces at [] d = []
laid_pieces at (u ∷ us) d = padded_pieces at d

abbrev pub data_pieces : List ℕ → (LineContent → Data) → ℕ → List LineContent → List Piece
data_pieces listed said at [] = []
data_pieces listed said at (l ∷ ls) =
    laid_pieces at (data_of listed l) (said l) ++ data_pieces listed said (next_data at (data_of listed l)) ls

payload_front : (listed : List ℕ) (said : LineContent → Data) (l : LineContent) (u : ℕ) (us rest : List ℕ) (at : ℕ) → PayloadReads listed said l
    → data_of listed l ≡ u ∷ us → front_piece at ((u ∷ us) ++ rest) ≡ Some (payload_piece at (said l))
payload_front listed said l u us rest at reads e =
    let refused = no_insn u (us ++ rest) (payload_kind (is_sparse listed l) l.at l.insn u us e) in
    let lent : payload (u ∷ (us ++ rest)) ≡ Some (said l) = reads.reads u us rest e in
    rw (refused, lent) refl

nop_front : (at : ℕ) (rest : List ℕ) → front_piece at (0 ∷ rest) ≡ Some (nop_piece at)
unfolding row_of row_insn
nop_front at rest =
    let whole : nat_lt (length rest + 1) 1 ≡ false = le-ltb (length rest + 1) 1 (omega arith) in
    rw whole refl

-- a payload that is laid from an address on, and what stands behind it
padded_walk : (at : ℕ) (units rest : List ℕ) (d : Data) (pieces : List Piece) → 0 < length units → units_of_data d ≡ length units
    → ((at : ℕ) → front_piece at (units ++ rest) ≡ Some (payload_piece at d)) → WalksTo (data_place at + length units) rest pieces
    → WalksTo at (padded at units ++ rest) (padded_pieces at d ++ pieces)
padded_walk at units rest d pieces some long front later = by_place (cases_Bool (at % 2 == 0))
  where
    from_place : WalksTo (data_place at) (units ++ rest) (payload_piece (data_place at) d ∷ pieces)
    from_place = walks_on (data_place at) units rest (payload_piece (data_place at) d) pieces (front (data_place at)) long some later

    by_place : ((at % 2 == 0) ≡ true) ⊎ ((at % 2 == 0) ≡ false) → WalksTo at (padded at units ++ rest) (padded_pieces at d ++ pieces)
    by_place (inl even) =
        let place : data_place at ≡ at = omega (arith, eqb-true (at % 2) 0 even) in
        rw even (subst (λ (n : ℕ). WalksTo n (units ++ rest) (payload_piece (data_place at) d ∷ pieces)) place from_place)
    by_place (inr odd) =
        let uneven = eqb-false (at % 2) 0 odd in
        let place : data_place at ≡ at + 1 = omega (arith, uneven) in
        let behind = subst (λ (n : ℕ). WalksTo n (units ++ rest) (payload_piece (data_place at) d ∷ pieces)) place from_place in
        rw odd (walks_on at (0 ∷ []) (units ++ rest) (nop_piece at) (payload_piece (data_place at) d ∷ pieces) (nop_front at (units ++ rest)) refl (omega arith) behind)

laid_walk : (listed : List ℕ) (said : LineContent → Data) (l : LineContent) (at : ℕ) (units rest : List ℕ) (pieces : List Piece) → data_of listed l ≡ units
    → PayloadReads listed said l → WalksTo (next_data at units) rest pieces → WalksTo at (laid_data at units ++ rest) (laid_pieces at units (said l) ++ pieces)
laid_walk listed said l at [] rest pieces e reads later = later
laid_walk listed said l at (u ∷ us) rest pieces e reads later =
    padded_walk at (u ∷ us) rest (said l) pieces (omega arith) (reads.units u us e) (λ n. payload_front listed said l u us rest n reads e) later

pub data_walk : (listed : List ℕ) (said : LineContent → Data) (at : ℕ) (ls : List LineContent) → AllByRecursion (PayloadReads listed said) ls
    → WalksTo at (all_data listed at ls) (data_pieces listed said at ls)
data_walk listed said at [] reads = walks_end at
data_walk listed said at (l ∷ ls) reads =
    let next = next_data at (data_of listed l) in
    laid_walk listed said l at (data_of listed l) (all_data listed next ls) (data_pieces listed said next ls) refl reads.0 (data_walk listed said next ls reads.1)
