-- What points at a payload points at one that fits.
use Rattle.std.proofs.Common.{◌≡◌, ℕ, zero, suc, ◌+◌, ◌^◌, ◌<◌, ◌≤◌, Bool, true, false, List, [], ◌∷◌, length, Option, Some, None, refl, ◌∙◌, ap, subst, arith}
use Rattle.std.specs.Prelude.{slice_index_or, if◌then◌else◌}
use Rattle.std.specs.List.{All, AllByRecursion, Contains}
use Rattle.std.proofs.lemmas.List.Elements.{All-contains, All-from_recursion, recursion_from_All}
use Rattle.pi_model.specs.declared.insn.Insn.{Insn}
use Rattle.pi_model.specs.declared.insn.Insn.TheVariants as insn
use Rattle.pi_insn.specs.declared.raw.RawInsn.{RawInsn}
use Rattle.pi_insn.specs.declared.raw.RawBody.{RawBody}
use Rattle.pi_insn.specs.declared.raw.RawBody.TheVariants.{Filled, Invoke}
use Rattle.pi_insn.specs.Payloads.{Data}
use Rattle.pi_format.specs.Rules.Pieces.{Piece, Walk, walk, first_insn, payload_fits, payload_of, points_well}
use Rattle.pi_contents.specs.Contents.{LineContent}
use Rattle.pi_classtables.specs.Numbers.{Pools, index_of}
use Rattle.pi_classtables.specs.Forms.{opcodes_of, raw_bodies, distance}
use Rattle.pi_classtables.specs.Layout.{packed_units, sparse_units, array_units, payload_units, is_sparse, data_of, data_place, next_data, data_end, lines_end, code_units, lines_follow}
use Rattle.pi_classlaws.proofs.FormsRead.{raw_insn}
use Rattle.pi_classlaws.proofs.Registers.{all_listings}
use Rattle.pi_classlaws.proofs.LinesFormed.{IsFormed, AreFormed, follows}
use Rattle.pi_classlaws.proofs.PayloadsLaid.{PayloadReads}
use Rattle.pi_classlaws.proofs.PayloadsFound.{AreFound, end_behind, next_behind}
use Rattle.pi_classlaws.proofs.LineAgain.{FoundFor, data_end_behind, leads}
use Rattle.pi_classlaws.proofs.WalkAgain.{code_pieces, code_walked}
use Rattle.pi_classlaws.proofs.TestsAgain.{AllPass, code_pass}

-- the payload of an instruction is of the kind that its opcode asks for
abbrev pub PayloadFits : Bool → Insn → Option Data → Type 0
PayloadFits sparse (insn.Switch a cases) found = payload_fits (if sparse then 0x2c else 0x2b) found ≡ true
PayloadFits sparse (insn.FillArray a width items) found = payload_fits 0x26 found ≡ true
PayloadFits sparse _ found = Unit {0}

fits_found : (sparse : Bool) (at : ℕ) (x : Insn) (found : Option Data) (d : Data) → ((u : ℕ) (us : List ℕ) → payload_units sparse at x ≡ u ∷ us → found ≡ Some d)
    → PayloadFits sparse x (Some d) → PayloadFits sparse x found
unfolding payload_units packed_units sparse_units array_units
fits_found true at (insn.Switch a cases) found d is fits = rw (is _ _ refl) fits
fits_found false at (insn.Switch a cases) found d is fits = rw (is _ _ refl) fits
fits_found sparse at (insn.FillArray a width items) found d is fits = rw (is _ _ refl) fits
fits_found sparse at _ found d is fits = tt

only_one : (v op : ℕ) → Contains (v ∷ []) op → v ≡ op
only_one v op c = by_place c.0 c.1 c.2
  where
    by_place : (k : ℕ) → k < length (v ∷ []) → slice_index_or (v ∷ []) k op ≡ op → v ≡ op
    by_place zero less e = e
    by_place (suc k) less e = absurd (omega arith)

-- whatever opcode and operands it was given
abbrev Points : List Piece → ℕ → Bool → RawBody → Type 0
Points pieces at sparse body = (op : ℕ) → Contains (opcodes_of sparse body) op → points_well pieces at (raw_insn op body) ≡ true

each_points : (pieces : List Piece) (i at payload : ℕ) (sparse : Bool) (x : Insn) → PayloadFits sparse x (payload_of pieces at (distance at payload))
    → AllByRecursion (Points pieces at sparse) (raw_bodies i at payload x)
unfolding raw_bodies opcodes_of
each_points pieces i at payload sparse (insn.Switch a cases) fits =
    (λ op c. subst (λ (n : ℕ). payload_fits n (payload_of pieces at (distance at payload)) ≡ true) (only_one (if sparse then 0x2c else 0x2b) op c) fits, tt)
each_points pieces i at payload sparse (insn.FillArray a width items) fits =
    (λ op c. subst (λ (n : ℕ). payload_fits n (payload_of pieces at (distance at payload)) ≡ true) (only_one 0x26 op c) fits, tt)
each_points pieces i at payload sparse (insn.Filled t regs) fits = all_listings (Points pieces at sparse) (λ raw. Filled i raw) regs (λ raw s op c. refl)
each_points pieces i at payload sparse (insn.Invoke how m regs) fits = all_listings (Points pieces at sparse) (λ raw. Invoke how i raw) regs (λ raw s op c. refl)
each_points pieces i at payload sparse _ fits = (λ op c. refl, tt)

module _ (p : Pools) (listed : List ℕ) (said : LineContent → Data) (pieces : List Piece) where
  line_points : (payload : ℕ) (l : LineContent) (i : RawInsn) (units : List ℕ) → IsFormed p listed payload l i units
      → PayloadFits (is_sparse listed l) l.insn (Some (said l)) → l.at ≤ payload → next_data payload (data_of listed l) ≤ 2 ^ 31
      → FoundFor pieces listed said payload l → points_well pieces l.at i ≡ true
  line_points payload l i units formed fits behind near found =
      let place = data_place payload in
      let sparse = is_sparse listed l in
      let lead = leads pieces said payload l (data_of listed l) behind near found in
      let there = fits_found sparse l.at l.insn (payload_of pieces l.at (distance l.at place)) (said l) lead fits in
      let bodies = raw_bodies (index_of p l.naming) l.at place l.insn in
      let all = All-from_recursion (Points pieces l.at sparse) bodies (each_points pieces (index_of p l.naming) l.at place sparse l.insn there) in
      All-contains (Points pieces l.at sparse) bodies i.body all formed.body i.op formed.opcode

  lines_point : (payload at : ℕ) (ls : List LineContent) (is : List RawInsn) (units : List ℕ) → AreFormed p listed payload ls is units
      → lines_follow at ls ≡ true → lines_end at ls ≤ payload → data_end listed payload ls ≤ 2 ^ 31 → AreFound pieces listed said payload ls
      → AllByRecursion (λ (l : LineContent). PayloadFits (is_sparse listed l) l.insn (Some (said l))) ls → AllPass (points_well pieces) ls is
  lines_point payload at [] is units formed follow behind near found fits = tt
  lines_point payload at (l ∷ ls) [] units formed follow behind near found fits = tt
  lines_point payload at (l ∷ ls) (i ∷ is) units formed follow behind near found fits =
      let f = follows at l ls follow in
      let next = next_data payload (data_of listed l) in
      let more = next_behind payload (data_of listed l) in
      let ends = end_behind (at + l.units) ls in (
        line_points payload l i formed.0 formed.3 fits.0 (omega (arith, f.begins, ends, behind)) (omega (arith, data_end_behind listed next ls, near)) found.0,
        lines_point next (at + l.units) ls is formed.1 formed.4 f.later (omega (arith, behind, more)) near found.1 fits.1,
      )

pub points_again : (p : Pools) (listed : List ℕ) (said : LineContent → Data) (lines : List LineContent) (units : List ℕ)
    → lines_follow 0 lines ≡ true → data_end listed (lines_end 0 lines) lines ≤ 2 ^ 31 → All (PayloadReads listed said) lines
    → All (λ (l : LineContent). PayloadFits (is_sparse listed l) l.insn (Some (said l))) lines → code_units p listed lines ≡ Some units
    → first_insn (points_well (walk units).pieces) (walk units).pieces ≡ None
points_again p listed said lines units follow near reads fits e =
    let end = lines_end 0 lines in
    let w = code_walked p listed said lines units follow reads e in
    let pieces = code_pieces listed said lines w.insns in
    let Fits : LineContent → Type 0 = λ l. PayloadFits (is_sparse listed l) l.insn (Some (said l)) in
    let pass = lines_point p listed said pieces end 0 lines w.insns w.front w.formed follow (omega arith) near w.found (recursion_from_All Fits lines fits) in
    ap (λ (w : Walk). first_insn (points_well w.pieces) w.pieces) w.walked
    ∙ code_pass (points_well pieces) (λ at. refl) listed said lines w.insns pass
