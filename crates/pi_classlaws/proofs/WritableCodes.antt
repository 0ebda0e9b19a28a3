-- The units of a code are numbers of 16 bits: those of its instructions, those of its payloads, and the nops between these.
use Rattle.std.proofs.Common.{◌≡◌, ℕ, ◌%◌, ◌==◌, Bool, true, false, List, [], ◌∷◌, ◌++◌, Some, refl, sym, subst, arith}
use Rattle.std.specs.Prelude.{if◌then◌else◌}
use Rattle.std.specs.List.{All}
use Rattle.std.proofs.lemmas.Bool.{ltb-true}
use Rattle.std.proofs.lemmas.List.Elements.{All-nil, All-cons, All-head, All-tail, All-append}
use Rattle.std.proofs.lemmas.List.Sums.{AllPass-from_list_all}
use Rattle.pi_model.specs.declared.insn.Insn.{Insn}
use Rattle.pi_model.specs.declared.insn.Insn.TheVariants.{FillArray, Switch}
use Rattle.pi_insn.specs.declared.raw.RawInsn.{RawInsn}
use Rattle.pi_insn.proofs.Steps.{bind_some}
use Rattle.pi_contents.specs.Contents.{LineContent, CodeContent}
use Rattle.pi_classtables.specs.Numbers.{Pools}
use Rattle.pi_classtables.specs.Layout.{payload_units, is_sparse, data_of, padded, laid_data, next_data, all_data, data_fits, lines_end, lines_units, code_units, front}
use Rattle.pi_classtables.specs.Sized.{InsnSized, LineSized, CodeSized}
use Rattle.pi_classtables.specs.Spelled.{IsLaid}
use Rattle.pi_classlaws.proofs.PayloadHalves.{IsHalf}
use Rattle.pi_classlaws.proofs.DataSaid.{data_said, switch_halves, fill_halves, array_fits, no_data}
use Rattle.pi_classlaws.proofs.LinesFormed.{AreFormed, lines_formed}
use Rattle.pi_classlaws.proofs.CodeAgain.{in_front}
use Rattle.pi_classlaws.proofs.WritableUnits.{insn_halves}

-- a payload
data_halves : (sparse : Bool) (at : ℕ) (i : Insn) → InsnSized i → data_fits i ≡ true → All IsHalf (payload_units sparse at i)
data_halves sparse at (Switch a cases) sized fits = switch_halves sparse at a cases sized (ltb-true _ 65536 fits)
data_halves sparse at (FillArray a width items) sized fits =
    let array = array_fits a width items fits in
    fill_halves sparse at a width items array.known array.few array.fit
data_halves sparse at i sized fits = subst (All IsHalf) (sym (no_data sparse at i refl)) (All-nil IsHalf)

-- with the nop before it, which is 0
padded_halves : (at : ℕ) (units : List ℕ) → All IsHalf units → All IsHalf (padded at units)
padded_halves at units all = by_place (at % 2 == 0)
  where
    by_place : (b : Bool) → All IsHalf (if b then units else 0 ∷ units)
    by_place true = all
    by_place false = All-cons IsHalf 0 units (omega arith) all

laid_halves : (at : ℕ) (units : List ℕ) → All IsHalf units → All IsHalf (laid_data at units)
laid_halves at [] all = all
laid_halves at (u ∷ us) all = padded_halves at (u ∷ us) all

-- a line whose payload can be laid
record LineFits (l : LineContent) : Type 0 where
  sized : LineSized l
  fits : data_fits l.insn ≡ true

all_data_halves : (listed : List ℕ) (at : ℕ) (ls : List LineContent) → All LineFits ls → All IsHalf (all_data listed at ls)
all_data_halves listed at [] all = All-nil IsHalf
all_data_halves listed at (l ∷ ls) all =
    let next = next_data at (data_of listed l) in
    let first = All-head LineFits l ls all in
    All-append IsHalf (laid_data at (data_of listed l)) (all_data listed next ls)
    (laid_halves at (data_of listed l) (data_halves (is_sparse listed l) l.at l.insn first.sized.insn first.fits))
    (all_data_halves listed next ls (All-tail LineFits l ls all))

-- instructions
lines_halves : (p : Pools) (listed : List ℕ) (payload : ℕ) (ls : List LineContent) (is : List RawInsn) (units : List ℕ)
    → AreFormed p listed payload ls is units → All IsHalf units
lines_halves p listed payload [] [] units formed = subst (All IsHalf) (sym formed) (All-nil IsHalf)
lines_halves p listed payload [] (i ∷ is) units formed = absurd formed
lines_halves p listed payload (l ∷ ls) [] units formed = absurd formed
lines_halves p listed payload (l ∷ ls) (i ∷ is) units formed =
    subst (All IsHalf) (sym formed.2) (All-append IsHalf formed.0 formed.1
    (insn_halves i formed.0 formed.3.encoded)
    (lines_halves p listed (next_data payload (data_of listed l)) ls is formed.1 formed.4))

both_halves : (p : Pools) (listed : List ℕ) (ls : List LineContent) (units : List ℕ) → All LineFits ls → code_units p listed ls ≡ Some units
    → All IsHalf units
unfolding code_units
both_halves p listed ls units all e =
    let end = lines_end 0 ls in
    let first = bind_some (lines_units p listed end ls) (λ here. Some (here ++ all_data listed end ls)) units e in
    let formed = lines_formed p listed end ls first.0 first.1.0 in
    let joined : first.0 ++ all_data listed end ls ≡ units = cc (first.1.1) in
    subst (All IsHalf) joined (All-append IsHalf first.0 (all_data listed end ls)
    (lines_halves p listed end ls formed.0 first.0 formed.1) (all_data_halves listed end ls all))

-- so the units of a code that is laid out
pub code_halves : (p : Pools) (listed : List ℕ) (c : CodeContent) (units : List ℕ) → IsLaid listed c → CodeSized c
    → code_units p listed (front 0 c.lines) ≡ Some units → All IsHalf units
code_halves p listed c units laid sized e =
    let all : All LineFits c.lines =
    λ k d lt. record { sized = sized.lines k d lt; fits = AllPass-from_list_all (λ (l : LineContent). data_fits l.insn) c.lines laid.payloads k d lt } in
    both_halves p listed (front 0 c.lines) units
    (in_front p listed (λ l. data_said (is_sparse listed l) l.at l.insn) c units laid e LineFits all) e
