-- The payload of a line: its data are read again, take its units, which are numbers of 16 bits, and say the line's cases or items.
use Rattle.std.proofs.Common.{◌≡◌, ℕ, ◌^◌, ◌<◌, List, [], ◌++◌, length, Some, Bool, true, false, refl, sym, ap, ◌∙◌, arith}
use Rattle.std.specs.Prelude.{◌==◌}
use Rattle.std.specs.List.{All, list_any}
use Rattle.std.proofs.lemmas.Bool.{both_ways, or_parts, not-false, ltb-true}
use Rattle.std.proofs.lemmas.List.Elements.{All-nil}
use Rattle.pi_model.specs.declared.insn.Case.{Case}
use Rattle.pi_model.specs.declared.insn.Insn.{Insn}
use Rattle.pi_model.specs.declared.insn.Insn.TheVariants.{FillArray, Switch}
use Rattle.pi_insn.specs.Payloads.{payload}
use Rattle.pi_format.specs.Rules.Pieces.{payload_units as units_taken}
use Rattle.pi_format.specs.Says.Insns.{cases_of, width_of, items_of}
use Rattle.pi_contents.specs.Asked.{follow_on}
use Rattle.pi_contents.specs.Contents.{LineContent}
use Rattle.pi_classtables.specs.Layout.{payload_units, is_scattered, is_sparse, data_fits}
use Rattle.pi_classtables.specs.Sized.{InsnSized, LineSized}
use Rattle.pi_classlaws.proofs.ItemsRead.{items_again}
use Rattle.pi_classlaws.proofs.PayloadHalves.{IsHalf}
use Rattle.pi_classlaws.proofs.DataSaid.{has_data, data_said, switch_read, switch_taken, switch_stands, switch_cases, switch_halves, fill_read, fill_taken, fill_stands, fill_halves, array_fits, no_data}

-- what the payload of an instruction says, where there is one
pub record SaysData (sparse : Bool) (at : ℕ) (i : Insn) : Type 0 where
  pub read : (rest : List ℕ) → 0 < length (payload_units sparse at i) → payload (payload_units sparse at i ++ rest) ≡ Some (data_said sparse at i)
  pub taken : 0 < length (payload_units sparse at i) → units_taken (data_said sparse at i) ≡ length (payload_units sparse at i)
  pub halves : All (λ u. u < 65536) (payload_units sparse at i)
  pub cases : (a : ℕ) (cs : List Case) → i ≡ Switch a cs → cases_of at (Some (data_said sparse at i)) ≡ cs
  pub width : (a n : ℕ) (xs : List ℕ) → i ≡ FillArray a n xs → width_of (Some (data_said sparse at i)) ≡ n
  pub items : (a n : ℕ) (xs : List ℕ) → i ≡ FillArray a n xs → items_of (Some (data_said sparse at i)) ≡ xs
  pub some : has_data i ≡ true → 0 < length (payload_units sparse at i)
  pub none : has_data i ≡ false → payload_units sparse at i ≡ []

nothing_said : (sparse : Bool) (at : ℕ) (i : Insn) → has_data i ≡ false → SaysData sparse at i
nothing_said sparse at i e =
    let empty = no_data sparse at i e in
    record {
      read = λ rest lt. absurd (omega (arith, ap length empty));
      taken = λ lt. absurd (omega (arith, ap length empty));
      halves = rw empty (All-nil IsHalf);
      cases = λ a cs f. absurd (both_ways _ e (ap has_data f));
      width = λ a n xs f. absurd (both_ways _ e (ap has_data f));
      items = λ a n xs f. absurd (both_ways _ e (ap has_data f));
      some = λ f. absurd (both_ways _ e f);
      none = λ f. empty;
    }

-- an instruction at an address says its data, where a switch with keys that do not follow each other has a sparse payload
pub insn_data : (sparse : Bool) (at : ℕ) (i : Insn) → InsnSized i → data_fits i ≡ true → at < 2 ^ 32 → (sparse ≡ false → is_scattered i ≡ false)
    → SaysData sparse at i
insn_data sparse at (Switch a cases) sized fits place spread = record {
  read = λ rest lt. switch_read sparse at a cases rest;
  taken = λ lt. switch_taken sparse at a cases;
  halves = switch_halves sparse at a cases sized (ltb-true (length cases) 65536 fits);
  cases = λ b cs e. switch_cases sparse at cases sized place (λ f. not-false (follow_on cases) (spread f)) ∙ (cc);
  width = λ b n xs e. cc;
  items = λ b n xs e. cc;
  some = λ e. switch_stands sparse at a cases;
  none = λ e. cc;
}
insn_data sparse at (FillArray a width items) sized fits place spread =
    let array = array_fits a width items fits in
    record {
      read = λ rest lt. fill_read sparse at a width items rest array.known;
      taken = λ lt. fill_taken sparse at a width items;
      halves = fill_halves sparse at a width items array.known array.few array.fit;
      cases = λ b cs e. cc;
      width = λ b n xs e. cc;
      items = λ b n xs e. items_again width items array.known array.fit ∙ (cc);
      some = λ e. fill_stands sparse at a width items;
      none = λ e. cc;
    }
insn_data sparse at i sized fits place spread = nothing_said sparse at i refl

-- and so for a line, which has a sparse payload where its address is listed or where it must
pub line_data : (listed : List ℕ) (l : LineContent) (sparse : Bool) → LineSized l → data_fits l.insn ≡ true → l.at < 2 ^ 32
    → sparse ≡ is_sparse listed l → SaysData sparse l.at l.insn
line_data listed l sparse sized fits place is =
    insn_data sparse l.at l.insn sized.insn fits place
    (λ e. (or_parts (list_any (λ at. at == l.at) listed) (is_scattered l.insn) (sym is ∙ e)).1)
