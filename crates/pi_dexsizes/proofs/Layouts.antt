-- Whether a code is laid out as the writer lays it out does not depend on what its instructions and its handlers name.
use Rattle.std.proofs.Common.{◌≡◌, ℕ, List, [], ◌∷◌, ◌++◌, map, Option, Some, None, Bool, refl, ◌∙◌, sym, ap}
use Rattle.std.specs.Prelude.{◌&&◌, IsSome}
use Rattle.std.specs.List.{list_all}
use Rattle.pi_model.specs.declared.describe.Catch.{Catch}
use Rattle.pi_model.specs.declared.describe.Code.{Code}
use Rattle.pi_model.specs.declared.describe.Line.{Line}
use Rattle.pi_model.specs.declared.numbers.NameNo.{NameNo}
use Rattle.pi_contents.specs.Contents.{Naming, NoName, OfText, OfType, OfField, OfMethod, LineContent}
use Rattle.pi_contents.specs.Named.{bare, naming_of, line_content, catch_content, code_content}
use Rattle.pi_classtables.specs.Numbers.{no_pools, index_of}
use Rattle.pi_classtables.specs.Forms.{raw_bodies, first_form}
use Rattle.pi_classtables.specs.Layout.{is_sparse, data_of, data_place, next_data, all_data, laid_data, data_end, lines_end, line_units, lines_units, code_units, data_fits}
use Rattle.pi_classtables.specs.Ranges.{Group, with_entry, groups_of}
use Rattle.pi_classtables.specs.Spelled.{catch_spelled, IsLaid}
use Rattle.pi_dexsizes.proofs.Fronts.{front_lines, front_content, same_end, same_data_end, lines_again}

-- in no pools, whatever is named has the index 0
no_index : (n : Naming) → index_of no_pools n ≡ 0
no_index NoName = refl
no_index (OfText s) = refl
no_index (OfType t) = refl
no_index (OfField f) = refl
no_index (OfMethod m) = refl

-- so the units of instructions are the same by any texts
same_line : (one other : NameNo → List ℕ) (listed : List ℕ) (payload : ℕ) (l : Line)
    → line_units no_pools listed payload (line_content one l) ≡ line_units no_pools listed payload (line_content other l)
same_line one other listed payload l =
    ap (λ (i : ℕ). first_form l.units (is_sparse listed (line_content one l)) (raw_bodies i l.at (data_place payload) (bare l.insn)))
    (no_index (naming_of one l.insn) ∙ sym (no_index (naming_of other l.insn)))

same_lines : (one other : NameNo → List ℕ) (listed : List ℕ) (payload : ℕ) (ls : List Line)
    → lines_units no_pools listed payload (map (line_content one) ls) ≡ lines_units no_pools listed payload (map (line_content other) ls)
same_lines one other listed payload [] = refl
same_lines one other listed payload (l ∷ ls) =
    rw (same_line one other listed payload l, same_lines one other listed (next_data payload (data_of listed (line_content one l))) ls) refl

-- and their payloads
same_data : (one other : NameNo → List ℕ) (listed : List ℕ) (at : ℕ) (ls : List Line)
    → all_data listed at (map (line_content one) ls) ≡ all_data listed at (map (line_content other) ls)
same_data one other listed at [] = refl
same_data one other listed at (l ∷ ls) =
    ap (λ (rest : List ℕ). laid_data at (data_of listed (line_content one l)) ++ rest)
    (same_data one other listed (next_data at (data_of listed (line_content one l))) ls)

same_units : (one other : NameNo → List ℕ) (listed : List ℕ) (ls : List Line)
    → code_units no_pools listed (map (line_content one) ls) ≡ code_units no_pools listed (map (line_content other) ls)
unfolding code_units
same_units one other listed ls =
    rw (same_end one other 0 ls, same_lines one other listed (lines_end 0 (map (line_content other) ls)) ls, same_data one other listed (lines_end 0 (map (line_content other) ls)) ls) refl

same_fits : (one other : NameNo → List ℕ) (ls : List Line)
    → list_all (λ (l : LineContent). data_fits l.insn) (map (line_content one) ls) ≡ list_all (λ (l : LineContent). data_fits l.insn) (map (line_content other) ls)
same_fits one other [] = refl
same_fits one other (l ∷ ls) = ap (λ (b : Bool). data_fits (bare l.insn) && b) (same_fits one other ls)

-- the same for the ranges of handlers
same_catches : (one other : NameNo → List ℕ) (cs : List Catch)
    → list_all catch_spelled (map (catch_content one) cs) ≡ list_all catch_spelled (map (catch_content other) cs)
same_catches one other [] = refl
same_catches one other (c ∷ cs) = ap (λ (b : Bool). catch_spelled (catch_content one c) && b) (same_catches one other cs)

same_entry : (one other : NameNo → List ℕ) (c : Catch) (groups : List Group)
    → with_entry no_pools (catch_content one c) groups ≡ with_entry no_pools (catch_content other c) groups
same_entry one other c groups = by_type c.ty c.from c.to c.at groups
  where
    by_type : (ty : Option NameNo) (from to at : ℕ) (groups : List Group)
        → with_entry no_pools (catch_content one (record { from = from; to = to; ty = ty; at = at })) groups
        ≡ with_entry no_pools (catch_content other (record { from = from; to = to; ty = ty; at = at })) groups
    by_type None from to at groups = refl
    by_type (Some t) from to at [] = refl
    by_type (Some t) from to at (g ∷ gs) = refl

same_groups : (one other : NameNo → List ℕ) (cs : List Catch)
    → groups_of no_pools (map (catch_content one) cs) ≡ groups_of no_pools (map (catch_content other) cs)
same_groups one other [] = refl
same_groups one other (c ∷ cs) = rw (same_groups one other cs) (same_entry one other c (groups_of no_pools (map (catch_content other) cs)))

-- so a code that is laid out is so by any texts
pub laid_again : (one other : NameNo → List ℕ) (listed : List ℕ) (c : Code) → IsLaid listed (code_content one c) → IsLaid listed (code_content other c)
laid_again one other listed c laid = record {
  lines = lines_again one other listed c.insns laid.lines;
  payloads = rw (same_fits other one c.insns) laid.payloads;
  units =
      let first = front_lines 0 c.insns in
      let units : data_end listed (lines_end 0 (map (line_content one) first)) (map (line_content one) first) ≡ c.units =
      rw (front_content one 0 c.insns) at laid.units in
      rw (front_content other 0 c.insns, same_end other one 0 first, same_data_end other one listed (lines_end 0 (map (line_content one) first)) first) units;
  near = laid.near;
  forms =
      let first = front_lines 0 c.insns in
      let forms : IsSome (code_units no_pools listed (map (line_content one) first)) = rw (front_content one 0 c.insns) at laid.forms in
      rw (front_content other 0 c.insns, same_units other one listed first) forms;
  catches = rw (same_catches other one c.tries) laid.catches;
  ranges = rw (same_groups other one c.tries) laid.ranges;
}
