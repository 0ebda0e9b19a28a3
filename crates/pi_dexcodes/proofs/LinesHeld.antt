-- The instructions of a code by their contents: those before the payloads, the payloads, and where these end.
use Rattle.std.proofs.Common.{◌≡◌, ℕ, ◌+◌, ◌≤◌, ◌^◌, List, [], ◌∷◌, map, Bool, true, false, refl, sym, ap, ap₂, ◌∙◌, arith}
use Rattle.std.specs.Prelude.{◌==◌, ◌&&◌, ◌||◌, nat_lt, IsTrue, if◌then◌else◌}
use Rattle.std.specs.List.{All, list_all, list_any}
use Rattle.std.proofs.lemmas.Bool.{and_parts}
use Rattle.std.proofs.lemmas.List.Elements.{All-cons, All-nil}
use Rattle.pi_model.specs.declared.describe.Code.{Code}
use Rattle.pi_model.specs.declared.describe.Line.{Line}
use Rattle.pi_model.specs.declared.numbers.NameNo.{NameNo}
use Rattle.pi_contents.specs.Contents.{LineContent}
use Rattle.pi_contents.specs.Named.{line_content, code_content}
use Rattle.pi_classtables.specs.Layout.{is_sparse, data_of, payload_units, next_data, data_end, lines_end, front, data_fits}
use Rattle.pi_classtables.specs.Spelled.{IsLaid}
use Rattle.pi_dexcodes.specs.Front.{front_lines, end_of_lines, has_keys, data_for, end_of_data}
use Rattle.pi_dexcodes.proofs.Bare.{payload_bare, scattered_bare, fits_bare}

pub keys_are : (text : NameNo → List ℕ) (listed : List ℕ) (l : Line) → has_keys listed l ≡ is_sparse listed (line_content text l)
keys_are text listed l = ap (λ b. list_any (λ at. at == l.at) listed || b) (sym (scattered_bare l.insn))

pub data_are : (text : NameNo → List ℕ) (listed : List ℕ) (l : Line) → data_for listed l ≡ data_of listed (line_content text l)
data_are text listed l =
    ap (λ b. payload_units b l.at l.insn) (keys_are text listed l)
    ∙ sym (payload_bare (is_sparse listed (line_content text l)) l.at l.insn)

pub front_is : (text : NameNo → List ℕ) (at : ℕ) (lines : List Line) → map (line_content text) (front_lines at lines) ≡ front at (map (line_content text) lines)
front_is text at [] = refl
front_is text at (l ∷ ls) = by_test ((l.at == at) && nat_lt 0 l.units) (front_is text (at + l.units) ls)
  where
    by_test : (b : Bool) → map (line_content text) (front_lines (at + l.units) ls) ≡ front (at + l.units) (map (line_content text) ls)
        → map (line_content text) (if b then l ∷ front_lines (at + l.units) ls else [])
        ≡ (if b then line_content text l ∷ front (at + l.units) (map (line_content text) ls) else [])
    by_test true later = ap (λ cs. line_content text l ∷ cs) later
    by_test false later = refl

lines_end_is : (text : NameNo → List ℕ) (at : ℕ) (lines : List Line) → end_of_lines at lines ≡ lines_end at (map (line_content text) lines)
lines_end_is text at [] = refl
lines_end_is text at (l ∷ ls) = lines_end_is text (at + l.units) ls

pub front_end_is : (text : NameNo → List ℕ) (lines : List Line) → end_of_lines 0 (front_lines 0 lines) ≡ lines_end 0 (front 0 (map (line_content text) lines))
front_end_is text lines = lines_end_is text 0 (front_lines 0 lines) ∙ ap (lines_end 0) (front_is text 0 lines)

data_end_is : (text : NameNo → List ℕ) (listed : List ℕ) (at : ℕ) (lines : List Line) → end_of_data listed at lines ≡ data_end listed at (map (line_content text) lines)
data_end_is text listed at [] = refl
data_end_is text listed at (l ∷ ls) =
    ap (λ units. end_of_data listed (next_data at units) ls) (data_are text listed l)
    ∙ data_end_is text listed (next_data at (data_of listed (line_content text l))) ls

-- what is asked of a code that is laid out
pub data_near : (text : NameNo → List ℕ) (listed : List ℕ) (c : Code) → IsLaid listed (code_content text c)
    → end_of_data listed (end_of_lines 0 (front_lines 0 c.insns)) (front_lines 0 c.insns) ≤ 2 ^ 31
data_near text listed c laid =
    let ends : end_of_data listed (end_of_lines 0 (front_lines 0 c.insns)) (front_lines 0 c.insns) ≡ c.units =
    data_end_is text listed (end_of_lines 0 (front_lines 0 c.insns)) (front_lines 0 c.insns)
    ∙ ap₂ (data_end listed) (front_end_is text c.insns) (front_is text 0 c.insns)
    ∙ laid.units in
    omega (arith, laid.near)

data_fit_lines : (text : NameNo → List ℕ) (lines : List Line)
    → IsTrue (list_all (λ (l : LineContent). data_fits l.insn) (map (line_content text) lines)) → All (λ l. IsTrue (data_fits l.insn)) lines
data_fit_lines text [] fit = All-nil (λ l. IsTrue (data_fits l.insn))
data_fit_lines text (l ∷ ls) fit =
    let c = line_content text l in
    let parts = and_parts (data_fits c.insn) (list_all (λ (l : LineContent). data_fits l.insn) (map (line_content text) ls)) fit in
    All-cons (λ l. IsTrue (data_fits l.insn)) l ls (sym (fits_bare l.insn) ∙ parts.0) (data_fit_lines text ls parts.1)

pub data_fit : (text : NameNo → List ℕ) (listed : List ℕ) (c : Code) → IsLaid listed (code_content text c) → All (λ l. IsTrue (data_fits l.insn)) c.insns
data_fit text listed c laid = data_fit_lines text c.insns laid.payloads
