-- The instructions of a code before its payloads, and those behind: which they are does not depend on what they name.
use Rattle.std.proofs.Common.{◌≡◌, ℕ, ◌+◌, List, [], ◌∷◌, ◌++◌, map, Bool, true, false, refl, sym, ◌∙◌, ap}
use Rattle.std.specs.Prelude.{◌==◌, ◌%◌, ◌&&◌, nat_lt, if◌then◌else◌}
use Rattle.std.specs.List.{All}
use Rattle.std.proofs.lemmas.List.{map-append, append_cancel_left}
use Rattle.std.proofs.lemmas.List.Elements.{All-nil, All-cons, All-append, All-head, All-tail, All-same}
use Rattle.pi_model.specs.declared.describe.Line.{Line}
use Rattle.pi_model.specs.declared.insn.Insn.TheVariants.{Nop}
use Rattle.pi_model.specs.declared.numbers.NameNo.{NameNo}
use Rattle.pi_contents.specs.Contents.{LineContent}
use Rattle.pi_contents.specs.Named.{line_content}
use Rattle.pi_classtables.specs.Layout.{data_of, next_data, data_end, lines_end, front, nop_line, pad_line, pad_lines}
use Rattle.pi_dexsizes.proofs.Bare.{nop_named}

-- whether a line begins at an address and is not empty
abbrev begins : ℕ → Line → Bool
begins at l = (l.at == at) && nat_lt 0 l.units

-- the lines that follow each other from an address on, and those behind them
pub front_lines : ℕ → List Line → List Line
front_lines at [] = []
front_lines at (l ∷ ls) = if begins at l then l ∷ front_lines (at + l.units) ls else []

lines_behind : ℕ → List Line → List Line
lines_behind at [] = []
lines_behind at (l ∷ ls) = if begins at l then lines_behind (at + l.units) ls else l ∷ ls

-- together they are all
joined_by : (b : Bool) (l : Line) (first behind ls : List Line) → first ++ behind ≡ ls
    → (if b then l ∷ first else []) ++ (if b then behind else l ∷ ls) ≡ l ∷ ls
joined_by true l first behind ls e = ap (λ (rest : List Line). l ∷ rest) e
joined_by false l first behind ls e = refl

front_and_behind : (at : ℕ) (ls : List Line) → front_lines at ls ++ lines_behind at ls ≡ ls
unfolding front_lines lines_behind
front_and_behind at [] = refl
front_and_behind at (l ∷ ls) =
    joined_by (begins at l) l (front_lines (at + l.units) ls) (lines_behind (at + l.units) ls) ls (front_and_behind (at + l.units) ls)

-- those in front, as contents
map_under : {X Y : Type 0} (f : X → Y) (b : Bool) (x : X) (xs : List X) → (if b then f x ∷ map f xs else []) ≡ map f (if b then x ∷ xs else [])
map_under f true x xs = refl
map_under f false x xs = refl

pub front_content : (text : NameNo → List ℕ) (at : ℕ) (ls : List Line) → front at (map (line_content text) ls) ≡ map (line_content text) (front_lines at ls)
unfolding front_lines
front_content text at [] = refl
front_content text at (l ∷ ls) =
    ap (λ (rest : List LineContent). if begins at l then line_content text l ∷ rest else []) (front_content text (at + l.units) ls)
    ∙ map_under (line_content text) (begins at l) l (front_lines (at + l.units) ls)

-- the address behind lines, the nops before their payloads, and the address behind these
pub same_end : (one other : NameNo → List ℕ) (at : ℕ) (ls : List Line) → lines_end at (map (line_content one) ls) ≡ lines_end at (map (line_content other) ls)
same_end one other at [] = refl
same_end one other at (l ∷ ls) = same_end one other (at + l.units) ls

pub same_pads : (one other : NameNo → List ℕ) (listed : List ℕ) (at : ℕ) (ls : List Line)
    → pad_lines listed at (map (line_content one) ls) ≡ pad_lines listed at (map (line_content other) ls)
same_pads one other listed at [] = refl
same_pads one other listed at (l ∷ ls) =
    ap (λ (rest : List LineContent). pad_line at (data_of listed (line_content one l)) ++ rest)
    (same_pads one other listed (next_data at (data_of listed (line_content one l))) ls)

pub same_data_end : (one other : NameNo → List ℕ) (listed : List ℕ) (at : ℕ) (ls : List Line)
    → data_end listed at (map (line_content one) ls) ≡ data_end listed at (map (line_content other) ls)
same_data_end one other listed at [] = refl
same_data_end one other listed at (l ∷ ls) = same_data_end one other listed (next_data at (data_of listed (line_content one l))) ls

-- those nops are nops
abbrev IsNop : LineContent → Type 0
IsNop l = l.insn ≡ Nop

nop_under : (b : Bool) (at : ℕ) → All IsNop (if b then [] else nop_line at ∷ [])
nop_under true at = All-nil IsNop
nop_under false at = All-cons IsNop (nop_line at) [] refl (All-nil IsNop)

pad_nops : (at : ℕ) (data_units : List ℕ) → All IsNop (pad_line at data_units)
pad_nops at [] = All-nil IsNop
pad_nops at (u ∷ us) = nop_under (at % 2 == 0) at

pads_nops : (listed : List ℕ) (at : ℕ) (ls : List LineContent) → All IsNop (pad_lines listed at ls)
pads_nops listed at [] = All-nil IsNop
pads_nops listed at (l ∷ ls) =
    All-append IsNop (pad_line at (data_of listed l)) (pad_lines listed (next_data at (data_of listed l)) ls)
    (pad_nops at (data_of listed l)) (pads_nops listed (next_data at (data_of listed l)) ls)

-- lines that are nops are the same by any texts
same_nop : (one other : NameNo → List ℕ) (l : Line) → IsNop (line_content one l) → line_content other l ≡ line_content one l
same_nop one other l e = rw (nop_named one other l.insn e) refl

same_nops : (one other : NameNo → List ℕ) (ls : List Line) → All IsNop (map (line_content one) ls)
    → map (line_content other) ls ≡ map (line_content one) ls
same_nops one other [] nops = refl
same_nops one other (l ∷ ls) nops =
    let here = same_nop one other l (All-head IsNop (line_content one l) (map (line_content one) ls) nops) in
    let behind = same_nops one other ls (All-tail IsNop (line_content one l) (map (line_content one) ls) nops) in
    rw (here, behind) refl

-- so where the lines behind are nops by the texts of one, they are the same nops by those of another
abbrev nops_by : (NameNo → List ℕ) → List ℕ → List Line → List LineContent
nops_by text listed ls = pad_lines listed (lines_end 0 (map (line_content text) ls)) (map (line_content text) ls)

same_nops_by : (one other : NameNo → List ℕ) (listed : List ℕ) (ls : List Line) → nops_by one listed ls ≡ nops_by other listed ls
same_nops_by one other listed ls =
    rw (same_end one other 0 ls) (same_pads one other listed (lines_end 0 (map (line_content other) ls)) ls)

behind_again : (one other : NameNo → List ℕ) (listed : List ℕ) (first behind : List Line)
    → map (line_content one) (first ++ behind) ≡ map (line_content one) first ++ nops_by one listed first
    → map (line_content other) (first ++ behind) ≡ map (line_content other) first ++ nops_by other listed first
behind_again one other listed first behind e =
    let cut = append_cancel_left (map (line_content one) first) (map (line_content one) behind) (nops_by one listed first)
    (sym (map-append (line_content one) first behind) ∙ e) in
    let nops = All-same IsNop (map (line_content one) behind) (nops_by one listed first) cut
    (pads_nops listed (lines_end 0 (map (line_content one) first)) (map (line_content one) first)) in
    map-append (line_content other) first behind
    ∙ ap (λ (rest : List LineContent). map (line_content other) first ++ rest)
    (same_nops one other behind nops ∙ (cut ∙ same_nops_by one other listed first))

-- the lines of a code as contents: those in front, and nops behind
abbrev pub AreLaid : (NameNo → List ℕ) → List ℕ → List Line → Type 0
AreLaid text listed ls =
    map (line_content text) ls
    ≡ front 0 (map (line_content text) ls) ++ pad_lines listed (lines_end 0 (front 0 (map (line_content text) ls))) (front 0 (map (line_content text) ls))

pub lines_again : (one other : NameNo → List ℕ) (listed : List ℕ) (ls : List Line) → AreLaid one listed ls → AreLaid other listed ls
lines_again one other listed ls e =
    let parts = front_and_behind 0 ls in
    let first = front_lines 0 ls in
    let fronted : map (line_content one) ls ≡ map (line_content one) first ++ nops_by one listed first = rw (front_content one 0 ls) at e in
    let split : map (line_content one) (first ++ lines_behind 0 ls) ≡ map (line_content one) first ++ nops_by one listed first = rw parts fronted in
    let again = behind_again one other listed first (lines_behind 0 ls) split in
    let joined : map (line_content other) ls ≡ map (line_content other) first ++ nops_by other listed first = rw parts at again in
    rw (front_content other 0 ls) joined
