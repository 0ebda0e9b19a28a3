-- The numbers of what instructions name lay them out as the pools themselves do.
use Rattle.std.proofs.Common.{◌≡◌, ℕ, ◌+◌, List, [], ◌∷◌, ◌++◌, map, Bool, true, false, Option, Some, None, refl, sym, ap, ap₂, ◌∙◌, append_assoc}
use Rattle.std.specs.Prelude.{◌==◌, ◌&&◌, nat_lt, if◌then◌else◌}
use Rattle.std.specs.List.{flat_map}
use Rattle.std.proofs.lemmas.List.{append-nil}
use Rattle.pi_insn.specs.Chain.{◌>>=◌}
use Rattle.pi_model.specs.declared.describe.Line.{Line}
use Rattle.pi_model.specs.declared.numbers.NameNo.{NameNo}
use Rattle.pi_contents.specs.Contents.{LineContent}
use Rattle.pi_contents.specs.Named.{line_content, naming_of}
use Rattle.pi_contents.specs.Naming.{named_by_line}
use Rattle.pi_classtables.specs.Forms.{first_form}
use Rattle.pi_classtables.specs.Layout.{data_of, data_place, laid_data, next_data, all_data, line_units, lines_units, code_units, front}
use Rattle.pi_classtables.specs.Numbers.{Pools, index_of}
use Rattle.pi_dexcodes.specs.declared.payloads.Laid.{Laid}
use Rattle.pi_dexcodes.specs.Front.{front_lines, end_of_lines}
use Rattle.pi_dexcodes.specs.Laying.{form_for, with_data, laid_lines, laid_code}
use Rattle.pi_dexcodes.proofs.Bare.{bodies_bare}
use Rattle.pi_dexcodes.proofs.LinesHeld.{keys_are, data_are, front_end_is}

-- the units of one instruction
form_is : (p : Pools) (text : NameNo → List ℕ) (listed : List ℕ) (next : ℕ) (l : Line)
    → form_for listed (index_of p (naming_of text l.insn)) next l ≡ line_units p listed next (line_content text l)
form_is p text listed next l =
    ap₂ (λ b bodies. first_form l.units b bodies) (keys_are text listed l)
    (sym (bodies_bare (index_of p (naming_of text l.insn)) l.at (data_place next) l.insn))

-- what is laid before, and what comes behind it
abbrev behind : List ℕ → Laid → Option (List ℕ) → List LineContent → Option (List ℕ)
behind listed laid units cs = units >>= (λ rest. Some ((laid.units ++ rest) ++ (laid.payloads ++ all_data listed laid.next cs)))

nothing_behind : (laid : Laid) → ◌≡◌ {A = Option (List ℕ)} (Some (laid.units ++ laid.payloads)) (Some ((laid.units ++ []) ++ (laid.payloads ++ [])))
nothing_behind laid = ap₂ (λ xs ys. Some (xs ++ ys)) (sym (append-nil laid.units)) (sym (append-nil laid.payloads))

-- an instruction that is laid, before the others
one_more : (listed : List ℕ) (laid : Laid) (form units : List ℕ) (others : Option (List ℕ)) (cs : List LineContent)
    → behind listed (with_data units (record { units = laid.units ++ form; payloads = laid.payloads; next = laid.next })) others cs
    ≡ ((others >>= (λ rest. Some (form ++ rest))) >>= (λ rest. Some ((laid.units ++ rest)
    ++ (laid.payloads ++ (laid_data laid.next units ++ all_data listed (next_data laid.next units) cs)))))
one_more listed laid form units None cs = refl
one_more listed laid form units (Some rest) cs =
    ap₂ (λ xs ys. Some (xs ++ ys)) (append_assoc laid.units form rest)
    (append_assoc laid.payloads (laid_data laid.next units) (all_data listed (next_data laid.next units) cs))

pub laid_are : (p : Pools) (text : NameNo → List ℕ) (listed more : List ℕ) (lines : List Line) (at : ℕ) (laid : Laid)
    → laid_lines listed (map (index_of p) (flat_map named_by_line (map (line_content text) lines)) ++ more) laid (front_lines at lines)
    ≡ behind listed laid (lines_units p listed laid.next (front at (map (line_content text) lines))) (front at (map (line_content text) lines))
laid_are p text listed more [] at laid = nothing_behind laid
laid_are p text listed more (l ∷ ls) at laid = by_test ((l.at == at) && nat_lt 0 l.units) (λ after. laid_are p text listed more ls (at + l.units) after)
  where
    c : LineContent
    c = line_content text l

    numbers : List ℕ
    numbers = map (index_of p) (flat_map named_by_line (map (line_content text) ls)) ++ more

    others : List Line
    others = front_lines (at + l.units) ls

    contents : List LineContent
    contents = front (at + l.units) (map (line_content text) ls)

    Later : Type 0
    Later = (after : Laid) → laid_lines listed numbers after others ≡ behind listed after (lines_units p listed after.next contents) contents

    by_form : Later → (form : Option (List ℕ)) (units : List ℕ)
        → ((form >>= (λ us. Some (with_data units (record { units = laid.units ++ us; payloads = laid.payloads; next = laid.next }))))
        >>= (λ after. laid_lines listed numbers after others))
        ≡ ((form >>= (λ us. lines_units p listed (next_data laid.next units) contents >>= (λ rest. Some (us ++ rest))))
        >>= (λ rest. Some ((laid.units ++ rest) ++ (laid.payloads ++ (laid_data laid.next units ++ all_data listed (next_data laid.next units) contents)))))
    by_form later None units = refl
    by_form later (Some us) units =
        later (with_data units (record { units = laid.units ++ us; payloads = laid.payloads; next = laid.next }))
        ∙ one_more listed laid us units (lines_units p listed (next_data laid.next units) contents) contents

    by_test : (b : Bool) → Later
        → laid_lines listed (index_of p (naming_of text l.insn) ∷ numbers) laid (if b then l ∷ others else [])
        ≡ behind listed laid (lines_units p listed laid.next (if b then c ∷ contents else [])) (if b then c ∷ contents else [])
    by_test false later = nothing_behind laid
    by_test true later =
        ap₂ (λ (form : Option (List ℕ)) (units : List ℕ). (form >>= (λ us. Some (with_data units (record { units = laid.units ++ us; payloads = laid.payloads; next = laid.next }))))
        >>= (λ after. laid_lines listed numbers after others)) (form_is p text listed laid.next l) (data_are text listed l)
        ∙ by_form later (line_units p listed laid.next c) (data_of listed c)

pub units_are : (p : Pools) (text : NameNo → List ℕ) (listed more : List ℕ) (lines : List Line)
    → laid_code listed (map (index_of p) (flat_map named_by_line (map (line_content text) lines)) ++ more) lines
    ≡ code_units p listed (front 0 (map (line_content text) lines))
unfolding code_units
units_are p text listed more lines =
    laid_are p text listed more lines 0 (record { units = []; payloads = []; next = end_of_lines 0 (front_lines 0 lines) })
    ∙ ap (λ next. lines_units p listed next cs >>= (λ rest. Some (rest ++ all_data listed next cs))) (front_end_is text lines)
  where
    cs : List LineContent
    cs = front 0 (map (line_content text) lines)
