-- The test of a code tells whether it is laid out as the writer lays it out.
use Rattle.std.proofs.lemmas.Bool.{and_from, eqb-true, eq-eqb, leb-true, le-leb}
use Rattle.pi_format.proofs.Held.{both}
use Rattle.std.proofs.lemmas.List.{append_cancel_left}
use Rattle.std.proofs.lemmas.List.Folds.{list_all-append}
use Rattle.std.proofs.Common.{◌≡◌, ℕ, ◌+◌, ◌≤◌, List, [], ◌∷◌, ◌++◌, length, drop, Bool, true, false, refl, sym, ◌∙◌, ap, arith}
use Rattle.std.specs.Prelude.{◌==◌, ◌%◌, ◌^◌, ◌&&◌, nat_lt, nat_le, Option, Some, None, is_some, IsSome, if◌then◌else◌}
use Rattle.std.specs.List.{list_all}
use Rattle.pi_insn.specs.Chain.{◌>>=◌}
use Rattle.pi_model.specs.declared.insn.Insn.{Insn}
use Rattle.pi_model.specs.declared.insn.Insn.TheVariants.{Nop}
use Rattle.pi_contents.specs.Contents.{NoName, Naming, LineContent, CodeContent}
use Rattle.pi_classtables.specs.Numbers.{no_pools}
use Rattle.pi_classtables.specs.Layout.{data_of, next_data, data_end, data_fits, line_units, lines_units, code_units, front, lines_end, nop_line, pad_line, pad_lines}
use Rattle.pi_classtables.specs.Ranges.{groups_of}
use Rattle.pi_classtables.specs.Spelled.{IsLaid, catch_spelled, front_end}
use Rattle.pi_classtables.specs.Sized.{is_nothing}
use Rattle.pi_dexspelled.specs.Tests.{is_nop, is_pad, behind_nop, behind_pad, line_laid, behind_line, behind_lines, behind_front, ends_at, are_caught, are_laid, is_laid}

-- those in front are the first
if_front : (b : Bool) (l : LineContent) (first ls : List LineContent) → first ++ drop (length first) ls ≡ ls
    → (if b then l ∷ first else []) ++ drop (length (if b then l ∷ first else [])) (l ∷ ls) ≡ l ∷ ls
if_front true l first ls e = ap (λ (rest : List LineContent). l ∷ rest) e
if_front false l first ls e = refl

pub front_first : (at : ℕ) (ls : List LineContent) → front at ls ++ drop (length (front at ls)) ls ≡ ls
front_first at [] = refl
front_first at (l ∷ ls) = if_front ((l.at == at) && nat_lt 0 l.units) l (front (at + l.units) ls) ls (front_first (at + l.units) ls)

-- payloads end no earlier than they begin
next_after : (at : ℕ) (us : List ℕ) → at ≤ next_data at us
next_after at [] = omega arith
next_after at (u ∷ us) = omega arith

end_after : (listed : List ℕ) (at : ℕ) (ls : List LineContent) → at ≤ data_end listed at ls
end_after listed at [] = omega arith
end_after listed at (l ∷ ls) = omega (arith, next_after at (data_of listed l), end_after listed (next_data at (data_of listed l)) ls)

-- a nop at an address is the one that stands before a payload
nop_is : (i : Insn) → is_nop i ≡ true → i ≡ Nop
nop_is Nop e = refl
nop_is _ e = cc

nothing_is : (n : Naming) → is_nothing n ≡ true → n ≡ NoName
nothing_is NoName e = refl
nothing_is _ e = cc

pub pad_is : (at : ℕ) (l : LineContent) → is_pad at l ≡ true → l ≡ nop_line at
pad_is at l e =
    let (place, more) = both (l.at == at) ((l.units == 1) && (is_nop l.insn && is_nothing l.naming)) e in
    let (units, rest) = both (l.units == 1) (is_nop l.insn && is_nothing l.naming) more in
    let (insn, naming) = both (is_nop l.insn) (is_nothing l.naming) rest in
    same_line l.at at l.units l.insn l.naming (eqb-true l.at at place) (eqb-true l.units 1 units) (nop_is l.insn insn) (nothing_is l.naming naming)
  where
    same_line : (a b u : ℕ) (i : Insn) (n : Naming) → a ≡ b → u ≡ 1 → i ≡ Nop → n ≡ NoName
        → record { at = a; units = u; insn = i; naming = n } ≡ nop_line b
    same_line a b u i n ea eu ei en = rw (ea, eu, ei, en) refl

pub nop_is_pad : (at : ℕ) → is_pad at (nop_line at) ≡ true
nop_is_pad at = and_from (at == at) true (eq-eqb at at refl) refl

-- the instructions behind a nop, where it has to stand
by_nop : (at : ℕ) (r : LineContent) (rs more : List LineContent) (b : Bool) → is_pad at r ≡ b → (if b then Some rs else None) ≡ Some more
    → r ∷ rs ≡ nop_line at ∷ more
by_nop at r rs more true e s = let here = pad_is at r e in let behind : rs ≡ more = cc in rw (here, behind) refl
by_nop at r rs more false e s = cc

nop_taken : (at : ℕ) (rest more : List LineContent) → behind_nop at rest ≡ Some more → rest ≡ nop_line at ∷ more
nop_taken at [] more s = cc
nop_taken at (r ∷ rs) more s = by_nop at r rs more (is_pad at r) refl s

by_place : (at : ℕ) (rest more : List LineContent) (b : Bool) → (if b then Some rest else behind_nop at rest) ≡ Some more
    → rest ≡ (if b then [] else nop_line at ∷ []) ++ more
by_place at rest more true s = cc
by_place at rest more false s = nop_taken at rest more s

pad_taken : (at : ℕ) (us : List ℕ) (rest more : List LineContent) → behind_pad at us rest ≡ Some more → rest ≡ pad_line at us ++ more
pad_taken at [] rest more s = cc
pad_taken at (u ∷ us) rest more s = by_place at rest more (at % 2 == 0) s

-- and the other way
take_by_place : (at : ℕ) (more : List LineContent) (b : Bool)
    → (if b then Some ((if b then [] else nop_line at ∷ []) ++ more) else behind_nop at ((if b then [] else nop_line at ∷ []) ++ more)) ≡ Some more
take_by_place at more true = refl
take_by_place at more false = rw (nop_is_pad at) refl

take_pad : (at : ℕ) (us : List ℕ) (more : List LineContent) → behind_pad at us (pad_line at us ++ more) ≡ Some more
take_pad at [] more = refl
take_pad at (u ∷ us) more = take_by_place at more (at % 2 == 0)

-- units of several instructions
both_some : (a b : Option (List ℕ)) → is_some a ≡ true → is_some b ≡ true
    → is_some (a >>= (λ units. b >>= (λ rest. Some (units ++ rest)))) ≡ true
both_some (Some x) (Some y) p q = refl
both_some None b p q = cc
both_some (Some x) None p q = cc

some_both : (a b : Option (List ℕ)) → is_some (a >>= (λ units. b >>= (λ rest. Some (units ++ rest)))) ≡ true
    → (is_some a ≡ true) × (is_some b ≡ true)
some_both (Some x) (Some y) p = (refl, refl)
some_both None b p = cc
some_both (Some x) None p = cc

-- what the test asks of instructions and of those behind them
pub record AreLaid (listed : List ℕ) (at : ℕ) (ls rest : List LineContent) (end : ℕ) : Type 0 where
  pub pads : rest ≡ pad_lines listed at ls
  pub behind : data_end listed at ls ≡ end
  pub fit : list_all (λ (l : LineContent). data_fits l.insn) ls ≡ true
  pub units : is_some (lines_units no_pools listed at ls) ≡ true

-- a line that passes, and the rest behind its nop
pub record LineLaid (listed : List ℕ) (at : ℕ) (l : LineContent) (rest more : List LineContent) : Type 0 where
  pub laid : line_laid listed at l ≡ true
  pub pad : rest ≡ pad_line at (data_of listed l) ++ more

by_laid : (listed : List ℕ) (at : ℕ) (l : LineContent) (rest more : List LineContent) (b : Bool) → line_laid listed at l ≡ b
    → (if b then behind_pad at (data_of listed l) rest else None) ≡ Some more → LineLaid listed at l rest more
by_laid listed at l rest more true e s = record { laid = e; pad = pad_taken at (data_of listed l) rest more s }
by_laid listed at l rest more false e s = cc

line_taken : (listed : List ℕ) (at : ℕ) (l : LineContent) (rest more : List LineContent) → behind_line listed at l rest ≡ Some more
    → LineLaid listed at l rest more
line_taken listed at l rest more s = by_laid listed at l rest more (line_laid listed at l) refl s

-- where the test passes the instructions are laid so
line_facts : (listed : List ℕ) (at : ℕ) (l : LineContent) → line_laid listed at l ≡ true
    → (data_fits l.insn ≡ true) × ((is_some (line_units no_pools listed at l) ≡ true) × (nat_le (next_data at (data_of listed l)) (2 ^ 31) ≡ true))
line_facts listed at l e =
    let (fits, more) = both (data_fits l.insn) (is_some (line_units no_pools listed at l) && nat_le (next_data at (data_of listed l)) (2 ^ 31)) e in
    let (form, near) = both (is_some (line_units no_pools listed at l)) (nat_le (next_data at (data_of listed l)) (2 ^ 31)) more in
    (fits, (form, near))

laid_more : (listed : List ℕ) (at : ℕ) (l : LineContent) (ls rest more : List LineContent) (end : ℕ)
    → LineLaid listed at l rest more → AreLaid listed (next_data at (data_of listed l)) ls more end → AreLaid listed at (l ∷ ls) rest end
laid_more listed at l ls rest more end here behind =
    let (fits, (form, near)) = line_facts listed at l here.laid in
    record {
      pads = here.pad ∙ ap (λ (others : List LineContent). pad_line at (data_of listed l) ++ others) behind.pads;
      behind = behind.behind;
      fit = and_from (data_fits l.insn) (list_all (λ (m : LineContent). data_fits m.insn) ls) fits behind.fit;
      units = both_some (line_units no_pools listed at l) (lines_units no_pools listed (next_data at (data_of listed l)) ls) form behind.units;
    }

by_line : (listed : List ℕ) (at : ℕ) (l : LineContent) (ls rest : List LineContent) (end : ℕ)
    → ((more : List LineContent) → behind_lines listed (next_data at (data_of listed l)) ls more ≡ Some end → AreLaid listed (next_data at (data_of listed l)) ls more end)
    → (o : Option (List LineContent)) → behind_line listed at l rest ≡ o → (o >>= behind_lines listed (next_data at (data_of listed l)) ls) ≡ Some end
    → AreLaid listed at (l ∷ ls) rest end
by_line listed at l ls rest end others None e s = cc
by_line listed at l ls rest end others (Some more) e s =
    laid_more listed at l ls rest more end (line_taken listed at l rest more e) (others more s)

pub lines_taken : (listed : List ℕ) (at : ℕ) (ls rest : List LineContent) (end : ℕ) → behind_lines listed at ls rest ≡ Some end
    → AreLaid listed at ls rest end
lines_taken listed at [] [] end s = record { pads = refl; behind = cc; fit = refl; units = refl }
lines_taken listed at [] (r ∷ rs) end s = cc
lines_taken listed at (l ∷ ls) rest end s =
    by_line listed at l ls rest end (λ more. lines_taken listed (next_data at (data_of listed l)) ls more end) (behind_line listed at l rest) refl s

-- and where they are laid so, and end where distances reach, the test passes
near_end : (listed : List ℕ) (at : ℕ) (ls : List LineContent) (end : ℕ) → data_end listed at ls ≡ end → end ≤ 2 ^ 31 → nat_le at (2 ^ 31) ≡ true
near_end listed at ls end e near = let after = end_after listed at ls in le-leb at (2 ^ 31) (omega arith)

line_passes : (listed : List ℕ) (at : ℕ) (l : LineContent) (more : List LineContent) → line_laid listed at l ≡ true
    → behind_line listed at l (pad_line at (data_of listed l) ++ more) ≡ Some more
line_passes listed at l more e = rw e (take_pad at (data_of listed l) more)

pub take_lines : (listed : List ℕ) (at : ℕ) (ls rest : List LineContent) (end : ℕ) → AreLaid listed at ls rest end → end ≤ 2 ^ 31
    → behind_lines listed at ls rest ≡ Some end
take_lines listed at [] rest end laid near = rw (laid.pads, laid.behind) refl
take_lines listed at (l ∷ ls) rest end laid near =
    let next = next_data at (data_of listed l) in
    let (fits, others) = both (data_fits l.insn) (list_all (λ (m : LineContent). data_fits m.insn) ls) laid.fit in
    let (form, forms) = some_both (line_units no_pools listed at l) (lines_units no_pools listed next ls) laid.units in
    let close = near_end listed next ls end laid.behind near in
    let passes : line_laid listed at l ≡ true =
    and_from (data_fits l.insn) (is_some (line_units no_pools listed at l) && nat_le next (2 ^ 31)) fits
    (and_from (is_some (line_units no_pools listed at l)) (nat_le next (2 ^ 31)) form close) in
    rw (laid.pads, line_passes listed at l (pad_lines listed next ls) passes)
    (take_lines listed next ls (pad_lines listed next ls) end (record { pads = refl; behind = laid.behind; fit = others; units = forms }) near)

-- the units of a code
code_some : (listed : List ℕ) (ls : List LineContent) → (o : Option (List ℕ)) → lines_units no_pools listed (lines_end 0 ls) ls ≡ o
    → is_some o ≡ true → IsSome (code_units no_pools listed ls)
unfolding code_units
code_some listed ls (Some units) e p = rw e refl
code_some listed ls None e p = cc

some_code : (listed : List ℕ) (ls : List LineContent) (o : Option (List ℕ)) → lines_units no_pools listed (lines_end 0 ls) ls ≡ o
    → IsSome (code_units no_pools listed ls) → is_some o ≡ true
unfolding code_units
some_code listed ls (Some units) e p = refl
some_code listed ls None e p = rw e at p

-- nops have no payload
list_by_place : (at : ℕ) (b : Bool) → list_all (λ (l : LineContent). data_fits l.insn) (if b then [] else nop_line at ∷ []) ≡ true
list_by_place at true = refl
list_by_place at false = refl

pad_fits : (at : ℕ) (us : List ℕ) → list_all (λ (l : LineContent). data_fits l.insn) (pad_line at us) ≡ true
pad_fits at [] = refl
pad_fits at (u ∷ us) = list_by_place at (at % 2 == 0)

pads_fit : (listed : List ℕ) (at : ℕ) (ls : List LineContent) → list_all (λ (l : LineContent). data_fits l.insn) (pad_lines listed at ls) ≡ true
pads_fit listed at [] = refl
pads_fit listed at (l ∷ ls) =
    rw (list_all-append (λ (m : LineContent). data_fits m.insn) (pad_line at (data_of listed l)) (pad_lines listed (next_data at (data_of listed l)) ls))
    (and_from (list_all (λ (m : LineContent). data_fits m.insn) (pad_line at (data_of listed l)))
    (list_all (λ (m : LineContent). data_fits m.insn) (pad_lines listed (next_data at (data_of listed l)) ls))
    (pad_fits at (data_of listed l)) (pads_fit listed (next_data at (data_of listed l)) ls))

ends : (units : ℕ) (o : Option ℕ) → ends_at units o ≡ true → o ≡ Some units
ends units None e = cc
ends units (Some end) e = ap (λ (n : ℕ). Some n) (eqb-true end units e)

-- a code that passes the test
pub laid_is : (listed : List ℕ) (c : CodeContent) → is_laid listed c ≡ true → IsLaid listed c
laid_is listed c e =
    let first = front 0 c.lines in
    let (laid, caught) = both (are_laid listed c) (are_caught c.catches) e in
    let (near, lines) = both (nat_le (front_end c) (2 ^ 31) && nat_le c.units (2 ^ 31))
    (ends_at c.units (behind_lines listed (front_end c) first (behind_front c))) laid in
    let (start, units) = both (nat_le (front_end c) (2 ^ 31)) (nat_le c.units (2 ^ 31)) near in
    let (spelled, few) = both (list_all catch_spelled c.catches) (nat_le (length (groups_of no_pools c.catches)) 65535) caught in
    let taken = lines_taken listed (front_end c) first (behind_front c) c.units
    (ends c.units (behind_lines listed (front_end c) first (behind_front c)) lines) in
    let all : c.lines ≡ first ++ pad_lines listed (front_end c) first =
    sym (front_first 0 c.lines) ∙ ap (λ (rest : List LineContent). first ++ rest) taken.pads in
    record {
      lines = all;
      payloads = all_fit listed (front_end c) first c.lines all taken.fit;
      units = taken.behind;
      near = leb-true c.units (2 ^ 31) units;
      forms = code_some listed first (lines_units no_pools listed (front_end c) first) refl taken.units;
      catches = spelled;
      ranges = leb-true (length (groups_of no_pools c.catches)) 65535 few;
    }
  where
    all_fit : (listed : List ℕ) (at : ℕ) (first ls : List LineContent) → ls ≡ first ++ pad_lines listed at first
        → list_all (λ (l : LineContent). data_fits l.insn) first ≡ true → list_all (λ (l : LineContent). data_fits l.insn) ls ≡ true
    all_fit listed at first ls e fit =
        rw (e, list_all-append (λ (m : LineContent). data_fits m.insn) first (pad_lines listed at first))
        (and_from (list_all (λ (m : LineContent). data_fits m.insn) first)
        (list_all (λ (m : LineContent). data_fits m.insn) (pad_lines listed at first)) fit (pads_fit listed at first))

-- and one that is laid out so passes it
pub is_laid_of : (listed : List ℕ) (c : CodeContent) → IsLaid listed c → is_laid listed c ≡ true
is_laid_of listed c laid =
    let first = front 0 c.lines in
    let rest : behind_front c ≡ pad_lines listed (front_end c) first =
    append_cancel_left first (behind_front c) (pad_lines listed (front_end c) first) (front_first 0 c.lines ∙ laid.lines) in
    let start = end_after listed (front_end c) first in
    let units = laid.units in
    let near = laid.near in
    let fits = first_fits listed (front_end c) first c.lines laid.lines laid.payloads in
    let taken = take_lines listed (front_end c) first (behind_front c) c.units (record {
      pads = rest;
      behind = laid.units;
      fit = fits;
      units = some_code listed first (lines_units no_pools listed (front_end c) first) refl laid.forms;
    }) laid.near in
    let here : nat_le (front_end c) (2 ^ 31) ≡ true = le-leb (front_end c) (2 ^ 31) (omega arith) in
    let few : nat_le (length (groups_of no_pools c.catches)) 65535 ≡ true = le-leb (length (groups_of no_pools c.catches)) 65535 laid.ranges in
    and_from (are_laid listed c) (are_caught c.catches)
    (and_from (nat_le (front_end c) (2 ^ 31) && nat_le c.units (2 ^ 31))
    (ends_at c.units (behind_lines listed (front_end c) first (behind_front c)))
    (and_from (nat_le (front_end c) (2 ^ 31)) (nat_le c.units (2 ^ 31)) here (le-leb c.units (2 ^ 31) laid.near))
    (rw taken (eq-eqb c.units c.units refl)))
    (and_from (list_all catch_spelled c.catches) (nat_le (length (groups_of no_pools c.catches)) 65535) laid.catches few)
  where
    first_fits : (listed : List ℕ) (at : ℕ) (first ls : List LineContent) → ls ≡ first ++ pad_lines listed at first
        → list_all (λ (l : LineContent). data_fits l.insn) ls ≡ true → list_all (λ (l : LineContent). data_fits l.insn) first ≡ true
    first_fits listed at first ls e fit =
        let split = rw (e, list_all-append (λ (m : LineContent). data_fits m.insn) first (pad_lines listed at first)) at fit in
        (both (list_all (λ (m : LineContent). data_fits m.insn) first) (list_all (λ (m : LineContent). data_fits m.insn) (pad_lines listed at first)) split).0
