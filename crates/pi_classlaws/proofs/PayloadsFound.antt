-- Addresses of pieces rise, so that each payload is found at its own.
use Rattle.std.proofs.Common.{◌≡◌, ℕ, ◌+◌, ◌%◌, ◌<◌, ◌≤◌, ◌==◌, true, false, List, [], ◌∷◌, ◌++◌, length, Some, refl, sym, ◌∙◌, subst, arith, ◌⊎◌, inl, inr, append_assoc}
use Rattle.std.specs.List.{AllByRecursion}
use Rattle.std.proofs.lemmas.Bool.{cases_Bool, eqb-false, eq-eqb, ne_eqb}
use Rattle.pi_insn.specs.declared.raw.RawInsn.{RawInsn}
use Rattle.pi_insn.specs.Payloads.{Data}
use Rattle.pi_format.specs.Rules.Pieces.{Piece, payload_found, found_at}
use Rattle.pi_contents.specs.Contents.{LineContent}
use Rattle.pi_classtables.specs.Layout.{data_of, data_place, next_data, lines_end, lines_follow}
use Rattle.pi_classlaws.proofs.LinesFormed.{line_pieces, follows}
use Rattle.pi_classlaws.proofs.PayloadsLaid.{payload_piece, padded_pieces, laid_pieces, data_pieces}

-- pieces that begin before an address
abbrev pub AllBefore : ℕ → List Piece → Type 0
AllBefore to pieces = AllByRecursion (λ (q : Piece). q.at < to) pieces

before_more : (to later : ℕ) (ps : List Piece) → to ≤ later → AllBefore to ps → AllBefore later ps
before_more to later [] le before = tt
before_more to later (q ∷ ps) le before = (omega (arith, before.0), before_more to later ps le before.1)

before_joined : (to : ℕ) (ps qs : List Piece) → AllBefore to ps → AllBefore to qs → AllBefore to (ps ++ qs)
before_joined to [] qs left right = right
before_joined to (p ∷ ps) qs left right = (left.0, before_joined to ps qs left.1 right)

-- they hold no payload there
passed_over : (ps qs : List Piece) (at : ℕ) → AllBefore at ps → payload_found (ps ++ qs) at ≡ payload_found qs at
passed_over [] qs at before = refl
passed_over (p ∷ ps) qs at before =
    let apart : (p.at == at) ≡ false = ne_eqb p.at at (λ same. omega (arith, before.0, same)) in
    rw apart (passed_over ps qs at before.1)

found_first : (at : ℕ) (d : Data) (qs : List Piece) → payload_found (payload_piece at d ∷ qs) at ≡ Some d
found_first at d qs = let same : (at == at) ≡ true = eq-eqb at at refl in rw same refl

-- lines begin before the address behind them
pub end_behind : (at : ℕ) (ls : List LineContent) → at ≤ lines_end at ls
end_behind at [] = omega arith
end_behind at (l ∷ ls) = omega (arith, end_behind (at + l.units) ls)

pub lines_before : (at : ℕ) (ls : List LineContent) (is : List RawInsn) → lines_follow at ls ≡ true → AllBefore (lines_end at ls) (line_pieces ls is)
lines_before at [] is follow = tt
lines_before at (l ∷ ls) [] follow = tt
lines_before at (l ∷ ls) (i ∷ is) follow =
    let f = follows at l ls follow in
    (omega (arith, f.begins, f.some, end_behind (at + l.units) ls), lines_before (at + l.units) ls is f.later)

-- the pieces of a payload begin before what is laid behind it
padded_before : (at long : ℕ) (d : Data) → 0 < long → AllBefore (data_place at + long) (padded_pieces at d)
padded_before at long d some = by_place (cases_Bool (at % 2 == 0))
  where
    by_place : ((at % 2 == 0) ≡ true) ⊎ ((at % 2 == 0) ≡ false) → AllBefore (data_place at + long) (padded_pieces at d)
    by_place (inl even) = rw even (omega arith, tt)
    by_place (inr odd) = rw odd (omega arith, (omega arith, tt))

laid_before : (at : ℕ) (units : List ℕ) (d : Data) → AllBefore (next_data at units) (laid_pieces at units d)
laid_before at [] d = tt
laid_before at (u ∷ us) d = padded_before at (length (u ∷ us)) d (omega arith)

pub next_behind : (at : ℕ) (units : List ℕ) → at ≤ next_data at units
next_behind at [] = omega arith
next_behind at (u ∷ us) = omega arith

-- a payload that is laid from an address on is found at its place
padded_found : (before : List Piece) (at : ℕ) (d : Data) (qs : List Piece) → AllBefore at before
    → payload_found (before ++ (padded_pieces at d ++ qs)) (data_place at) ≡ Some d
padded_found before at d qs earlier =
    passed_over before (padded_pieces at d ++ qs) (data_place at) (before_more at (data_place at) before (omega arith) earlier)
    ∙ by_place (cases_Bool (at % 2 == 0))
  where
    by_place : ((at % 2 == 0) ≡ true) ⊎ ((at % 2 == 0) ≡ false) → payload_found (padded_pieces at d ++ qs) (data_place at) ≡ Some d
    by_place (inl even) = rw even (found_first (data_place at) d qs)
    by_place (inr odd) =
        let uneven = eqb-false (at % 2) 0 odd in
        let apart : (at == data_place at) ≡ false = ne_eqb at (data_place at) (λ same. omega (arith, same, uneven)) in
        rw (odd, apart) (found_first (data_place at) d qs)

found_even : (pieces : List Piece) (at : ℕ) (d : Data) → payload_found pieces (data_place at) ≡ Some d → found_at pieces (Some (data_place at)) ≡ Some d
found_even pieces at d found =
    let even : (data_place at % 2 == 0) ≡ true = eq-eqb (data_place at % 2) 0 (omega arith) in
    rw even found

-- so it is for each line that has one
abbrev pub AreFound : List Piece → List ℕ → (LineContent → Data) → ℕ → List LineContent → Type 0
AreFound pieces listed said at [] = Unit {0}
AreFound pieces listed said at (l ∷ ls) =
    ((u : ℕ) (us : List ℕ) → data_of listed l ≡ u ∷ us → found_at pieces (Some (data_place at)) ≡ Some (said l))
    × AreFound pieces listed said (next_data at (data_of listed l)) ls

laid_found : (before : List Piece) (at : ℕ) (units : List ℕ) (d : Data) (qs : List Piece) (u : ℕ) (us : List ℕ) → AllBefore at before → units ≡ u ∷ us
    → payload_found (before ++ (laid_pieces at units d ++ qs)) (data_place at) ≡ Some d
laid_found before at units d qs u us earlier e =
    subst (λ (vs : List ℕ). payload_found (before ++ (laid_pieces at vs d ++ qs)) (data_place at) ≡ Some d) (sym e) (padded_found before at d qs earlier)

pub all_found : (before : List Piece) (listed : List ℕ) (said : LineContent → Data) (at : ℕ) (ls : List LineContent) → AllBefore at before
    → AreFound (before ++ data_pieces listed said at ls) listed said at ls
all_found before listed said at [] earlier = tt
all_found before listed said at (l ∷ ls) earlier =
    let units = data_of listed l in
    let next = next_data at units in
    let here = laid_pieces at units (said l) in
    let others = data_pieces listed said next ls in
    let first : AllBefore next (before ++ here) =
    before_joined next before here (before_more at next before (next_behind at units) earlier) (laid_before at units (said l)) in (
      λ u us e. found_even (before ++ (here ++ others)) at (said l) (laid_found before at units (said l) others u us earlier e),
      subst (λ (ps : List Piece). AreFound ps listed said next ls) (append_assoc before here others) (all_found (before ++ here) listed said next ls first),
    )
