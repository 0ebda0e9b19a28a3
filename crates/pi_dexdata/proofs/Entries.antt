-- The entries of a handler table by their contents: what is asked of their ranges, and the ranges with handlers that they become.
use Rattle.std.proofs.Common.{◌≡◌, ℕ, ◌+◌, ◌≤◌, List, [], ◌∷◌, map, Bool, true, false, Option, Some, None, option_map, refl, sym, ap, ap₂, ◌∙◌, arith}
use Rattle.std.specs.Prelude.{◌==◌, ◌&&◌, nat_le, All, IsTrue, if◌then◌else◌}
use Rattle.std.specs.List.{list_all}
use Rattle.std.proofs.lemmas.Bool.{and_parts, leb-true, eqb-true}
use Rattle.std.proofs.lemmas.List.Elements.{All-cons}
use Rattle.pi_model.specs.declared.describe.Catch.{Catch as Entry}
use Rattle.pi_model.specs.declared.numbers.NameNo.{NameNo}
use Rattle.pi_dextables.specs.declared.tables.Catch.{Catch}
use Rattle.pi_contents.specs.Named.{catch_content}
use Rattle.pi_classtables.specs.Numbers.{Pools, type_no}
use Rattle.pi_classtables.specs.Ranges.{Group, with_entry, groups_of}
use Rattle.pi_classtables.specs.Spelled.{catch_spelled}
use Rattle.pi_dextables.specs.declared.tables.Catches.{Catches}
use Rattle.pi_dexdata.specs.Numbers.{with_caught, caught, no_text}
use Rattle.pi_dexdata.specs.Grouped.{with_number, number_for, numbers_behind, grouped}

-- what is asked of ranges does not depend on the texts of names
pub spelled_alike : (text other : NameNo → List ℕ) (entries : List Entry)
    → list_all catch_spelled (map (catch_content text) entries) ≡ list_all catch_spelled (map (catch_content other) entries)
spelled_alike text other [] = refl
spelled_alike text other (c ∷ cs) = ap (λ b. (nat_le c.from c.to && nat_le c.to (c.from + 65535)) && b) (spelled_alike text other cs)

-- a range that is spelled ends no earlier than it begins
pub in_order : (entries : List Entry) → IsTrue (list_all catch_spelled (map (catch_content no_text) entries)) → All (λ c. c.from ≤ c.to) entries
in_order [] spelled = λ k d lt. absurd (omega arith)
in_order (c ∷ cs) spelled =
    let parts = and_parts (nat_le c.from c.to && nat_le c.to (c.from + 65535)) (list_all catch_spelled (map (catch_content no_text) cs)) spelled in
    All-cons (λ c. c.from ≤ c.to) c cs (leb-true c.from c.to (and_parts (nat_le c.from c.to) (nat_le c.to (c.from + 65535)) parts.0).0) (in_order cs parts.1)

-- and its size fits 16 bits
pub in_reach : (entries : List Entry) → IsTrue (list_all catch_spelled (map (catch_content no_text) entries)) → All (λ c. c.to ≤ c.from + 65535) entries
in_reach [] spelled = λ k d lt. absurd (omega arith)
in_reach (c ∷ cs) spelled =
    let parts = and_parts (nat_le c.from c.to && nat_le c.to (c.from + 65535)) (list_all catch_spelled (map (catch_content no_text) cs)) spelled in
    All-cons (λ c. c.to ≤ c.from + 65535) c cs (leb-true c.to (c.from + 65535) (and_parts (nat_le c.from c.to) (nat_le c.to (c.from + 65535)) parts.0).1) (in_reach cs parts.1)

-- a range goes on in the first one behind it where that is the same, whichever of the two is taken for its bounds
same_bounds : (from to : ℕ) (catches : Catches) (g : Group) (gs rest : List Group) (b : Bool) → ((g.from == from) && (g.to == to)) ≡ b
    → (if b then record { from = from; to = to; catches = catches } ∷ gs else rest) ≡ (if b then record { from = g.from; to = g.to; catches = catches } ∷ gs else rest)
same_bounds from to catches g gs rest false e = refl
same_bounds from to catches g gs rest true e =
    let same = and_parts (g.from == from) (g.to == to) e in
    ap₂ (λ f t. record { from = f; to = t; catches = catches } ∷ gs) (sym (eqb-true g.from from same.0)) (sym (eqb-true g.to to same.1))

-- an entry that catches a type, before ranges
typed_entry : (p : Pools) (from to at : ℕ) (t : List ℕ) (groups : List Group)
    → with_number from to at (Some (type_no p t)) groups ≡ with_entry p (record { from = from; to = to; ty = Some t; at = at }) groups
typed_entry p from to at t [] = refl
typed_entry p from to at t (g ∷ gs) =
    let h : Catch = record { ty = type_no p t; to = at } in
    same_bounds from to (record { typed = h ∷ g.catches.typed; last = g.catches.last }) g gs
    (record { from = from; to = to; catches = record { typed = h ∷ []; last = None } } ∷ g ∷ gs) ((g.from == from) && (g.to == to)) refl

-- the numbers of the types that entries catch make of them the ranges that the types themselves do
pub grouped_is : (p : Pools) (text : NameNo → List ℕ) (entries : List Entry)
    → grouped entries (map (type_no p) (caught (map (catch_content text) entries))) ≡ groups_of p (map (catch_content text) entries)
grouped_is p text [] = refl
grouped_is p text (c ∷ cs) = by_type c.ty (grouped_is p text cs)
  where
    types : Option NameNo → List ℕ
    types ty = map (type_no p) (with_caught (option_map text ty) (caught (map (catch_content text) cs)))

    by_type : (ty : Option NameNo) → grouped cs (map (type_no p) (caught (map (catch_content text) cs))) ≡ groups_of p (map (catch_content text) cs)
        → with_number c.from c.to c.at (number_for ty (types ty)) (grouped cs (numbers_behind ty (types ty)))
        ≡ with_entry p (record { from = c.from; to = c.to; ty = option_map text ty; at = c.at }) (groups_of p (map (catch_content text) cs))
    by_type None later = ap (λ gs. with_number c.from c.to c.at None gs) later
    by_type (Some t) later =
        ap (λ gs. with_number c.from c.to c.at (Some (type_no p (text t))) gs) later
        ∙ typed_entry p c.from c.to c.at (text t) (groups_of p (map (catch_content text) cs))

pub groups_are : (p : Pools) (text : NameNo → List ℕ) (entries : List Entry) (numbers : List ℕ) (groups : List Group) → groups ≡ grouped entries numbers
    → map (type_no p) (caught (map (catch_content text) entries)) ≡ numbers → groups ≡ groups_of p (map (catch_content text) entries)
groups_are p text entries numbers groups made are = made ∙ ap (grouped entries) (sym are) ∙ grouped_is p text entries
