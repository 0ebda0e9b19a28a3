-- The handlers of a code catch types that there are, and stand in the code.
use Rattle.std.proofs.Common.{◌≡◌, ℕ, ◌<◌, ◌≤◌, true, List, [], Option, Some, None, arith, refl}
use Rattle.std.specs.Prelude.{◌&&◌, nat_lt, nat_le, IfSome, All}
use Rattle.std.specs.List.{list_all}
use Rattle.std.proofs.lemmas.Bool.{and_parts, leb-true, ltb-true, lt-ltb}
use Rattle.std.proofs.lemmas.List.{length-map}
use Rattle.std.proofs.lemmas.List.Elements.{All-nil, All-cons}
use Rattle.std.proofs.lemmas.List.Sums.{AllPass-from_list_all, list_all-from_AllPass}
use Rattle.pi_dextables.specs.declared.tables.Catch.{Catch}
use Rattle.pi_dextables.specs.declared.tables.Catches.{Catches}
use Rattle.pi_dextables.specs.declared.tables.Class.{Class}
use Rattle.pi_contents.specs.Contents.{CatchContent}
use Rattle.pi_contents.specs.Asked.{catch_fits}
use Rattle.pi_tablesaid.specs.Closed.{IsType}
use Rattle.pi_tablesaid.specs.Kept.{handlers_stand}
use Rattle.pi_classtables.specs.Numbers.{Pools, string_no, type_no}
use Rattle.pi_classtables.specs.Ranges.{Group, groups_of, lists_of}
use Rattle.pi_classtables.specs.Whole.{tables_with}
use Rattle.pi_classlaws.proofs.Known.{HoldsType}
use Rattle.pi_classlaws.proofs.HeldMembers.{CatchHeld, held_type}
use Rattle.pi_classlaws.proofs.Groups.{handler_of, handlers_alone, group_joined, groups_hold}
use Rattle.pi_classlaws.proofs.Listed.{lists_hold}

-- what handlers catch is among the types
module _ (p : Pools) (classes : List Class) where
  abbrev TypesThere : Catches → Type 0
  TypesThere l = All (λ (h : Catch). IsType (tables_with p classes) h.ty) l.typed

  type_there : (u : List ℕ) → HoldsType p u → IsType (tables_with p classes) (type_no p u)
  type_there u held = (let long = length-map p.types (string_no p) in let lt = held.number in omega (arith, long, lt))

  alone_there : (from to at : ℕ) (ty : Option (List ℕ)) → IfSome ty (HoldsType p)
      → TypesThere (handlers_alone p (record { from = from; to = to; ty = ty; at = at }) ty)
  alone_there from to at None held = All-nil (λ (h : Catch). IsType (tables_with p classes) h.ty)
  alone_there from to at (Some u) held =
      let There : Catch → Type 0 = λ (h : Catch). IsType (tables_with p classes) h.ty in
      All-cons There (record { ty = type_no p u; to = at }) [] (type_there u held) (All-nil There)

  groups_there : (cs : List CatchContent) → All (CatchHeld p) cs → All (λ (g : Group). TypesThere g.catches) (groups_of p cs)
  groups_there cs held =
      let There : Catch → Type 0 = λ (h : Catch). IsType (tables_with p classes) h.ty in
      groups_hold (λ (g : Group). TypesThere g.catches) (CatchHeld p) p
      (λ c here. alone_there c.from c.to c.at c.ty here)
      (λ c u g here caught from to there. All-cons There (handler_of p c u) g.catches.typed (type_there u (held_type p c.ty u here caught)) there)
      cs held

  pub handlers_named : (cs : List CatchContent) → All (CatchHeld p) cs
      → All (λ (l : Catches). All (λ (h : Catch). IsType (tables_with p classes) h.ty) l.typed) (lists_of (groups_of p cs))
  handlers_named cs held = lists_hold TypesThere (groups_of p cs) (groups_there cs held)

-- what is asked of an entry
pub record EntryFits (units : ℕ) (c : CatchContent) : Type 0 where
  pub forward : c.from ≤ c.to
  pub within : c.to ≤ units
  pub at : c.at < units

pub entry_fits : (units : ℕ) (c : CatchContent) → catch_fits units c ≡ true → EntryFits units c
entry_fits units c e =
    let parts = and_parts (nat_le c.from c.to) (nat_le c.to units && nat_lt c.at units) e in
    let more = and_parts (nat_le c.to units) (nat_lt c.at units) parts.1 in
    record { forward = leb-true c.from c.to parts.0; within = leb-true c.to units more.0; at = ltb-true c.at units more.1 }

-- handlers stand in the code, alone and with others
alone_stands : (p : Pools) (units from to at : ℕ) (ty : Option (List ℕ)) → at < units
    → handlers_stand units (handlers_alone p (record { from = from; to = to; ty = ty; at = at }) ty) ≡ true
alone_stands p units from to at None lt = lt-ltb at units lt
alone_stands p units from to at (Some u) lt = rw (lt-ltb at units lt) refl

joined_stands : (p : Pools) (units : ℕ) (c : CatchContent) (u : List ℕ) (g : Group) → c.at < units → handlers_stand units g.catches ≡ true
    → handlers_stand units (group_joined (handler_of p c u) g).catches ≡ true
joined_stands p units c u g lt rest = rw (lt-ltb c.at units lt) rest

pub handlers_lie : (p : Pools) (units : ℕ) (cs : List CatchContent) → list_all (catch_fits units) cs ≡ true
    → list_all (handlers_stand units) (lists_of (groups_of p cs)) ≡ true
handlers_lie p units cs fit =
    let Stands : Catches → Type 0 = λ (l : Catches). handlers_stand units l ≡ true in
    list_all-from_AllPass (handlers_stand units) (lists_of (groups_of p cs))
    (lists_hold Stands (groups_of p cs)
    (groups_hold (λ (g : Group). Stands g.catches) (λ (c : CatchContent). catch_fits units c ≡ true) p
    (λ c here. alone_stands p units c.from c.to c.at c.ty (entry_fits units c here).at)
    (λ c u g here caught from to rest. joined_stands p units c u g (entry_fits units c here).at rest)
    cs (AllPass-from_list_all (catch_fits units) cs fit)))
