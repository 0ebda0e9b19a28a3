-- A file that says closed tables whose codes hold keeps X20.
use Rattle.std.proofs.Common.{◌≡◌, ℕ, ◌<◌, List, [], ◌++◌, length, get_or, Option, Some, None, Bool, true, inl, inr, refl, sym, ap, subst, ◌∙◌, arith}
use Rattle.std.specs.Prelude.{◌==◌, ◌&&◌, nat_lt, nat_le, All, IfSome, IsTrue, is_some, if◌then◌else◌}
use Rattle.std.specs.List.{list_all}
use Rattle.std.proofs.lemmas.Bool.{and_parts, and_from, cases_Bool}
use Rattle.std.proofs.lemmas.Bool.Decides.{nat_tests}
use Rattle.std.proofs.lemmas.List.Elements.{All-append}
use Rattle.std.proofs.lemmas.List.Sums.{AllPass-from_list_all}
use Rattle.pi_insn.specs.Chain.{◌>>=◌}
use Rattle.pi_format.specs.Rules.Header.{unless}
use Rattle.pi_format.specs.Rules.Rows.{MemberRow}
use Rattle.pi_format.specs.Rules.CodeItems.{CodeHead, HandlerList, code_head, code_lies, lists_at, handler_lists, ranges_hold, ranges_have_lists, code_lists, argument_words, code_holds, broken_code}
use Rattle.pi_dextables.specs.declared.tables.Body.{Body}
use Rattle.pi_dextables.specs.declared.tables.Class.{Class}
use Rattle.pi_dextables.specs.declared.tables.MethodRow.{MethodRow}
use Rattle.pi_dextables.specs.declared.tables.Tables.{Tables}
use Rattle.pi_dextables.specs.Codes.{read_lists}
use Rattle.pi_dextables.specs.Said.{held, handlers_hold, head_of, first_list, BodySaid, IsSaid}
use Rattle.pi_dextables.specs.Writable.{BodyFits, MethodFits, ClassFits, IsWritable}
use Rattle.pi_contents.specs.Asked.{argument_words as words_asked}
use Rattle.pi_tablesaid.specs.Content.{method_said}
use Rattle.pi_tablesaid.specs.Closed.{BodyCloses, IsClosed}
use Rattle.pi_tablesaid.specs.Kept.{ranges_lie, handlers_stand, body_holds, method_holds, class_codes_hold}
use Rattle.pi_tablesaid.proofs.ArgumentWords.{words_are}
use Rattle.pi_tablesaid.proofs.EachCode.{CodeStands, EachMethod, none_in_code}
use Rattle.pi_tablesaid.proofs.MethodsClosed.{MethodThere, methods_there}
use Rattle.pi_tablesaid.proofs.RangesHeld.{ranges_found, ranges_held, lists_held}

-- the rule on lists and on codes, by the head that a code has
abbrev lists_with : List ℕ → ℕ → CodeHead → Option (List HandlerList)
lists_with file at head =
    if head.tries == 0 then Some [] else
    if ranges_hold file at head then (do
      lists ← handler_lists file head.units (lists_at at head)
      if ranges_have_lists file at head lists then Some lists else None)
    else None

abbrev holds_with : List ℕ → ℕ → ℕ → CodeHead → Bool
holds_with file words at head =
    code_lies file at && ((head.ins == words) && (nat_le words head.registers && (nat_lt 0 head.units && is_some (lists_with file at head))))

holds_by_head : (file : List ℕ) (words at : ℕ) (head : CodeHead) → code_head file at ≡ head → holds_with file words at head ≡ true → code_holds file words at ≡ true
unfolding code_holds code_lists
holds_by_head file words at head is holds = subst (λ (h : CodeHead). holds_with file words at h ≡ true) (sym is) holds

-- what holds of a code of the tables
record BodyHolds (words : ℕ) (b : Body) : Type 0 where
  ins : (b.ins == words) ≡ true
  registers : nat_le words b.registers ≡ true
  units : nat_lt 0 (length b.units) ≡ true
  ranges : ranges_lie (length b.units) 0 b.ranges ≡ true
  lists : list_all (handlers_stand (length b.units)) b.lists ≡ true

parts_hold : (words : ℕ) (b : Body) → body_holds words (Some b) ≡ true → BodyHolds words b
parts_hold words b e =
    let ranges : Bool = ranges_lie (length b.units) 0 b.ranges in
    let lists : Bool = list_all (handlers_stand (length b.units)) b.lists in
    let p = and_parts (b.ins == words) (nat_le words b.registers && (nat_lt 0 (length b.units) && (ranges && lists))) e in
    let q = and_parts (nat_le words b.registers) (nat_lt 0 (length b.units) && (ranges && lists)) p.1 in
    let r = and_parts (nat_lt 0 (length b.units)) (ranges && lists) q.1 in
    let s = and_parts ranges lists r.1 in
    record { ins = p.0; registers = q.0; units = r.0; ranges = s.0; lists = s.1 }

-- there are lists where those that were read pass each test
given : (a b : Bool) (lists : List HandlerList) (reading : Option (List HandlerList)) (have : List HandlerList → Bool)
    → a ≡ true → b ≡ true → have lists ≡ true → reading ≡ held b lists
    → is_some (if a then (reading >>= (λ ls. if have ls then Some ls else None)) else None) ≡ true
given a b lists reading have ea eb ec er = rw (ea, er, eb, ec) refl

lists_there : (file : List ℕ) (t : Tables) → IsSaid file t → (words at : ℕ) (b : Body) → BodySaid file at b → BodyFits b → BodyCloses t b → BodyHolds words b
    → is_some (lists_with file at (head_of b)) ≡ true
lists_there file t said words at b body fits closes holds =
    elim (cases_Bool (length b.ranges == 0)) [
      | inl none ↦ rw none refl
      | inr more ↦
          let some : 0 < length b.ranges = grind (arith, nat_tests) in
          let lists : List HandlerList = read_lists (first_list b at) b.lists in
          rw more
          (given (ranges_hold file at (head_of b)) (list_all (handlers_hold file (length b.units)) lists) lists
          (handler_lists file (length b.units) (lists_at at (head_of b))) (ranges_have_lists file at (head_of b))
          (ranges_held file at b body some holds.ranges)
          (lists_held file t (length b.units) said.types (first_list b at) b.lists closes.lists holds.lists)
          (ranges_found file at b body fits.ranges) (body.lists some))
    ]

code_kept : (file : List ℕ) (t : Tables) → IsSaid file t → (words at : ℕ) (b : Body) → BodySaid file at b → BodyFits b → BodyCloses t b → BodyHolds words b
    → code_holds file words at ≡ true
code_kept file t said words at b body fits closes holds =
    holds_by_head file words at (head_of b) body.head
    (and_from _ _ body.lies (and_from _ _ holds.ins (and_from _ _ holds.registers (and_from _ _ holds.units
    (lists_there file t said words at b body fits closes holds)))))

-- what is known of a method of the tables
record MethodGood (t : Tables) (m : MethodRow) : Type 0 where
  there : MethodThere t m
  fits : IfSome m.code BodyFits
  holds : method_holds t m ≡ true

methods_good : (t : Tables) → IsWritable t → IsClosed t → IsTrue (list_all (class_codes_hold t) t.classes) → EachMethod (MethodGood t) t.classes
methods_good t fits closed asked i c is =
    let class : Class = get_or t.classes i c in
    let fit : ClassFits class = fits.classes i c is in
    let all : All MethodFits (class.directs ++ class.virtuals) = All-append MethodFits class.directs class.virtuals fit.directs fit.virtuals in
    let hold = AllPass-from_list_all (method_holds t) (class.directs ++ class.virtuals) (AllPass-from_list_all (class_codes_hold t) t.classes asked i c is) in
    λ j m at. record { there = methods_there t closed i c is j m at; fits = (all j m at).code; holds = hold j m at }

row_kept : (file : List ℕ) (t : Tables) → IsSaid file t → IsClosed t → (row : MemberRow) (m : MethodRow) (b : Body) → CodeStands file row m b → MethodGood t m
    → unless (code_holds file (argument_words file row) row.code) row.code ≡ None
row_kept file t said closed row m b stands good =
    let words : ℕ = words_asked (method_said t m) in
    let fits : BodyFits b = subst (λ (code : Option Body). IfSome code BodyFits) stands.has good.fits in
    let closes : BodyCloses t b = subst (λ (code : Option Body). IfSome code (BodyCloses t)) stands.has good.there.code in
    let holds : body_holds words (Some b) ≡ true = subst (λ (code : Option Body). body_holds words code ≡ true) stands.has good.holds in
    let kept : code_holds file words row.code ≡ true = code_kept file t said words row.code b stands.body fits closes (parts_hold words b holds) in
    let same : code_holds file (argument_words file row) row.code ≡ true = ap (λ (n : ℕ). code_holds file n row.code) (words_are file t said closed row m stands.said good.there.id) ∙ kept in
    ap (λ (b : Bool). unless b row.code) same

pub codes_kept : (file : List ℕ) (t : Tables) → IsSaid file t → IsWritable t → IsClosed t
    → IsTrue (list_all (class_codes_hold t) t.classes) → broken_code file ≡ None
codes_kept file t said fits closed asked =
    none_in_code file t (λ (row : MemberRow). unless (code_holds file (argument_words file row) row.code) row.code) (MethodGood t) said
    (row_kept file t said closed) (methods_good t fits closed asked)
