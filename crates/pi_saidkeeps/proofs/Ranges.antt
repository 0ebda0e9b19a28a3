-- What the ranges of a code item and its lists of handlers keep.
use Rattle.std.proofs.Common.{◌≡◌, ℕ, zero, suc, ◌+◌, ◌-◌, ◌*◌, ◌<◌, ◌≤◌, List, [], Option, Some, None, Bool, true, false, refl, ap, subst, arith}
use Rattle.std.specs.Prelude.{◌==◌, ◌&&◌, ◌||◌, nat_lt, nat_le, nat_abs, if◌then◌else◌}
use Rattle.std.specs.List.{list_all}
use Rattle.std.proofs.lemmas.Bool.{and_parts, and_from, leb-true}
use Rattle.std.proofs.lemmas.Bool.Decides.{nat_tests}
use Rattle.pi_bytes.specs.Place.{Place}
use Rattle.pi_bytes.specs.Leb.{uleb_at, sleb_at}
use Rattle.pi_bytes.specs.Numbers.{in_file}
use Rattle.pi_insn.specs.Chain.{◌>>=◌}
use Rattle.pi_insn.proofs.Steps.{bind_some}
use Rattle.pi_format.specs.Rules.Entries.{each_from}
use Rattle.pi_format.specs.Rules.Rows.{readable}
use Rattle.pi_format.specs.Rules.CodeItems.{CodeHead, code_head, tries_at, lists_at, TryRange, try_range, range_holds, Handler, handler_at, handler_holds, handlers_from, last_handler, has_last, HandlerList, handler_list, lists_from, handler_lists, ranges_have_lists, ranges_hold, code_lists}
use Rattle.pi_said.proofs.Members.{some_is, tested}
use Rattle.pi_saidkeeps.proofs.Each.{each_at}

-- the last handler of a list begins in the code, and so do all handlers of a list
abbrev pub last_holds : ℕ → Option ℕ → Bool
last_holds units None = true
last_holds units (Some to) = nat_lt to units

abbrev pub list_holds : List ℕ → ℕ → HandlerList → Bool
list_holds file units l = list_all (handler_holds file units) l.typed && last_holds units l.last

handlers_hold : (file : List ℕ) (units n : ℕ) (p : Place) (r : List Handler × Place) → handlers_from file units n p ≡ Some r → list_all (handler_holds file units) r.0 ≡ true
handlers_hold file units zero p r e = subst (λ (q : List Handler × Place). list_all (handler_holds file units) q.0 ≡ true) (some_is e) refl
handlers_hold file units (suc n) p r e =
    let first = bind_some (handler_at p) _ r e in
    let test = tested (handler_holds file units first.0.0) _ r first.1.1 in
    let others = bind_some (handlers_from file units n first.0.1) _ r test.1 in
    subst (λ (q : List Handler × Place). list_all (handler_holds file units) q.0 ≡ true) (some_is others.1.1)
    (and_from (handler_holds file units first.0.0) (list_all (handler_holds file units) others.0.0) test.0 (handlers_hold file units n first.0.1 others.0 others.1.0))

last_is : (file : List ℕ) (units : ℕ) (b : Bool) (p : Place) (r : Option ℕ × Place) → last_handler file units b p ≡ Some r → last_holds units r.0 ≡ true
last_is file units false p r e = subst (λ (q : Option ℕ × Place). last_holds units q.0 ≡ true) (some_is e) refl
last_is file units true p r e =
    let to = bind_some (readable (uleb_at p)) _ r e in
    let test = tested (nat_lt to.0.0 units) _ r to.1.1 in
    subst (λ (q : Option ℕ × Place). last_holds units q.0 ≡ true) (some_is test.1) test.0

list_is : (file : List ℕ) (units : ℕ) (p : Place) (r : HandlerList × Place) → handler_list file units p ≡ Some r → list_holds file units r.0 ≡ true
unfolding handler_list
list_is file units p r e =
    let size = bind_some (readable (sleb_at p)) _ r e in
    let typed = bind_some (handlers_from file units (nat_abs size.0.0) size.0.1) _ r size.1.1 in
    let last = bind_some (last_handler file units (has_last size.0.0) typed.0.1) _ r typed.1.1 in
    subst (λ (q : HandlerList × Place). list_holds file units q.0 ≡ true) (some_is last.1.1)
    (and_from (list_all (handler_holds file units) typed.0.0) (last_holds units last.0.0)
    (handlers_hold file units (nat_abs size.0.0) size.0.1 typed.0 typed.1.0) (last_is file units (has_last size.0.0) typed.0.1 last.0 last.1.0))

each_list : (file : List ℕ) (units n : ℕ) (p : Place) (ls : List HandlerList) → lists_from file units n p ≡ Some ls → list_all (list_holds file units) ls ≡ true
each_list file units zero p ls e = subst (λ (q : List HandlerList). list_all (list_holds file units) q ≡ true) (some_is e) refl
each_list file units (suc n) p ls e =
    let first = bind_some (handler_list file units p) _ ls e in
    let others = bind_some (lists_from file units n first.0.1) _ ls first.1.1 in
    subst (λ (q : List HandlerList). list_all (list_holds file units) q ≡ true) (some_is others.1.1)
    (and_from (list_holds file units first.0.0) (list_all (list_holds file units) others.0)
    (list_is file units p first.0 first.1.0) (each_list file units n first.0.1 others.0 others.1.0))

lists_hold : (file : List ℕ) (units begin : ℕ) (ls : List HandlerList) → handler_lists file units begin ≡ Some ls → list_all (list_holds file units) ls ≡ true
unfolding handler_lists
lists_hold file units begin ls e =
    let count = bind_some (readable (uleb_at (record { bytes = file; at = begin }))) _ ls e in
    each_list file units count.0.0 count.0.1 ls count.1.1

-- the ranges hold, one by one, and the lists
pub record RangesKept (file : List ℕ) (at : ℕ) (head : CodeHead) (ls : List HandlerList) : Type 0 where
  pub ranges : each_from (range_holds file (tries_at at head) head.units) 0 head.tries ≡ true
  pub lists : list_all (list_holds file head.units) ls ≡ true

no_ranges : (file : List ℕ) (at : ℕ) (head : CodeHead) → (head.tries == 0) ≡ true → RangesKept file at head []
no_ranges file at head e =
    let none : head.tries ≡ 0 = grind (arith, nat_tests) in
    record { ranges = ap (λ (n : ℕ). each_from (range_holds file (tries_at at head) head.units) 0 n) none; lists = refl }

pub ranges_kept : (file : List ℕ) (at : ℕ) (lists : List HandlerList) → code_lists file at ≡ Some lists → RangesKept file at (code_head file at) lists
unfolding code_lists
ranges_kept file at lists e = by_tries ((code_head file at).tries == 0) refl e
  where
    by_tries : (b : Bool) → ((code_head file at).tries == 0) ≡ b
        → (if b then Some [] else
        if ranges_hold file at (code_head file at) then (do
          ls ← handler_lists file (code_head file at).units (lists_at at (code_head file at))
          if ranges_have_lists file at (code_head file at) ls then Some ls else None)
        else None) ≡ Some lists
        → RangesKept file at (code_head file at) lists
    by_tries true none e = subst (RangesKept file at (code_head file at)) (some_is e) (no_ranges file at (code_head file at) none)
    by_tries false some e =
        let test = tested (ranges_hold file at (code_head file at)) _ lists e in
        let ranges = and_parts (in_file file (tries_at at (code_head file at)) (8 * (code_head file at).tries)) (each_from (range_holds file (tries_at at (code_head file at)) (code_head file at).units) 0 (code_head file at).tries) test.0 in
        let read = bind_some (handler_lists file (code_head file at).units (lists_at at (code_head file at))) _ lists test.1 in
        let have = tested (ranges_have_lists file at (code_head file at) read.0) _ lists read.1.1 in
        subst (RangesKept file at (code_head file at)) (some_is have.1)
        (record { ranges = ranges.1; lists = lists_hold file (code_head file at).units (lists_at at (code_head file at)) read.0 read.1.0 })

-- where a range ends
abbrev pub end_of : TryRange → ℕ
end_of r = r.from + r.size

pub range_ends : (file : List ℕ) (begin units tries : ℕ) → each_from (range_holds file begin units) 0 tries ≡ true → (k : ℕ) → k < tries → end_of (try_range file begin k) ≤ units
range_ends file begin units tries all k lt =
    let holds = each_at (range_holds file begin units) 0 tries all k (omega arith) (omega arith) in
    leb-true (end_of (try_range file begin k)) units
    ((and_parts (nat_le (end_of (try_range file begin k)) units) ((k == 0) || nat_le (end_of (try_range file begin (k - 1))) (try_range file begin k).from) holds).0)

pub range_follows : (file : List ℕ) (begin units tries : ℕ) → each_from (range_holds file begin units) 0 tries ≡ true → (k : ℕ) → k + 1 < tries
    → end_of (try_range file begin k) ≤ (try_range file begin (k + 1)).from
range_follows file begin units tries all k lt =
    let place : k + 1 - 1 ≡ k = omega arith in
    let holds = each_at (range_holds file begin units) 0 tries all (k + 1) (omega arith) (omega arith) in
    let order = (and_parts (nat_le (end_of (try_range file begin (k + 1))) units) ((k + 1 == 0) || nat_le (end_of (try_range file begin (k + 1 - 1))) (try_range file begin (k + 1)).from) holds).1 in
    subst (λ (j : ℕ). end_of (try_range file begin j) ≤ (try_range file begin (k + 1)).from) place
    (behind k (end_of (try_range file begin (k + 1 - 1))) (try_range file begin (k + 1)).from order)
  where
    behind : (k a b : ℕ) → ((k + 1 == 0) || nat_le a b) ≡ true → a ≤ b
    behind k a b e = grind (arith, nat_tests)
