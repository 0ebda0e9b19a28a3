-- The bytes that a code item takes, and that they stand in the file.
use Rattle.std.proofs.Common.{◌≡◌, ◌≢◌, ℕ, zero, suc, ◌+◌, ◌*◌, ◌<◌, ◌≤◌, List, [], ◌∷◌, length, drop, take, get_or, Bool, true, false, Option, Some, None, Result, Ok, Err, refl, sym, ap, ◌∙◌, arith, subst, length-drop}
use Rattle.std.specs.Prelude.{ℤ, ◌==◌, ◌&&◌, nat_abs, nat_le, nat_lt, is_some, option_map, sum_by, if◌then◌else◌}
use Rattle.std.proofs.lemmas.Bool.Decides.{nat_tests}
use Rattle.std.proofs.lemmas.List.{length-take, drop_more}
use Rattle.std.proofs.lemmas.List.Sums.{sum_by-cons}
use Rattle.pi_bytes.specs.declared.fault.ReadFault.{ReadFault}
use Rattle.pi_bytes.specs.Place.{Place, bytes_from, place_behind}
use Rattle.pi_bytes.specs.Reading.{reading_at}
use Rattle.pi_bytes.specs.Leb.{ends_uleb, ends_sleb, uleb_by, sleb_by, uleb_at, sleb_at}
use Rattle.pi_bytes.proofs.Lebs.{Stands, uleb_stands, sleb_stands}
use Rattle.pi_insn.specs.Chain.{◌>>=◌}
use Rattle.pi_insn.proofs.Steps.{bind_some}
use Rattle.pi_format.specs.Rules.Rows.{readable}
use Rattle.pi_format.specs.Rules.CodeItems.{Handler, HandlerList, code_head, code_lies, lists_at, ranges_hold, ranges_have_lists, handler_at, handler_holds, handlers_from, has_last, last_handler, handler_list, lists_from, handler_lists, code_lists, code_holds}
use Rattle.pi_codeitem.specs.Shared.{list_bytes, bytes_with, item_bytes, takes_words}
use Rattle.pi_codeitem.proofs.Items.{code_in_file}
use Rattle.pi_codeitem.proofs.Readers.{whole_is_long}

pub no_item : (file : List ℕ) (at : ℕ) → code_lies file at ≡ false → item_bytes file at ≡ None
unfolding item_bytes
no_item file at fails = rw fails refl

pub no_units : (file : List ℕ) (at : ℕ) → (code_head file at).units ≡ 0 → item_bytes file at ≡ None
unfolding item_bytes
no_units file at none = by_test (code_lies file at)
  where
    by_test : (b : Bool) → (if b && nat_lt 0 (code_head file at).units then option_map (bytes_with (code_head file at)) (code_lists file at) else None) ≡ None
    by_test false = refl
    by_test true =
        let t : nat_lt 0 (code_head file at).units ≡ false = grind (arith, nat_tests) in
        rw t refl

pub item_with : (file : List ℕ) (at : ℕ) → code_lies file at ≡ true → (code_head file at).units ≢ 0
    → item_bytes file at ≡ option_map (bytes_with (code_head file at)) (code_lists file at)
unfolding item_bytes
item_with file at lies some =
    let t : nat_lt 0 (code_head file at).units ≡ true = grind (arith, nat_tests) in
    rw (lies, t) refl

-- a code item holds in its two parts
parts : {A : Type 0} (lies ins regs units : Bool) (f : A → ℕ) (o : Option A)
    → (lies && (ins && (regs && (units && is_some o)))) ≡ (is_some (if lies && units then option_map f o else None) && (ins && regs))
parts false ins regs units f o = refl
parts true ins regs false f o = none ins regs
  where
    none : (a b : Bool) → (a && (b && false)) ≡ false
    none false b = refl
    none true false = refl
    none true true = refl
parts true ins regs true f None = none ins regs
  where
    none : (a b : Bool) → (a && (b && false)) ≡ false
    none false b = refl
    none true false = refl
    none true true = refl
parts true ins regs true f (Some x) = all ins regs
  where
    all : (a b : Bool) → (a && (b && true)) ≡ (a && b)
    all false b = refl
    all true false = refl
    all true true = refl

pub held_in_parts : (file : List ℕ) (words at : ℕ) → code_holds file words at ≡ (is_some (item_bytes file at) && takes_words file words at)
unfolding code_holds item_bytes
held_in_parts file words at =
    parts (code_lies file at) ((code_head file at).ins == words) (nat_le words (code_head file at).registers) (nat_lt 0 (code_head file at).units)
    (bytes_with (code_head file at)) (code_lists file at)

-- what a code item that takes bytes is
pub record IsItem (file : List ℕ) (at bytes : ℕ) : Type 0 where
  pub lies : code_lies file at ≡ true
  pub lists : List HandlerList
  pub listed : code_lists file at ≡ Some lists
  pub bytes_are : bytes_with (code_head file at) lists ≡ bytes

pub item_is : (file : List ℕ) (at bytes : ℕ) → item_bytes file at ≡ Some bytes → IsItem file at bytes
unfolding item_bytes
item_is file at bytes e = by_test (code_lies file at) (nat_lt 0 (code_head file at).units) (code_lists file at) refl refl e
  where
    by_test : (a b : Bool) (o : Option (List HandlerList)) → code_lies file at ≡ a → code_lists file at ≡ o
        → (if a && b then option_map (bytes_with (code_head file at)) o else None) ≡ Some bytes → IsItem file at bytes
    by_test false b o lies listed e = cc
    by_test true false o lies listed e = cc
    by_test true true None lies listed e = cc
    by_test true true (Some ls) lies listed e =
        record { lies = lies; lists = ls; listed = listed; bytes_are = cc }

pub item_lies : (file : List ℕ) (at bytes : ℕ) → item_bytes file at ≡ Some bytes → code_lies file at ≡ true
item_lies file at bytes e = (item_is file at bytes e).lies

-- a number that is read takes a byte at least, and stands in the file
pub record IsPassed (n : ℕ) (p q : Place) : Type 0 where
  pub same : q.bytes ≡ p.bytes
  pub further : p.at + n ≤ q.at
  pub inside : q.at ≤ length p.bytes

one_some : {A : Type 0} (x y : A) → Some x ≡ Some y → x ≡ y
one_some x y e = cc

passed_by : {A : Type 0} (ends : ℕ → Bool) (p q : Place) (r : Result (A × ℕ) ReadFault) (x : A) → Stands ends 4 (bytes_from p) r → readable (reading_at p r) ≡ Some (x, q)
    → IsPassed 1 p q
passed_by ends p q (Err fault) x s e = cc
passed_by {A = A} ends p q (Ok y) x s e =
    let same : place_behind y.1 p ≡ q = ap (λ (r : A × Place). r.1) (one_some (y.0, place_behind y.1 p) (x, q) e) in
    let long = whole_is_long ends 4 (take y.1 (bytes_from p)) s.1 in
    subst (λ (r : Place). IsPassed 1 p r) same (record { same = refl; further = omega (arith, long, length-take y.1 (bytes_from p)); inside = omega (arith, s.0, long, length-take y.1 (bytes_from p), length-drop p.at p.bytes) })

uleb_passed : (p q : Place) (n : ℕ) → readable (uleb_at p) ≡ Some (n, q) → IsPassed 1 p q
unfolding uleb_at
uleb_passed p q n e = passed_by ends_uleb p q (uleb_by 4 (bytes_from p)) n (uleb_stands 4 (bytes_from p)) e

sleb_passed : (p q : Place) (n : ℤ) → readable (sleb_at p) ≡ Some (n, q) → IsPassed 1 p q
unfolding sleb_at
sleb_passed p q n e = passed_by ends_sleb p q (sleb_by 4 (bytes_from p)) n (sleb_stands 4 (bytes_from p)) e

passed_on : (n m : ℕ) (p q r : Place) → IsPassed n p q → IsPassed m q r → IsPassed (n + m) p r
passed_on n m p q r first second = record {
  same = second.same ∙ first.same;
  further = omega (arith, first.further, second.further);
  inside = subst (λ (bytes : List ℕ). r.at ≤ length bytes) first.same second.inside;
}

-- what a test let through
if_some : {A : Type 0} (b : Bool) (o : Option A) (y : A) → (if b then o else None) ≡ Some y → (b ≡ true) × (o ≡ Some y)
if_some true o y e = (refl, e)
if_some false o y e = cc

handler_passed : (p q : Place) (h : Handler) → handler_at p ≡ Some (h, q) → IsPassed 2 p q
unfolding handler_at
handler_passed p q h e =
    let ty = bind_some (readable (uleb_at p)) (λ ty. readable (uleb_at ty.1) >>= (λ to. Some (handler ty.0 to.0, to.1))) (h, q) e in
    let to = bind_some (readable (uleb_at ty.0.1)) (λ to. Some (handler ty.0.0 to.0, to.1)) (h, q) ty.1.1 in
    let end : to.0.1 ≡ q = ap (λ (x : Handler × Place). x.1) (one_some (handler ty.0.0 to.0.0, to.0.1) (h, q) to.1.1) in
    subst (λ (r : Place). IsPassed 2 p r) end
    (passed_on 1 1 p ty.0.1 to.0.1 (uleb_passed p ty.0.1 ty.0.0 ty.1.0) (uleb_passed ty.0.1 to.0.1 to.0.0 to.1.0))
  where
    handler : ℕ → ℕ → Handler
    handler ty to = record { ty = ty; to = to }

handlers_same : (p : Place) (x y : List Handler × Place) → x ≡ y → IsPassed (2 * length x.0) p x.1 → IsPassed (2 * length y.0) p y.1
handlers_same p x y same passed = subst (λ (x : List Handler × Place). IsPassed (2 * length x.0) p x.1) same passed

handlers_passed : (file : List ℕ) (units n : ℕ) (p q : Place) (hs : List Handler) → handlers_from file units n p ≡ Some (hs, q) → p.at ≤ length p.bytes
    → IsPassed (2 * length hs) p q
handlers_passed file units zero p q hs e inside =
    let same = one_some ([], p) (hs, q) e in
    handlers_same p ([], p) (hs, q) same (record { same = refl; further = omega arith; inside = inside })
handlers_passed file units (suc n) p q hs e inside =
    let first = bind_some (handler_at p) (λ first. if handler_holds file units first.0 then handlers_from file units n first.1 >>= (λ o. Some (first.0 ∷ o.0, o.1)) else None) (hs, q) e in
    let held = if_some (handler_holds file units first.0.0) (handlers_from file units n first.0.1 >>= (λ o. Some (first.0.0 ∷ o.0, o.1))) (hs, q) first.1.1 in
    let others = bind_some (handlers_from file units n first.0.1) (λ o. Some (first.0.0 ∷ o.0, o.1)) (hs, q) held.1 in
    let same = one_some (first.0.0 ∷ others.0.0, others.0.1) (hs, q) others.1.1 in
    let here = handler_passed p first.0.1 first.0.0 first.1.0 in
    let behind = handlers_passed file units n first.0.1 others.0.1 others.0.0 others.1.0 (subst (λ (bytes : List ℕ). first.0.1.at ≤ length bytes) (sym here.same) here.inside) in
    let all = passed_on 2 (2 * length others.0.0) p first.0.1 others.0.1 here behind in
    let count : 2 + 2 * length others.0.0 ≡ 2 * length (first.0.0 ∷ others.0.0) = omega arith in
    handlers_same p (first.0.0 ∷ others.0.0, others.0.1) (hs, q) same (subst (λ (k : ℕ). IsPassed k p others.0.1) count all)

last_passed : (file : List ℕ) (units : ℕ) (has : Bool) (p q : Place) (last : Option ℕ) → last_handler file units has p ≡ Some (last, q) → p.at ≤ length p.bytes → IsPassed 0 p q
last_passed file units false p q last e inside =
    let end : p ≡ q = ap (λ (x : Option ℕ × Place). x.1) (one_some (None, p) (last, q) e) in
    subst (λ (r : Place). IsPassed 0 p r) end (record { same = refl; further = omega arith; inside = inside })
last_passed file units true p q last e inside =
    let to = bind_some (readable (uleb_at p)) (λ to. if nat_lt to.0 units then Some (Some to.0, to.1) else None) (last, q) e in
    let held = if_some (nat_lt to.0.0 units) (Some (Some to.0.0, to.0.1)) (last, q) to.1.1 in
    let end : to.0.1 ≡ q = ap (λ (x : Option ℕ × Place). x.1) (one_some (Some to.0.0, to.0.1) (last, q) held.1) in
    let one = uleb_passed p to.0.1 to.0.0 to.1.0 in
    subst (λ (r : Place). IsPassed 0 p r) end (record { same = one.same; further = omega (arith, one.further); inside = one.inside })

list_same : (p : Place) (x y : HandlerList × Place) → x ≡ y → IsPassed (list_bytes x.0) p x.1 → IsPassed (list_bytes y.0) p y.1
list_same p x y same passed = subst (λ (x : HandlerList × Place). IsPassed (list_bytes x.0) p x.1) same passed

list_passed : (file : List ℕ) (units : ℕ) (p q : Place) (l : HandlerList) → handler_list file units p ≡ Some (l, q) → IsPassed (list_bytes l) p q
unfolding handler_list
list_passed file units p q l e =
    let size = bind_some (readable (sleb_at p)) (λ size. handlers_from file units (nat_abs size.0) size.1 >>= (λ typed. last_handler file units (has_last size.0) typed.1 >>= (λ last. Some (list typed.0 last.0, last.1)))) (l, q) e in
    let typed = bind_some (handlers_from file units (nat_abs size.0.0) size.0.1) (λ typed. last_handler file units (has_last size.0.0) typed.1 >>= (λ last. Some (list typed.0 last.0, last.1))) (l, q) size.1.1 in
    let last = bind_some (last_handler file units (has_last size.0.0) typed.0.1) (λ last. Some (list typed.0.0 last.0, last.1)) (l, q) typed.1.1 in
    let same = one_some (list typed.0.0 last.0.0, last.0.1) (l, q) last.1.1 in
    let head = sleb_passed p size.0.1 size.0.0 size.1.0 in
    let middle = handlers_passed file units (nat_abs size.0.0) size.0.1 typed.0.1 typed.0.0 typed.1.0 (subst (λ (bytes : List ℕ). size.0.1.at ≤ length bytes) (sym head.same) head.inside) in
    let both = passed_on 1 (2 * length typed.0.0) p size.0.1 typed.0.1 head middle in
    let end = last_passed file units (has_last size.0.0) typed.0.1 last.0.1 last.0.0 last.1.0 (subst (λ (bytes : List ℕ). typed.0.1.at ≤ length bytes) (sym both.same) both.inside) in
    let all = passed_on (1 + 2 * length typed.0.0) 0 p typed.0.1 last.0.1 both end in
    let count : 1 + 2 * length typed.0.0 + 0 ≡ 2 * length typed.0.0 + 1 = omega arith in
    list_same p (list typed.0.0 last.0.0, last.0.1) (l, q) same (subst (λ (k : ℕ). IsPassed k p last.0.1) count all)
  where
    list : List Handler → Option ℕ → HandlerList
    list typed last = record { at = p.at; typed = typed; last = last }

lists_stand : (file : List ℕ) (units n : ℕ) (p : Place) (ls : List HandlerList) → lists_from file units n p ≡ Some ls → p.at ≤ length p.bytes
    → p.at + sum_by list_bytes ls ≤ length p.bytes
lists_stand file units zero p ls e inside =
    subst (λ (ls : List HandlerList). p.at + sum_by list_bytes ls ≤ length p.bytes) (one_some [] ls e) (omega (arith, inside))
lists_stand file units (suc n) p ls e inside =
    let first = bind_some (handler_list file units p) (λ first. lists_from file units n first.1 >>= (λ others. Some (first.0 ∷ others))) ls e in
    let others = bind_some (lists_from file units n first.0.1) (λ others. Some (first.0.0 ∷ others)) ls first.1.1 in
    let here = list_passed file units p first.0.1 first.0.0 first.1.0 in
    let within : first.0.1.at ≤ length first.0.1.bytes = subst (λ (bytes : List ℕ). first.0.1.at ≤ length bytes) (sym here.same) here.inside in
    let behind = lists_stand file units n first.0.1 others.0 others.1.0 within in
    let behind' : first.0.1.at + sum_by list_bytes others.0 ≤ length p.bytes = subst (λ (bytes : List ℕ). first.0.1.at + sum_by list_bytes others.0 ≤ length bytes) here.same behind in
    subst (λ (ls : List HandlerList). p.at + sum_by list_bytes ls ≤ length p.bytes) (one_some (first.0.0 ∷ others.0) ls others.1.1)
    (omega (arith, sum_by-cons list_bytes first.0.0 others.0, here.further, behind'))

read_lists_stand : (file : List ℕ) (units begin : ℕ) (ls : List HandlerList) → handler_lists file units begin ≡ Some ls → begin + sum_by list_bytes ls ≤ length file
unfolding handler_lists
read_lists_stand file units begin ls e =
    let count = bind_some (readable (uleb_at (record { bytes = file; at = begin }))) (λ count. lists_from file units count.0 count.1) ls e in
    let one = uleb_passed (record { bytes = file; at = begin }) count.0.1 count.0.0 count.1.0 in
    let behind = lists_stand file units count.0.0 count.0.1 ls count.1.1 (subst (λ (bytes : List ℕ). count.0.1.at ≤ length bytes) (sym one.same) one.inside) in
    let behind' : count.0.1.at + sum_by list_bytes ls ≤ length file = subst (λ (bytes : List ℕ). count.0.1.at + sum_by list_bytes ls ≤ length bytes) one.same behind in
    omega (arith, one.further, behind')

lists_read : (file : List ℕ) (at : ℕ) (lists : List HandlerList) → code_lists file at ≡ Some lists → 0 < (code_head file at).tries
    → handler_lists file (code_head file at).units (lists_at at (code_head file at)) ≡ Some lists
unfolding code_lists
lists_read file at lists e some =
    let t : ((code_head file at).tries == 0) ≡ false = grind (arith, nat_tests) in
    let read : Option (List HandlerList) = handler_lists file (code_head file at).units (lists_at at (code_head file at)) in
    let held = if_some (ranges_hold file at (code_head file at)) (read >>= (λ ls. if ranges_have_lists file at (code_head file at) ls then Some ls else None)) lists (rw t at e) in
    let found = bind_some read (λ ls. if ranges_have_lists file at (code_head file at) ls then Some ls else None) lists held.1 in
    let have = if_some (ranges_have_lists file at (code_head file at) found.0) (Some found.0) lists found.1.1 in
    found.1.0 ∙ have.1

lists_none : (file : List ℕ) (at : ℕ) (lists : List HandlerList) → code_lists file at ≡ Some lists → (code_head file at).tries ≡ 0 → [] ≡ lists
unfolding code_lists
lists_none file at lists e none =
    let t : ((code_head file at).tries == 0) ≡ true = grind (arith, nat_tests) in
    one_some [] lists (rw t at e)

bytes_stand : (file : List ℕ) (at : ℕ) (lists : List HandlerList) → code_lies file at ≡ true → code_lists file at ≡ Some lists
    → at + bytes_with (code_head file at) lists ≤ length file
bytes_stand file at lists lies listed = by_tries (code_head file at).tries refl
  where
    by_tries : (n : ℕ) → (code_head file at).tries ≡ n → at + bytes_with (code_head file at) lists ≤ length file
    by_tries zero none =
        subst (λ (ls : List HandlerList). at + bytes_with (code_head file at) ls ≤ length file) (lists_none file at lists listed none) (omega (arith, none, code_in_file file at lies))
    by_tries (suc n) some =
        let more : 0 < (code_head file at).tries = omega (arith, some) in
        omega (arith, read_lists_stand file (code_head file at).units (lists_at at (code_head file at)) lists (lists_read file at lists listed more))

pub item_stands : (file : List ℕ) (at bytes : ℕ) → item_bytes file at ≡ Some bytes → at + bytes ≤ length file
item_stands file at bytes e =
    let item = item_is file at bytes e in
    subst (λ (n : ℕ). at + n ≤ length file) item.bytes_are (bytes_stand file at item.lists item.lies item.listed)

-- the bytes with the lists that were found
pub few_bytes : (file : List ℕ) (at : ℕ) (lists : List HandlerList) (most : ℕ) → code_lies file at ≡ true → code_lists file at ≡ Some lists → length file ≤ most
    → bytes_with (code_head file at) lists ≤ most
few_bytes file at lists most lies listed few = omega (arith, few, bytes_stand file at lists lies listed)

-- one list more in a sum
pub sum_rest : (lists : List HandlerList) (k : ℕ) (l : HandlerList) → k < length lists → l ≡ get_or lists k l
    → list_bytes l + sum_by list_bytes (drop (k + 1) lists) ≡ sum_by list_bytes (drop k lists)
sum_rest lists k l lt is = rw (drop_more lists k l lt, sym is) (sym (sum_by-cons list_bytes l (drop (k + 1) lists)))
