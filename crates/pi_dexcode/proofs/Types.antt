-- The types that handlers name are there.
use Rattle.std.proofs.Common.{◌≡◌, ℕ, zero, suc, ◌<◌, List, [], ◌∷◌, Option, Some, None, Bool, true, false, refl, subst, arith}
use Rattle.std.specs.Prelude.{ℤ, nat_abs, nat_lt, ◌==◌, ◌&&◌, if◌then◌else◌}
use Rattle.std.specs.List.{All}
use Rattle.std.proofs.lemmas.Bool.Decides.{nat_tests}
use Rattle.std.proofs.lemmas.List.Elements.{All-nil, All-cons}
use Rattle.pi_bytes.specs.Place.{Place}
use Rattle.pi_bytes.specs.Leb.{uleb_at, sleb_at}
use Rattle.pi_insn.specs.Chain.{◌>>=◌}
use Rattle.pi_insn.proofs.Steps.{bind_some}
use Rattle.pi_format.specs.Tables.{count_at, type_ids}
use Rattle.pi_format.specs.Rules.Rows.{readable}
use Rattle.pi_format.specs.Rules.CodeItems.{Handler, HandlerList, handler_at, handler_holds, handlers_from, has_last, last_handler, handler_list, lists_from, handler_lists, code_head, lists_at, ranges_hold, ranges_have_lists, code_lists}
use Rattle.pi_dexcode.specs.Whole.{NamesTypes, AllNameTypes}

pub if_held : {B : Type 0} (b : Bool) (x : Option B) (r : B) → (if b then x else None) ≡ Some r → (b ≡ true) × (x ≡ Some r)
if_held true x r e = (refl, e)
if_held false x r e = cc

inside : {B : Type 0} (x y : B) → Some x ≡ Some y → x ≡ y
inside x y e = cc

type_there : (file : List ℕ) (units : ℕ) (h : Handler) → handler_holds file units h ≡ true → h.ty < count_at file type_ids
type_there file units h e = by_and (nat_lt h.ty (count_at file type_ids)) (nat_lt h.to units) refl e
  where
    by_and : (a b : Bool) → nat_lt h.ty (count_at file type_ids) ≡ a → (a && b) ≡ true → h.ty < count_at file type_ids
    by_and true b is e = grind (arith, nat_tests)
    by_and false b is e = cc

abbrev pub TypesThere : List ℕ → List Handler → Type 0
TypesThere file hs = All (λ (h : Handler). h.ty < count_at file type_ids) hs

one_more : (file : List ℕ) (h : Handler) (hs : List Handler) → h.ty < count_at file type_ids → TypesThere file hs → TypesThere file (h ∷ hs)
one_more file h hs here others = All-cons (λ (h : Handler). h.ty < count_at file type_ids) h hs here others

handlers_there : (file : List ℕ) (units n : ℕ) (p : Place) (r : List Handler × Place) → handlers_from file units n p ≡ Some r → TypesThere file r.0
handlers_there file units zero p r e =
    let none : List Handler × Place = ([], p) in
    let same : none ≡ r = cc in
    subst (λ (x : List Handler × Place). TypesThere file x.0) same (All-nil (λ (h : Handler). h.ty < count_at file type_ids))
handlers_there file units (suc n) p r e =
    let later : (Handler × Place) → Option (List Handler × Place) = λ first. handlers_from file units n first.1 >>= (λ others. Some (first.0 ∷ others.0, others.1)) in
    let first = bind_some (handler_at p) (λ first. if handler_holds file units first.0 then later first else None) r e in
    let held = if_held (handler_holds file units first.0.0) (later first.0) r first.1.1 in
    let others = bind_some (handlers_from file units n first.0.1) (λ others. Some (first.0.0 ∷ others.0, others.1)) r held.1 in
    let whole : List Handler × Place = (first.0.0 ∷ others.0.0, others.0.1) in
    let same : whole ≡ r = inside whole r others.1.1 in
    subst (λ (x : List Handler × Place). TypesThere file x.0) same
    (one_more file first.0.0 others.0.0 (type_there file units first.0.0 held.0) (handlers_there file units n first.0.1 others.0 others.1.0))

list_there : (file : List ℕ) (units : ℕ) (p : Place) (r : HandlerList × Place) → handler_list file units p ≡ Some r → TypesThere file r.0.typed
unfolding handler_list
list_there file units p r e =
    let made : (List Handler × Place) → (Option ℕ × Place) → (HandlerList × Place) = λ typed last. (record { at = p.at; typed = typed.0; last = last.0 }, last.1) in
    let ends : (ℤ × Place) → (List Handler × Place) → Option (HandlerList × Place) = λ size typed. last_handler file units (has_last size.0) typed.1 >>= (λ last. Some (made typed last)) in
    let size = bind_some (readable (sleb_at p)) (λ size. handlers_from file units (nat_abs size.0) size.1 >>= (λ typed. ends size typed)) r e in
    let typed = bind_some (handlers_from file units (nat_abs size.0.0) size.0.1) (λ typed. ends size.0 typed) r size.1.1 in
    let last = bind_some (last_handler file units (has_last size.0.0) typed.0.1) (λ last. Some (made typed.0 last)) r typed.1.1 in
    subst (λ (x : HandlerList × Place). TypesThere file x.0.typed) (inside (made typed.0 last.0) r last.1.1)
    (handlers_there file units (nat_abs size.0.0) size.0.1 typed.0 typed.1.0)

lists_there : (file : List ℕ) (units n : ℕ) (p : Place) (lists : List HandlerList) → lists_from file units n p ≡ Some lists → AllNameTypes (count_at file type_ids) lists
lists_there file units zero p lists e =
    subst (λ (ls : List HandlerList). AllNameTypes (count_at file type_ids) ls) (inside [] lists e) (All-nil (NamesTypes (count_at file type_ids)))
lists_there file units (suc n) p lists e =
    let first = bind_some (handler_list file units p) (λ first. lists_from file units n first.1 >>= (λ others. Some (first.0 ∷ others))) lists e in
    let others = bind_some (lists_from file units n first.0.1) (λ others. Some (first.0.0 ∷ others)) lists first.1.1 in
    subst (λ (ls : List HandlerList). AllNameTypes (count_at file type_ids) ls) (inside (first.0.0 ∷ others.0) lists others.1.1)
    (All-cons (NamesTypes (count_at file type_ids)) first.0.0 others.0 (list_there file units p first.0 first.1.0) (lists_there file units n first.0.1 others.0 others.1.0))

read_there : (file : List ℕ) (units begin : ℕ) (lists : List HandlerList) → handler_lists file units begin ≡ Some lists → AllNameTypes (count_at file type_ids) lists
unfolding handler_lists
read_there file units begin lists e =
    let count = bind_some (readable (uleb_at (record { bytes = file; at = begin }))) (λ count. lists_from file units count.0 count.1) lists e in
    lists_there file units count.0.0 count.0.1 lists count.1.1

pub types_there : (file : List ℕ) (at : ℕ) (lists : List HandlerList) → code_lists file at ≡ Some lists → AllNameTypes (count_at file type_ids) lists
unfolding code_lists
types_there file at lists e = by_none ((code_head file at).tries == 0) e
  where
    kept : List HandlerList → Option (List HandlerList)
    kept lists = if ranges_have_lists file at (code_head file at) lists then Some lists else None

    of_ranges : Option (List HandlerList)
    of_ranges = if ranges_hold file at (code_head file at) then handler_lists file (code_head file at).units (lists_at at (code_head file at)) >>= kept else None

    by_none : (b : Bool) → (if b then Some [] else of_ranges) ≡ Some lists → AllNameTypes (count_at file type_ids) lists
    by_none true e = subst (λ (ls : List HandlerList). AllNameTypes (count_at file type_ids) ls) (inside [] lists e) (All-nil (NamesTypes (count_at file type_ids)))
    by_none false e =
        let hold = if_held (ranges_hold file at (code_head file at)) (handler_lists file (code_head file at).units (lists_at at (code_head file at)) >>= kept) lists e in
        let read = bind_some (handler_lists file (code_head file at).units (lists_at at (code_head file at))) kept lists hold.1 in
        let have = if_held (ranges_have_lists file at (code_head file at) read.0) (Some read.0) lists read.1.1 in
        subst (λ (ls : List HandlerList). AllNameTypes (count_at file type_ids) ls) (inside read.0 lists have.1)
        (read_there file (code_head file at).units (lists_at at (code_head file at)) read.0 read.1.0)
