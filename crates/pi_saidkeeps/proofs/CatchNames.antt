-- What the handlers of a code catch: each is one of the types of the file.
use Rattle.std.proofs.Common.{◌≡◌, ℕ, zero, suc, ◌+◌, List, [], ◌∷◌, ◌++◌, map, Bool, true, false, Option, Some, None, inl, inr, refl, subst, ◌⊎◌}
use Rattle.std.specs.Prelude.{◌==◌, nat_abs, nat_lt, option_map, if◌then◌else◌}
use Rattle.std.specs.List.{list_all, flat_map}
use Rattle.std.proofs.lemmas.Bool.{and_parts, and_from, ltb-true, cond_both}
use Rattle.pi_model.specs.declared.numbers.NameNo.{NameNo}
use Rattle.pi_model.specs.declared.describe.Catch.{Catch}
use Rattle.pi_bytes.specs.Place.{Place}
use Rattle.pi_bytes.specs.Leb.{uleb_at, sleb_at}
use Rattle.pi_insn.proofs.Steps.{bind_some}
use Rattle.pi_format.specs.Tables.{count_at, type_ids}
use Rattle.pi_format.specs.Rules.Lowest.{tabulation}
use Rattle.pi_format.specs.Rules.Rows.{readable}
use Rattle.pi_format.specs.Rules.CodeItems.{Handler, HandlerList, TryRange, CodeHead, code_head, try_range, tries_at, lists_at, handler_at, handler_holds, handlers_from, last_handler, has_last, handler_list, lists_from, handler_lists, ranges_hold, ranges_have_lists, code_lists}
use Rattle.pi_format.specs.Says.Names.{Named, type_name}
use Rattle.pi_format.specs.Says.Codes.{typed_catch, last_catch, range_catches, catches_at, catches_of}
use Rattle.pi_said.proofs.Lists.{append_all, flat_map_all}
use Rattle.pi_said.proofs.Members.{some_is, tested}
use Rattle.pi_contents.specs.Contents.{OfType, CatchContent}
use Rattle.pi_contents.specs.Named.{catch_content}
use Rattle.pi_contents.specs.Naming.{named_by_type, named_by_catch}
use Rattle.pi_saidkeeps.proofs.Lists.{all_mapped, all_joined}
use Rattle.pi_saidkeeps.proofs.Spelled.{IsRead, is_type}
use Rattle.pi_saidkeeps.proofs.Entries.{naming_fits, names_type}

-- each handler of a list catches a type that there is
abbrev typed_fit : List ℕ → HandlerList → Bool
typed_fit file l = list_all (λ (h : Handler). is_type file h.ty) l.typed

handlers_fit : (file : List ℕ) (units n : ℕ) (p : Place) (r : List Handler × Place) → handlers_from file units n p ≡ Some r → list_all (λ (h : Handler). is_type file h.ty) r.0 ≡ true
handlers_fit file units zero p r e = subst (λ (q : List Handler × Place). list_all (λ (h : Handler). is_type file h.ty) q.0 ≡ true) (some_is e) refl
handlers_fit file units (suc n) p r e =
    let first = bind_some (handler_at p) _ r e in
    let test = tested (handler_holds file units first.0.0) _ r first.1.1 in
    let others = bind_some (handlers_from file units n first.0.1) _ r test.1 in
    let here = and_parts (is_type file first.0.0.ty) (nat_lt first.0.0.to units) test.0 in
    subst (λ (q : List Handler × Place). list_all (λ (h : Handler). is_type file h.ty) q.0 ≡ true) (some_is others.1.1)
    (and_from (is_type file first.0.0.ty) (list_all (λ (h : Handler). is_type file h.ty) others.0.0) here.0 (handlers_fit file units n first.0.1 others.0 others.1.0))

list_typed : (file : List ℕ) (units : ℕ) (p : Place) (r : HandlerList × Place) → handler_list file units p ≡ Some r → typed_fit file r.0 ≡ true
unfolding handler_list
list_typed file units p r e =
    let size = bind_some (readable (sleb_at p)) _ r e in
    let typed = bind_some (handlers_from file units (nat_abs size.0.0) size.0.1) _ r size.1.1 in
    let last = bind_some (last_handler file units (has_last size.0.0) typed.0.1) _ r typed.1.1 in
    subst (λ (q : HandlerList × Place). typed_fit file q.0 ≡ true) (some_is last.1.1) (handlers_fit file units (nat_abs size.0.0) size.0.1 typed.0 typed.1.0)

lists_typed : (file : List ℕ) (units n : ℕ) (p : Place) (r : List HandlerList) → lists_from file units n p ≡ Some r → list_all (typed_fit file) r ≡ true
lists_typed file units zero p r e = subst (λ (q : List HandlerList). list_all (typed_fit file) q ≡ true) (some_is e) refl
lists_typed file units (suc n) p r e =
    let first = bind_some (handler_list file units p) _ r e in
    let others = bind_some (lists_from file units n first.0.1) _ r first.1.1 in
    subst (λ (q : List HandlerList). list_all (typed_fit file) q ≡ true) (some_is others.1.1)
    (and_from (typed_fit file first.0.0) (list_all (typed_fit file) others.0) (list_typed file units p first.0 first.1.0) (lists_typed file units n first.0.1 others.0 others.1.0))

all_lists_typed : (file : List ℕ) (units begin : ℕ) (r : List HandlerList) → handler_lists file units begin ≡ Some r → list_all (typed_fit file) r ≡ true
unfolding handler_lists
all_lists_typed file units begin r e =
    let count = bind_some (readable (uleb_at (record { bytes = file; at = begin }))) _ r e in
    lists_typed file units count.0.0 count.0.1 r count.1.1

-- a choice that gives something
either_some : {A : Type 0} (b : Bool) (x : A) (m : Option A) (y : A) → (if b then Some x else m) ≡ Some y → (x ≡ y) ⊎ (m ≡ Some y)
either_some true x m y e = inl (some_is e)
either_some false x m y e = inr e

code_typed : (file : List ℕ) (at : ℕ) (r : List HandlerList) → code_lists file at ≡ Some r → list_all (typed_fit file) r ≡ true
unfolding code_lists
code_typed file at r e =
    let head = code_head file at in
    elim (either_some (head.tries == 0) [] _ r e) [
      | inl none ↦ subst (λ (ls : List HandlerList). list_all (typed_fit file) ls ≡ true) none refl
      | inr some ↦
          let test = tested (ranges_hold file at head) _ r some in
          let lists = bind_some (handler_lists file head.units (lists_at at head)) _ r test.1 in
          let last = tested (ranges_have_lists file at head lists.0) _ r lists.1.1 in
          subst (λ (ls : List HandlerList). list_all (typed_fit file) ls ≡ true) (some_is last.1)
          (all_lists_typed file head.units (lists_at at head) lists.0 lists.1.0)
    ]

-- the entries of a range
abbrev catch_fits : (NameNo → List ℕ) → Catch → Bool
catch_fits text c = list_all naming_fits (named_by_type (option_map text c.ty))

typed_named : (text : NameNo → List ℕ) (n : Named) → IsRead text n → (r : TryRange) (h : Handler) → is_type n.file h.ty ≡ true → catch_fits text (typed_catch n r h) ≡ true
typed_named text n read r h there =
    and_from (naming_fits (OfType (text (type_name n h.ty)))) true (names_type text n read h.ty (ltb-true h.ty (count_at n.file type_ids) there)) refl

last_named : (text : NameNo → List ℕ) (r : TryRange) (last : Option ℕ) → list_all (catch_fits text) (last_catch r last) ≡ true
last_named text r None = refl
last_named text r (Some to) = refl

range_named : (text : NameNo → List ℕ) (n : Named) → IsRead text n → (r : TryRange) (ls : List HandlerList) (place : ℕ) → list_all (typed_fit n.file) ls ≡ true
    → list_all (catch_fits text) (range_catches n r ls place) ≡ true
range_named text n read r [] place typed = refl
range_named text n read r (l ∷ ls) place typed =
    let parts = and_parts (typed_fit n.file l) (list_all (typed_fit n.file) ls) typed in
    let handlers = all_mapped (λ (h : Handler). is_type n.file h.ty) (catch_fits text) (typed_catch n r) (typed_named text n read r) l.typed parts.0 in
    cond_both (l.at == place) (map (typed_catch n r) l.typed ++ last_catch r l.last) (range_catches n r ls place)
    (λ (cs : List Catch). list_all (catch_fits text) cs ≡ true)
    (λ e. append_all (catch_fits text) (map (typed_catch n r) l.typed) (last_catch r l.last) handlers (last_named text r l.last))
    (λ e. range_named text n read r ls place parts.1)

ranges_named : (text : NameNo → List ℕ) (n : Named) → IsRead text n → (at : ℕ) (head : CodeHead) (o : Option (List HandlerList))
    → ((ls : List HandlerList) → o ≡ Some ls → list_all (typed_fit n.file) ls ≡ true) → list_all (catch_fits text) (catches_of n at head o) ≡ true
ranges_named text n read at head None typed = refl
ranges_named text n read at head (Some ls) typed =
    flat_map_all (catch_fits text) (catches_at n at head ls) (tabulation (λ k. k) 0 head.tries)
    (λ k. range_named text n read (try_range n.file (tries_at at head) k) ls (lists_at at head + (try_range n.file (tries_at at head) k).handlers) (typed ls refl))

pub catches_named : (text : NameNo → List ℕ) (n : Named) → IsRead text n → (at : ℕ)
    → list_all naming_fits (flat_map named_by_catch (map (catch_content text) (catches_of n at (code_head n.file at) (code_lists n.file at)))) ≡ true
catches_named text n read at =
    let catches = catches_of n at (code_head n.file at) (code_lists n.file at) in
    all_joined (λ (c : CatchContent). list_all naming_fits (named_by_type c.ty)) naming_fits named_by_catch (λ c h. h) (map (catch_content text) catches)
    (all_mapped (catch_fits text) (λ (c : CatchContent). list_all naming_fits (named_by_type c.ty)) (catch_content text) (λ c h. h) catches
    (ranges_named text n read at (code_head n.file at) (code_lists n.file at) (code_typed n.file at)))
