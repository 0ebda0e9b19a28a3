-- Where the parts of a code item end, and what its handler lists are.
use Rattle.std.proofs.Common.{◌≡◌, ◌≢◌, ℕ, ◌+◌, ◌*◌, ◌<◌, ◌≤◌, List, [], length, true, false, Some, None, Option, refl, sym, ap, ◌∙◌, subst, arith}
use Rattle.std.specs.Prelude.{◌==◌, Bool, if◌then◌else◌}
use Rattle.std.proofs.lemmas.Bool.Decides.{nat_tests}
use Rattle.pi_bytes.specs.Numbers.{word_at}
use Rattle.pi_insn.specs.Chain.{◌>>=◌}
use Rattle.pi_format.specs.Rules.CodeItems.{CodeHead, HandlerList, code_head, code_lies, lists_at, ranges_hold, ranges_have_lists, handler_lists, code_lists}

pub code_in_file : (file : List ℕ) (at : ℕ) → code_lies file at ≡ true → at + 16 + 2 * word_at file (at + 12) ≤ length file
unfolding code_lies
code_in_file file at lies = grind (arith, nat_tests)

pub no_tries : (file : List ℕ) (at : ℕ) → (code_head file at).tries ≡ 0 → code_lists file at ≡ Some []
unfolding code_lists
no_tries file at none =
    let t : ((code_head file at).tries == 0) ≡ true = grind (arith, nat_tests) in
    rw t refl

pub tries_refused : (file : List ℕ) (at : ℕ) → (code_head file at).tries ≢ 0 → ranges_hold file at (code_head file at) ≡ false → code_lists file at ≡ None
unfolding code_lists
tries_refused file at some fails =
    let t : ((code_head file at).tries == 0) ≡ false = grind (arith, nat_tests) in
    rw (t, fails) refl

pub lists_unread : (file : List ℕ) (at : ℕ) → (code_head file at).tries ≢ 0 → ranges_hold file at (code_head file at) ≡ true
    → handler_lists file (code_head file at).units (lists_at at (code_head file at)) ≡ None → code_lists file at ≡ None
unfolding code_lists
lists_unread file at some held none =
    let t : ((code_head file at).tries == 0) ≡ false = grind (arith, nat_tests) in
    rw (t, held, none) refl

pub lists_apart : (file : List ℕ) (at : ℕ) (lists : List HandlerList) → (code_head file at).tries ≢ 0 → ranges_hold file at (code_head file at) ≡ true
    → handler_lists file (code_head file at).units (lists_at at (code_head file at)) ≡ Some lists
    → ranges_have_lists file at (code_head file at) lists ≡ false → code_lists file at ≡ None
unfolding code_lists
lists_apart file at lists some held read fails =
    let t : ((code_head file at).tries == 0) ≡ false = grind (arith, nat_tests) in
    rw (t, held, read, fails) refl

pub lists_are : (file : List ℕ) (at : ℕ) (lists : List HandlerList) → (code_head file at).tries ≢ 0 → ranges_hold file at (code_head file at) ≡ true
    → handler_lists file (code_head file at).units (lists_at at (code_head file at)) ≡ Some lists
    → ranges_have_lists file at (code_head file at) lists ≡ true → code_lists file at ≡ Some lists
unfolding code_lists
lists_are file at lists some held read have =
    let t : ((code_head file at).tries == 0) ≡ false = grind (arith, nat_tests) in
    rw (t, held, read, have) refl

-- where there are lists for ranges, these hold, and each has one of them
pub lists_need_ranges : (file : List ℕ) (at : ℕ) (lists : List HandlerList) → code_lists file at ≡ Some lists → 0 < (code_head file at).tries → ranges_hold file at (code_head file at) ≡ true
unfolding code_lists
lists_need_ranges file at lists e some =
    let t : ((code_head file at).tries == 0) ≡ false = grind (arith, nat_tests) in
    by_test (ranges_hold file at (code_head file at)) refl (rw t at e)
  where
    rest : Option (List HandlerList)
    rest = handler_lists file (code_head file at).units (lists_at at (code_head file at)) >>= (λ lists. if ranges_have_lists file at (code_head file at) lists then Some lists else None)

    by_test : (b : Bool) → ranges_hold file at (code_head file at) ≡ b → (if ranges_hold file at (code_head file at) then rest else None) ≡ Some lists → ranges_hold file at (code_head file at) ≡ true
    by_test true is e = is
    by_test false is e =
        let e' : None ≡ Some lists = rw is at e in
        cc

-- the same by the head that was read
pub head_refused : (file : List ℕ) (at : ℕ) (head : CodeHead) → head ≡ code_head file at → head.tries ≢ 0 → ranges_hold file at head ≡ false → code_lists file at ≡ None
head_refused file at head is =
    subst (λ (h : CodeHead). h.tries ≢ 0 → ranges_hold file at h ≡ false → code_lists file at ≡ None) (sym is) (tries_refused file at)

pub head_unread : (file : List ℕ) (at : ℕ) (head : CodeHead) → head ≡ code_head file at → head.tries ≢ 0 → ranges_hold file at head ≡ true
    → handler_lists file head.units (lists_at at head) ≡ None → code_lists file at ≡ None
head_unread file at head is =
    subst (λ (h : CodeHead). h.tries ≢ 0 → ranges_hold file at h ≡ true → handler_lists file h.units (lists_at at h) ≡ None → code_lists file at ≡ None) (sym is) (lists_unread file at)

pub head_apart : (file : List ℕ) (at : ℕ) (head : CodeHead) (lists : List HandlerList) → head ≡ code_head file at → head.tries ≢ 0 → ranges_hold file at head ≡ true
    → handler_lists file head.units (lists_at at head) ≡ Some lists → ranges_have_lists file at head lists ≡ false → code_lists file at ≡ None
head_apart file at head lists is =
    subst (λ (h : CodeHead). h.tries ≢ 0 → ranges_hold file at h ≡ true → handler_lists file h.units (lists_at at h) ≡ Some lists → ranges_have_lists file at h lists ≡ false → code_lists file at ≡ None)
    (sym is) (lists_apart file at lists)

pub head_lists : (file : List ℕ) (at : ℕ) (head : CodeHead) (lists : List HandlerList) → head ≡ code_head file at → head.tries ≢ 0 → ranges_hold file at head ≡ true
    → handler_lists file head.units (lists_at at head) ≡ Some lists → ranges_have_lists file at head lists ≡ true → code_lists file at ≡ Some lists
head_lists file at head lists is =
    subst (λ (h : CodeHead). h.tries ≢ 0 → ranges_hold file at h ≡ true → handler_lists file h.units (lists_at at h) ≡ Some lists → ranges_have_lists file at h lists ≡ true → code_lists file at ≡ Some lists)
    (sym is) (lists_are file at lists)

pub lists_read : (file : List ℕ) (at units begin : ℕ) (head : CodeHead) (r : Option (List HandlerList)) → units ≡ head.units → begin ≡ lists_at at head
    → r ≡ handler_lists file units begin → handler_lists file head.units (lists_at at head) ≡ r
lists_read file at units begin head r u b e =
    sym (e ∙ ap (λ (n : ℕ). handler_lists file n begin) u ∙ ap (λ (n : ℕ). handler_lists file head.units n) b)
