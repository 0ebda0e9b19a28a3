use Rattle.std.proofs.Common.{◌≡◌, ℕ, ◌-◌, ◌<◌, ◌≤◌, List, Some, sym, ap, ◌∙◌, arith}
use Rattle.pi_format.specs.Tables.{count_at, method_ids}
use Rattle.pi_format.specs.Rules.Entries.{entry_at, first_bad}
use Rattle.pi_format.specs.Rules.Members.{method_holds}
use Rattle.pi_format.proofs.Loops.{bad_goes}
use Rattle.pi_dexids.proofs.Places.{rule_stops, rule_ends}
use Rattle.pi_dexraw.proofs.members.methods_rule.Goals as goal

pub returns-then-not-branch : goal.returns-then-not-branch
returns-then-not-branch c =
    let file = c.args.types.now in
    let n : c.count-i-end.result ≡ count_at file method_ids = c.count-i-end.ensures.value ∙ ap (λ (f : List ℕ). count_at f method_ids) c.file-file.ensures.same in
    let lt : c.loop-i.i < count_at file method_ids = omega (arith, n) in
    let place = c.entry.ensures.value ∙ ap (λ (f : List ℕ). entry_at f method_ids 8 c.loop-i.i) c.file-file.ensures.same in
    ap Some place ∙ sym (rule_stops file method_ids 8 c.loop-i.i (method_holds file) lt (sym c.in_ok-holds_method.ensures ∙ c.if-not-branch.true) c.loop-i.invariant)

pub loop-i-preserved : goal.loop-i-preserved
loop-i-preserved c =
    let file = c.args.types.now in
    let n : c.count-i-end.result ≡ count_at file method_ids = c.count-i-end.ensures.value ∙ ap (λ (f : List ℕ). count_at f method_ids) c.file-file.ensures.same in
    let lt : c.loop-i.i < count_at file method_ids = omega (arith, n) in
    let held = sym c.in_ok-holds_method.ensures ∙ c.if-not-branch.false in
    bad_goes (method_holds file) c.loop-i.i (count_at file method_ids) lt held ∙ c.loop-i.invariant

pub returns : goal.returns
returns c =
    let file = c.args.types.now in
    let n : c.count-i-end.result ≡ count_at file method_ids = c.count-i-end.ensures.value ∙ ap (λ (f : List ℕ). count_at f method_ids) c.file-file.ensures.same in
    let le : count_at file method_ids ≤ c.loop-i.i = omega (arith, n) in
    sym (rule_ends file method_ids 8 c.loop-i.i (method_holds file) le c.loop-i.invariant)

pub loop-i-init : goal.loop-i-init
loop-i-init c =
    let file = c.args.types.now in
    let all : count_at file method_ids - 0 ≡ count_at file method_ids = omega arith in
    ap (first_bad (method_holds file) 0) all
