use Rattle.std.proofs.Common.{◌≡◌, ℕ, ◌<◌, ◌≤◌, List, Some, sym, ap, ◌∙◌, arith}
use Rattle.pi_format.specs.Tables.{count_at, proto_ids}
use Rattle.pi_format.specs.Rules.Entries.{entry_at}
use Rattle.pi_format.specs.Rules.Members.{proto_holds}
use Rattle.pi_format.proofs.Loops.{bad_goes}
use Rattle.pi_dexids.proofs.Places.{rule_stops, rule_ends}
use Rattle.pi_dexraw.proofs.Params.{one_more}
use Rattle.pi_dexraw.proofs.protos.protos_rule.Goals as goal

pub returns-then-not-branch : goal.returns-then-not-branch
returns-then-not-branch c =
    let file = c.args.types.now in
    let n : c.count-i-end.result ≡ count_at file proto_ids = c.count-i-end.ensures.value ∙ ap (λ (f : List ℕ). count_at f proto_ids) c.file-file.ensures.same in
    let lt : c.loop-i.i < count_at file proto_ids = omega (arith, n) in
    let place = c.entry.ensures.value ∙ ap (λ (f : List ℕ). entry_at f proto_ids 12 c.loop-i.i) c.file-file.ensures.same in
    ap Some place ∙ sym (rule_stops file proto_ids 12 c.loop-i.i (proto_holds file) lt (sym c.in_ok-holds.ensures ∙ c.if-not-branch.true) c.loop-i.invariant.so_far)

pub loop-i-preserved : goal.loop-i-preserved
loop-i-preserved c =
    let file = c.args.types.now in
    let n : c.count-i-end.result ≡ count_at file proto_ids = c.count-i-end.ensures.value ∙ ap (λ (f : List ℕ). count_at f proto_ids) c.file-file.ensures.same in
    let lt : c.loop-i.i < count_at file proto_ids = omega (arith, n) in
    let held = sym c.in_ok-holds.ensures ∙ c.if-not-branch.false in
    record {
      earlier = one_more (proto_holds file) c.loop-i.i c.loop-i.invariant.earlier held;
      so_far = bad_goes (proto_holds file) c.loop-i.i (count_at file proto_ids) lt held ∙ c.loop-i.invariant.so_far;
    }

pub returns : goal.returns
returns c =
    let file = c.args.types.now in
    let n : c.count-i-end.result ≡ count_at file proto_ids = c.count-i-end.ensures.value ∙ ap (λ (f : List ℕ). count_at f proto_ids) c.file-file.ensures.same in
    let le : count_at file proto_ids ≤ c.loop-i.i = omega (arith, n) in
    sym (rule_ends file proto_ids 12 c.loop-i.i (proto_holds file) le c.loop-i.invariant.so_far)
