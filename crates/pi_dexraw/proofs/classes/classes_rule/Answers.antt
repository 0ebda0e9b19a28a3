use Rattle.std.proofs.Common.{◌≡◌, ℕ, ◌-◌, ◌/◌, ◌<◌, ◌≤◌, List, length, Some, sym, ap, ◌∙◌, arith}
use Rattle.pi_format.specs.Tables.{count_at, class_defs}
use Rattle.pi_format.specs.Rules.Entries.{entry_at, first_bad}
use Rattle.pi_format.specs.Rules.Classes.{class_holds}
use Rattle.pi_format.proofs.Loops.{bad_goes}
use Rattle.pi_dexids.proofs.Places.{rule_stops, rule_ends}
use Rattle.pi_dexraw.proofs.Judged.{none_known}
use Rattle.pi_dexraw.proofs.Faces.{same_marks}
use Rattle.pi_dexraw.proofs.classes.classes_rule.Goals as goal

pub returns-then-not-branch : goal.returns-then-not-branch
returns-then-not-branch c =
    let file = c.args.types.now in
    let n : c.count-i-end.result ≡ count_at file class_defs = c.count-i-end.ensures.value ∙ ap (λ (f : List ℕ). count_at f class_defs) c.file-file.ensures.same in
    let lt : c.loop-i.i < count_at file class_defs = omega (arith, n) in
    let place = c.entry.ensures.value ∙ ap (λ (f : List ℕ). entry_at f class_defs 32 c.loop-i.i) c.file-file.ensures.same in
    ap Some place ∙ sym (rule_stops file class_defs 32 c.loop-i.i (class_holds file) lt (sym c.in_ok-holds.ensures.value ∙ c.if-not-branch.true) c.loop-i.invariant.so_far)

pub loop-i-preserved : goal.loop-i-preserved
loop-i-preserved c =
    let file = c.args.types.now in
    let n : c.count-i-end.result ≡ count_at file class_defs = c.count-i-end.ensures.value ∙ ap (λ (f : List ℕ). count_at f class_defs) c.file-file.ensures.same in
    let lt : c.loop-i.i < count_at file class_defs = omega (arith, n) in
    let held = sym c.in_ok-holds.ensures.value ∙ c.if-not-branch.false in
    record {
      same = c.holds.ensures.same ∙ c.loop-i.invariant.same;
      fresh = c.holds.ensures.kept;
      known = c.holds.ensures.known;
      so_far = bad_goes (class_holds file) c.loop-i.i (count_at file class_defs) lt held ∙ c.loop-i.invariant.so_far;
    }

pub returns : goal.returns
returns c =
    let file = c.args.types.now in
    let n : c.count-i-end.result ≡ count_at file class_defs = c.count-i-end.ensures.value ∙ ap (λ (f : List ℕ). count_at f class_defs) c.file-file.ensures.same in
    let le : count_at file class_defs ≤ c.loop-i.i = omega (arith, n) in
    sym (rule_ends file class_defs 32 c.loop-i.i (class_holds file) le c.loop-i.invariant.so_far)

pub loop-i-init : goal.loop-i-init
loop-i-init c =
    let file = c.args.types.now in
    let all : count_at file class_defs - 0 ≡ count_at file class_defs = omega arith in
    record {
      same = c.in_ok-marks.ensures.counted ∙ c.count.ensures;
      fresh = same_marks 0 c.count.result c.in_ok-marks.marks.items c.in_ok-marks.ensures;
      known = none_known file (length c.file-file.result.now / 4) c.in_ok-known.known.items c.in_ok-known.ensures;
      so_far = ap (first_bad (class_holds file) 0) all;
    }
