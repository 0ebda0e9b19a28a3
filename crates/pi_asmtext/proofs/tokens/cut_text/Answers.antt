use Rattle.std.proofs.Common.{◌≡◌, ℕ, ◌+◌, ◌≤◌, List, ◌++◌, Result, Ok, Err, length, subst, ap, sym, ◌∙◌, arith, length-append}
use Rattle.std.specs.Prelude.{IfOk}
use Rattle.std.specs.Str.{chars}
use Rattle.std.proofs.lemmas.List.{map-id}
use Rattle.std.proofs.lemmas.Str.{length-encode, len_utf8_bounds, length-le-encodes, encodes-chars}
use Rattle.std.proofs.lemmas.Iterator.{YieldsList-from_chars}
use Rattle.std.proofs.lemmas.Iterator.Consumers.{YieldsList-end}
use Rattle.pi_asmtext.specs.declared.tokens.Cutter.{Cutter}
use Rattle.pi_asmtext.specs.declared.tokens.Cut.{Cut}
use Rattle.pi_asmtext.specs.Tokens.{lines_of, line_count}
use Rattle.pi_asmtext.specs.Cutting.{at_start, text_step, text_steps, whole_cut}
use Rattle.pi_asmtext.specs.Walking.{AllSmall}
use Rattle.pi_asmtext.specs.declared.file.AsmLine.{AsmLine}
use Rattle.pi_asmtext.proofs.Bounds.{text_small}
use Rattle.pi_asmtext.proofs.Cutting.{rises, one_more, cut_lines, cut_after}
use Rattle.pi_asmtext.proofs.tokens.cut_text.Goals as goal
use Rattle.pi_asmtext.proofs.tokens.cut_text.Goals.{After-finish}

falls : (bs front rest : List ℕ) (k : ℕ) → bs ≡ front ++ rest → length front ≡ k → 1 ≤ k → length rest + 1 ≤ length bs
falls bs front rest k e f lt = let l = ap length e in let a = length-append front rest in omega arith

pub loop-c-preserved : goal.loop-c-preserved
loop-c-preserved c =
    let step : c.take.new.self ≡ text_step c.loop-c.cutter c.in-Some.c = c.in_ok-take.ensures in
    let r = rises c.loop-c.cutter c.in-Some.c in
    let less = falls _ _ _ _ c.in-Some.ensures.steps.0 (length-encode c.in-Some.c) (len_utf8_bounds c.in-Some.c).0 in
    let n = ap (λ (m : Cutter). m.number) step in
    let k = ap (λ (m : Cutter). m.column) step in
    record {
      so_far = step ∙ ap (λ m. text_step m c.in-Some.c) c.loop-c.invariant.so_far ∙ sym (one_more at_start c.loop-c.yielded c.in-Some.c);
      number = omega arith;
      column = omega arith;
    }

mapped : {A E : Type 0} (P Q : A → Type 0) (r : Result A E) → ((x : A) → P x → Q x) → IfOk r P → IfOk r Q
mapped P Q (Ok x) f h = f x h
mapped P Q (Err e) f h = h

-- all characters are read
all_read : (c : After-finish) → c.loop-c.cutter ≡ text_steps at_start (chars c.args.text.now)
all_read c =
    let t = YieldsList-end (YieldsList-from_chars c.args.text.now c.utf8.text (cc)) c.loop-c.yielded _ c.loop-c.yielded_by _ _ c.in-None.is c.next.ensures.steps in
    c.loop-c.invariant.so_far ∙ ap (text_steps at_start) (sym (map-id c.loop-c.yielded) ∙ t.0)

pub returns-clause-file : goal.returns-clause-file
returns-clause-file c =
    mapped (λ cut. cut ≡ whole_cut c.loop-c.cutter) (λ cut. cut.file ≡ lines_of (chars c.args.text.now)) c.finish.result
    (λ cut e. ap (λ (x : Cut). x.file) e ∙ ap (λ (m : Cutter). (whole_cut m).file) (all_read c) ∙ cut_lines (chars c.args.text.now))
    c.finish.ensures

pub returns-clause-behind : goal.returns-clause-behind
returns-clause-behind c =
    mapped (λ cut. cut ≡ whole_cut c.loop-c.cutter) (λ cut. cut.behind ≡ line_count (chars c.args.text.now) + 1) c.finish.result
    (λ cut e. ap (λ (x : Cut). x.behind) e ∙ ap (λ (m : Cutter). (whole_cut m).behind) (all_read c) ∙ cut_after (chars c.args.text.now))
    c.finish.ensures

pub returns-clause-small : goal.returns-clause-small
returns-clause-small c =
    let fewer = length-le-encodes (chars c.args.text.now) in
    let same = ap length (encodes-chars c.args.text.now c.utf8.text) in
    let small = text_small (chars c.args.text.now) (omega arith) in
    let P : List AsmLine → Type 0 = λ file. AllSmall file in
    mapped (λ cut. cut ≡ whole_cut c.loop-c.cutter) (λ cut. AllSmall cut.file) c.finish.result
    (λ cut e. subst P (sym (ap (λ (x : Cut). x.file) e ∙ ap (λ (m : Cutter). (whole_cut m).file) (all_read c) ∙ cut_lines (chars c.args.text.now))) small)
    c.finish.ensures
