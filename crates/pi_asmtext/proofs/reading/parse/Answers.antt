use Rattle.std.proofs.Common.{◌≡◌, ℕ, ◌+◌, Ok, Err, inl, inr, refl, sym, ap, subst, ◌∙◌}
use Rattle.std.specs.Str.{chars}
use Rattle.pi_asmtext.specs.declared.fault.AsmError.{AsmError}
use Rattle.pi_asmtext.specs.Grammar.{text}
use Rattle.pi_asmtext.specs.Places.{file_symbols, Wrong, AtEnd}
use Rattle.pi_asmtext.specs.Rest.{rest_of}
use Rattle.pi_asmtext.specs.Tokens.{lines_of, line_count}
use Rattle.pi_asmtext.specs.Walking.{walk}
use Rattle.pi_asmtext.proofs.Faults.{stops, is_text, too_short, no_text, no_text_stops}
use Rattle.pi_asmtext.proofs.reading.parse.Goals as goal
use Rattle.pi_asmtext.proofs.reading.parse.Goals.{In-Err, In-Ok}

-- the lines of the text were walked up to a place
stopped : (c : In-Err) → walk text (file_symbols (lines_of (chars c.args.text.now))) ≡ Err (c.in-Err.line, c.in-Err.column)
stopped c = ap (λ f. walk text (file_symbols f)) (sym (c.as_slice.ensures ∙ c.in_ok-cut.ensures.file)) ∙ c.in-Err.ensures

-- the lines of the text were all walked
went : (c : In-Ok) → walk text (file_symbols (lines_of (chars c.args.text.now))) ≡ Ok (rest_of c.in-Ok.state)
went c = ap (λ f. walk text (file_symbols f)) (sym (c.as_slice.ensures ∙ c.in_ok-cut.ensures.file)) ∙ c.in-Ok.ensures

pub returns-in-Err-clause-complete : goal.returns-in-Err-clause-complete
returns-in-Err-clause-complete c h = absurd (no_text_stops _ c.in-Err.line c.in-Err.column (stopped (goal.at.returns-in-Err-clause-complete c).In-Err) h)

pub returns-in-Err-clause-wrong : goal.returns-in-Err-clause-wrong
returns-in-Err-clause-wrong c =
    let P : AsmError → Type 0 = λ e. Wrong (chars c.args.text.now) e in
    subst P (sym c.wrong.ensures) (refl, inl (stops _ c.in-Err.line c.in-Err.column (stopped (goal.at.returns-in-Err-clause-wrong c).In-Err)))

pub returns-then-may_end-clause-lines : goal.returns-then-may_end-clause-lines
returns-then-may_end-clause-lines c = c.in_ok-cut.ensures.file

pub returns-then-may_end-clause-grammar : goal.returns-then-may_end-clause-grammar
returns-then-may_end-clause-grammar c =
    is_text (file_symbols c.in_ok-cut.cut.file) (rest_of c.in-Ok.state) (ap (λ f. walk text (file_symbols f)) (sym c.as_slice.ensures) ∙ c.in-Ok.ensures)
    (sym c.may_end.ensures ∙ c.if-may_end.true)

pub returns-else-may_end-clause-complete : goal.returns-else-may_end-clause-complete
returns-else-may_end-clause-complete c h =
    absurd (no_text _ (rest_of c.in-Ok.state) (went (goal.at.returns-else-may_end-clause-complete c).In-Ok) (sym c.may_end.ensures ∙ c.if-may_end.false) h)

pub returns-else-may_end-clause-wrong : goal.returns-else-may_end-clause-wrong
returns-else-may_end-clause-wrong c =
    let P : AsmError → Type 0 = λ e. Wrong (chars c.args.text.now) e in
    let last = line_count (chars c.args.text.now) + 1 in
    let Q : ℕ → Type 0 = λ n. AtEnd (file_symbols (lines_of (chars c.args.text.now))) last n 1 in
    let at = too_short (file_symbols (lines_of (chars c.args.text.now))) (rest_of c.in-Ok.state) last
    (went (goal.at.returns-else-may_end-clause-wrong c).In-Ok) (sym c.may_end.ensures ∙ c.if-may_end.false) in
    subst P (sym c.wrong-else-may_end.ensures) (refl, inr (subst Q (sym c.in_ok-cut.ensures.behind) at))
