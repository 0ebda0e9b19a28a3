use Rattle.std.proofs.Common.{◌<◌, ℕ, subst, ap, ◌∙◌}
use Rattle.pi_format.specs.Rules.Strings.{string_units}
use Rattle.pi_dexids.specs.declared.tail.Tail.{Tail}
use Rattle.pi_dexraw.specs.Whole.{known_text, known_of}
use Rattle.pi_dexraw.proofs.Texts.{long_text, known_by_bytes}
use Rattle.pi_dexraw.proofs.known.known_text_of.Goals as goal

pub returns-then-string-gt18 : goal.returns-then-string-gt18
unfolding known_of
returns-then-string-gt18 c =
    let units = string_units c.args.file.now c.args.i in
    long_text units (subst (λ (n : ℕ). 18 < n) (ap (λ (t : Tail). t.units) c.string.ensures) c.if-string-gt18.true)

pub returns : goal.returns
unfolding known_of
returns c =
    c.spelled_by.ensures ∙ ap known_text c.text_bytes.ensures ∙ known_by_bytes c.args.file.now c.args.i c.requires.texts c.requires.counted
