use Rattle.std.proofs.Common.{ℕ, List, take, sym, ap, ◌∙◌}
use Rattle.std.specs.Prelude.{◌==◌}
use Rattle.std.specs.List.{position_or_len}
use Rattle.pi_dexids.specs.Texts.{head_at}
use Rattle.pi_dexraw.proofs.Zeros.{bytes_are}
use Rattle.pi_dexraw.proofs.known.text_bytes.Goals as goal

pub returns-in-Some : goal.returns-in-Some
returns-in-Some c =
    let file = c.args.file.now in
    let e = ap (head_at file) (sym c.text_place.ensures) ∙ sym c.in-Some.ensures.value in
    c.before_zero.ensures ∙ ap (λ (xs : List ℕ). take (position_or_len (λ b. b == 0) xs) xs) c.split_at.ensures.back
    ∙ sym (bytes_are file c.args.i c.in-Some.field-0-0 c.in-Some.begin c.requires.texts c.requires.counted e)
