use Rattle.std.proofs.Common.{ap, ◌∙◌, ◌++◌, ◌∷◌, [], length}
use Rattle.byteorder.specs.Endian.{little_bytes}
use Rattle.pi_parts.specs.Parts.{halves, words}
use Rattle.pi_dexlay.proofs.Steps.{join4}
use Rattle.pi_dexlay.proofs.codes.put_units.Goals as goal

pub returns : goal.returns
returns c =
    let b = c.args.body.now in
    join4 c.args.out.now.items (halves (b.registers ∷ b.ins ∷ b.outs ∷ [])) (little_bytes 2 (length b.ranges)) (words (0 ∷ length b.units ∷ [])) (halves b.units)
    c.put_halves.new.out.items c.put_half.new.out.items c.put_words.new.out.items c.put_halves-2.new.out.items
    c.in_ok-put_halves.ensures (c.in_ok-put_half.ensures ∙ ap (λ k. c.put_halves.new.out.items ++ little_bytes 2 k) c.len.ensures)
    (c.in_ok-put_words.ensures ∙ ap (λ k. c.put_half.new.out.items ++ words (0 ∷ k ∷ [])) c.len-2.ensures)
    (c.in_ok-put_halves-2.ensures ∙ ap (λ z. c.put_words.new.out.items ++ halves z) c.as_slice.ensures)
