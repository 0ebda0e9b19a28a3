use Rattle.std.proofs.Common.{◌≡◌, ◌∙◌, ◌≤◌, take, length, sym, ap, arith, rules}
use Rattle.std.proofs.lemmas.List.{length-take}
use Rattle.pi_model.specs.Registers.{named_registers, places_of}
use Rattle.pi_model.proofs.Registers.{few_back}
use Rattle.pi_model.proofs.regs.Regs.few.Goals as goal

five : (c : goal.After-kept) → length c.args.regs ≡ 5
five c = search rules

counted : (c : goal.After-kept) → c.min.result ≡ length (take c.args.n c.args.regs)
counted c = omega (arith, c.min.ensures, length-take c.args.n c.args.regs, five c)

back : (c : goal.After-kept) → named_registers c.min.result c.kept.result ≡ take c.args.n c.args.regs
back c =
    let few : length (take c.args.n c.args.regs) ≤ 5 = omega (arith, length-take c.args.n c.args.regs, five c) in
    rw (counted c, c.kept.ensures) (few_back (take c.args.n c.args.regs) few)

pub invariant_of-result : goal.invariant_of-result
invariant_of-result c = (ap length (back c) ∙ sym (counted c), ap places_of (back c) ∙ sym c.kept.ensures)

pub returns : goal.returns
returns c = back c
