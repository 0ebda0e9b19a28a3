use Rattle.std.proofs.Common.{◌∙◌, ◌<◌, arith}
use Rattle.pi_format.specs.Tables.{count_at, string_ids}
use Rattle.pi_format.specs.Rules.Strings.{string_units}
use Rattle.pi_dexcode.proofs.Noting.{names_go, numbers_go}
use Rattle.pi_dexcode.proofs.numbering.number.Goals as goal

pub loop-i-preserved : goal.loop-i-preserved
loop-i-preserved c =
    let names = c.args.prog.now.names in
    let file = c.args.raw.now in
    let below : c.loop-i.i < count_at file string_ids = omega (arith, c.loop-i-test.true, c.strings-i-end.ensures) in
    record {
      few = omega (arith, c.in_ok-note.ensures.grows, c.loop-i.invariant.few);
      names = rw (c.in_ok-note.ensures.names, c.in_ok-text.ensures)
          (names_go names c.loop-i.new (string_units file) c.loop-i.i (count_at file string_ids) below ∙ c.loop-i.invariant.names);
      numbers = rw (c.in_ok-note.ensures.numbers, c.in_ok-note.ensures.names, c.in_ok-text.ensures)
          (numbers_go names c.loop-i.new c.loop-i.numbers (string_units file) c.loop-i.i (count_at file string_ids) below ∙ c.loop-i.invariant.numbers);
    }
