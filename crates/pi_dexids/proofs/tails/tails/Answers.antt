use Rattle.std.proofs.Common.{◌<◌, ◌≤◌, Some, sym, ap, ◌∙◌, arith}
use Rattle.std.specs.Prelude.{is_some}
use Rattle.pi_format.specs.Tables.{count_at, string_ids}
use Rattle.pi_format.specs.Rules.Strings.{string_text, string_units}
use Rattle.pi_format.proofs.Loops.{bad_goes}
use Rattle.pi_dexids.specs.Tails.{tail_of}
use Rattle.pi_dexids.proofs.KnownTexts.{string_known, is_there, is_not_there}
use Rattle.pi_dexids.proofs.Lists.{facts_pushed}
use Rattle.pi_dexids.proofs.Places.{rule_stops, rule_ends}
use Rattle.pi_dexids.proofs.tails.tails.Goals as goal

pub returns-in_default-clause-broken : goal.returns-in_default-clause-broken
returns-in_default-clause-broken c =
    let file = c.args.file.now in
    let i = c.loop-i.i in
    let lt : i < count_at file string_ids = omega (arith, c.count-i-end.ensures.value, c.loop-i-test.true) in
    let none = is_not_there (string_text file i) (sym c.in_ok-tail.ensures.value ∙ c.in_default.is) in
    rule_stops file string_ids 4 i (λ k. is_some (string_text file k)) lt none c.loop-i.invariant.1 ∙ ap Some (sym c.entry.ensures.value)

pub loop-i-preserved : goal.loop-i-preserved
loop-i-preserved c =
    let file = c.args.file.now in
    let i = c.loop-i.i in
    let lt : i < count_at file string_ids = omega (arith, c.count-i-end.ensures.value, c.loop-i-test.true) in
    let known = sym c.in_ok-tail.ensures.value ∙ c.in-Some.is in
    let tail = string_known (string_text file i) c.in-Some.tail known in
    let there = is_there (string_text file i) c.in-Some.tail known in
    let items = c.in_ok-push.ensures.items in (
      rw items (facts_pushed (λ k. tail_of (string_units file k)) i c.loop-i.list.items c.in-Some.tail c.loop-i.invariant.0 tail),
      bad_goes (λ k. is_some (string_text file k)) i (count_at file string_ids) lt there ∙ c.loop-i.invariant.1,
      omega (arith, c.loop-i.invariant.2),
    )

pub returns-clause-held : goal.returns-clause-held
returns-clause-held c =
    let file = c.args.file.now in
    let le : count_at file string_ids ≤ c.loop-i.i = omega (arith, c.count-i-end.ensures.value, c.loop-i-test.false) in
    rule_ends file string_ids 4 c.loop-i.i (λ k. is_some (string_text file k)) le c.loop-i.invariant.1
