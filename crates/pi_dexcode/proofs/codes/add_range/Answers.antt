use Rattle.std.proofs.Common.{◌≡◌, ℕ, ◌+◌, ◌<◌, ◌≤◌, List, ◌++◌, length, Some, None, sym, ap, ◌∙◌, subst}
use Rattle.std.specs.Prelude.{◌==◌, OnOk}
use Rattle.std.proofs.lemmas.List.{append-nil}
use Rattle.pi_model.specs.declared.describe.Catch.{Catch}
use Rattle.pi_bytes.specs.Numbers.{most_bytes, word_end}
use Rattle.pi_format.specs.Tables.{count_at, type_ids}
use Rattle.pi_format.specs.Rules.CodeItems.{HandlerList, TryRange, lists_at}
use Rattle.pi_dexcode.specs.Whole.{NamesTypes}
use Rattle.pi_dexcode.proofs.Catches.{whole_range, range_small, catches_found, found_holds}
use Rattle.pi_dexcode.proofs.codes.add_range.Goals as goal

pub add_list-requires-clause-ends : goal.add_list-requires-clause-ends
add_list-requires-clause-ends c =
    let file = c.args.names.now.file in
    let range = whole_range file c.file.result.now c.args.at c.args.head.now c.args.k c.try_range-range.result (c.file.ensures.value ∙ c.raw.ensures) c.requires.head c.try_range-range.ensures in
    let few = subst (λ (f : List ℕ). length f ≤ most_bytes) c.raw.ensures c.file.ensures.small in
    subst (λ (r : TryRange). r.from + r.size < word_end) (sym range)
    (range_small file c.args.at c.args.head.now c.args.k few c.requires.lies c.requires.head c.requires.hold c.requires.counted)

pub add_list-requires-clause-types : goal.add_list-requires-clause-types
add_list-requires-clause-types c =
    found_holds (NamesTypes (count_at c.args.names.now.file type_ids)) (λ (l : HandlerList). l.at == c.lists_at.result + c.range.inside.handlers) c.args.lists.now c.in-Some.list.now
    c.requires.types (sym c.in-Some.ensures)

pub returns-in-None : goal.returns-in-None
returns-in-None c =
    let range = whole_range c.args.names.now.file c.file.result.now c.args.at c.args.head.now c.args.k c.try_range-range.result (c.file.ensures.value ∙ c.raw.ensures) c.requires.head c.try_range-range.ensures in
    let there : c.lists_at.result + c.range.inside.handlers ≡ lists_at c.args.at c.args.head.now + c.try_range-range.result.handlers =
    ap (λ (n : ℕ). n + c.range.inside.handlers) c.lists_at.ensures ∙ ap (λ (r : TryRange). lists_at c.args.at c.args.head.now + r.handlers) c.range.view_is in
    let e = catches_found c.args.names.now c.args.at c.args.head.now c.args.lists.now c.args.k (c.lists_at.result + c.range.inside.handlers) c.try_range-range.result None range there c.in-None.ensures in
    sym (append-nil c.args.tries.now) ∙ ap (λ (cs : List Catch). c.args.tries.now ++ cs) (sym e)

pub returns-in-Some : goal.returns-in-Some
returns-in-Some c =
    let range = whole_range c.args.names.now.file c.file.result.now c.args.at c.args.head.now c.args.k c.try_range-range.result (c.file.ensures.value ∙ c.raw.ensures) c.requires.head c.try_range-range.ensures in
    let there : c.lists_at.result + c.range.inside.handlers ≡ lists_at c.args.at c.args.head.now + c.try_range-range.result.handlers =
    ap (λ (n : ℕ). n + c.range.inside.handlers) c.lists_at.ensures ∙ ap (λ (r : TryRange). lists_at c.args.at c.args.head.now + r.handlers) c.range.view_is in
    let e = catches_found c.args.names.now c.args.at c.args.head.now c.args.lists.now c.args.k (c.lists_at.result + c.range.inside.handlers) c.try_range-range.result (Some c.in-Some.list.now) range there c.in-Some.ensures in
    subst (λ (cs : List Catch). OnOk c.add_list.result (c.add_list.new.tries ≡ c.args.tries.now ++ cs)) (sym e) c.add_list.ensures
