use Rattle.std.proofs.Common.{rules, ◌≡◌, ℕ, ◌<◌, Some, sym, ap, ◌∙◌, arith}
use Rattle.std.specs.Prelude.{nat_abs}
use Rattle.pi_format.specs.Rules.CodeItems.{HandlerList, has_last}
use Rattle.pi_codeitem.proofs.Readers.{no_last, whole_list}
use Rattle.pi_codeitem.proofs.reading.list.Goals as goal

pub returns-in-None-clause-exact : goal.returns-in-None-clause-exact
returns-in-None-clause-exact c =
    let n : c.count.result ≡ nat_abs c.in-Some.size = search rules in
    let b : c.has_last.result ≡ has_last c.in-Some.size = search rules in
    no_last c.args.file.now c.args.units c.count.result c.args.cursor.now c.sleb.new.cursor c.typed.new.cursor c.in-Some.size c.in_ok-typed.field-0 c.in-Some-2.typed c.has_last.result
    c.in-Some.ensures.exact c.in_ok-typed.ensures.exact n c.in-Some-2.is (c.in-None.ensures.exact c.args.file.now) b

pub returns-in-Some-last-clause-exact : goal.returns-in-Some-last-clause-exact
returns-in-Some-last-clause-exact c =
    let n : c.count.result ≡ nat_abs c.in-Some.size = search rules in
    let b : c.has_last.result ≡ has_last c.in-Some.size = search rules in
    let e = whole_list c.args.file.now c.args.units c.count.result c.args.cursor.now c.sleb.new.cursor c.typed.new.cursor c.last.new.cursor c.in-Some.size c.in_ok-typed.field-0 c.in-Some-2.typed c.has_last.result c.in-Some-last.last
    c.in-Some.ensures.exact c.in_ok-typed.ensures.exact n c.in-Some-2.is (c.in-Some-last.ensures.exact c.args.file.now) b in
    e ∙ ap (λ (n : ℕ). Some (list_at c n, c.last.new.cursor)) (sym c.at-at.ensures.value)
  where
    list_at : goal.In-Some-last → ℕ → HandlerList
    list_at c n = record { at = n; typed = c.in-Some-2.typed; last = c.in-Some-last.last }

pub returns-in-Some-last-clause-behind : goal.returns-in-Some-last-clause-behind
returns-in-Some-last-clause-behind c =
    let first : c.args.cursor.now.at < c.sleb.new.cursor.at = c.in-Some.ensures.behind in
    omega (arith, first, c.in_ok-typed.ensures.behind, c.in-Some-last.ensures.stays)
