use Rattle.std.proofs.Common.{ℕ, Bool, ap, ◌∙◌, arith}
use Rattle.std.specs.Prelude.{◌==◌, not}
use Rattle.pi_format.specs.Rules.Entries.{some_from}
use Rattle.pi_format.specs.Rules.Map.{item_type}
use Rattle.pi_dexids.proofs.Lists.{fact_is}
use Rattle.pi_dexraw.proofs.map.is_new.Goals as goal

pub returns : goal.returns
returns c =
    let test : ℕ → Bool = λ t. some_from (λ k. item_type c.args.file.now k == t) 0 c.args.i in
    ap not (fact_is test 65536 c.args.seen.now c.kind.result c.fact.result c.requires.flags (omega arith) c.fact.ensures ∙ ap test c.kind.ensures)
