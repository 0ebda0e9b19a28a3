use Rattle.std.proofs.Common.{◌≡◌, ℕ, ◌+◌, ap, sym, ◌∙◌, arith}
use Rattle.std.specs.Prelude.{not, count_by}
use Rattle.pi_asmtext.specs.Places.{is_second, width}
use Rattle.pi_asmtext.proofs.Bounds.{width_counts}
use Rattle.pi_asmtext.proofs.reading.column_behind.Goals as goal
use Rattle.pi_asmtext.proofs.reading.column_behind.Goals.{After-width}

wide : (c : After-width) → c.width.result ≡ width c.args.token.now.units
wide c = c.width.ensures ∙ ap (count_by (λ u. not (is_second u))) c.as_slice.ensures ∙ sym (width_counts c.args.token.now.units)

pub overflow_cast-result : goal.overflow_cast-result
overflow_cast-result c = let w = wide (goal.at.overflow_cast-result c).After-width in omega arith

pub overflow_add-result : goal.overflow_add-result
overflow_add-result c = let w = wide (goal.at.overflow_add-result c).After-width in omega arith

pub returns : goal.returns
returns c = ap (λ (n : ℕ). c.args.token.now.column + n) (wide c)
