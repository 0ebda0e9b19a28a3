use Rattle.std.proofs.Common.{◌≡◌, drop}
use Rattle.pi_asmtext.specs.Symbols.{form_in}
use Rattle.pi_asmtext.proofs.forms.form_in.Given as goal

abbrev pub invariant-loop-name : goal.invariant-loop-name
invariant-loop-name l = form_in (λ r. r.0.now) (λ r. r.1) (drop l.name-index l.rows) l.units ≡ form_in (λ r. r.0.now) (λ r. r.1) l.rows l.units
