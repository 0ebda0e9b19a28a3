use Rattle.std.proofs.Common.{◌≡◌, nat_le, rules}
use Rattle.std.proofs.lemmas.List.Sorted.{answers_always}
use Rattle.pi_dextables.proofs.Rising.{order_decided}
use Rattle.pi_dextables.proofs.fits.methods_rise.Goals as goal

pub returns : goal.returns
returns c =
    order_decided (λ m. m.id) c.args.rows.now c.is_sorted_by.result
    (c.is_sorted_by.ensures.cases (λ m n. nat_le m.id n.id) (answers_always _ (λ a r. r ≡ nat_le a.0.now.id a.1.0.now.id) _ (λ a r q k. search rules)))
