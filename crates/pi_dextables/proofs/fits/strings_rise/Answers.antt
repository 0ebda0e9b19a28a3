use Rattle.std.proofs.Common.{◌≡◌, rules}
use Rattle.std.specs.Cmp.Lexicographic.{slice_cmp}
use Rattle.std.specs.Ordering.{nat_cmp, is_lt}
use Rattle.std.proofs.lemmas.Cmp.{nat_list_cmp_total}
use Rattle.std.proofs.lemmas.List.{map-id}
use Rattle.std.proofs.lemmas.List.Sorted.{answers_always}
use Rattle.pi_dextables.proofs.Rising.{rises_decided, order_tells}
use Rattle.pi_dextables.proofs.fits.strings_rise.Goals as goal

pub returns : goal.returns
returns c = rw (← map-id c.args.strings.now) (rises_decided nat_list_cmp_total (λ x. x) (λ x y. is_lt (slice_cmp nat_cmp x y)) (λ x y. order_tells (slice_cmp nat_cmp x y)) c.args.strings.now c.is_sorted_by.result (c.is_sorted_by.ensures.cases (λ x y. is_lt (slice_cmp nat_cmp x y)) (answers_always _ (λ a r. r ≡ is_lt (slice_cmp nat_cmp a.0.now a.1.0.now)) _ (λ a r q k. search rules))))
