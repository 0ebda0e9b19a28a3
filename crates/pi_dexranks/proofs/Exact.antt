-- Lists of things whose order is exact.
use Rattle.std.proofs.Common.{◌≡◌, Bool, true, List, Ordering, Less, Equal, Greater, refl, sym, ap, ◌∙◌, rules}
use Rattle.std.specs.Prelude.{IsTrue, ◌↔◌}
use Rattle.std.specs.Cmp.Lexicographic.{slice_cmp}
use Rattle.std.specs.Ordering.{is_eq}
use Rattle.pi_classtables.proofs.Orders.{IsExactOrder, lists_exact, equal_from_same}

is_level : (o : Ordering) → is_eq o ≡ true → o ≡ Equal
is_level Less e = cc
is_level Equal e = refl
is_level Greater e = cc

true_is : (b : Bool) → IsTrue b → b ≡ true
true_is b h = search rules

is_true : (b : Bool) → b ≡ true → IsTrue b
is_true b h = search rules

-- a comparison says equal where lists are the same
pub compared_same : {A : Type 0} {cmp : A → A → Ordering} → IsExactOrder cmp → (xs ys : List A) (r : Ordering) (b : Bool)
    → r ≡ slice_cmp cmp xs ys → b ≡ is_eq r → IsTrue b ↔ (xs ≡ ys)
compared_same {cmp = cmp} o xs ys r b e f = (
  λ h. (lists_exact o).same xs ys (sym e ∙ is_level r (sym f ∙ true_is b h)),
  λ same. is_true b (f ∙ ap is_eq (e ∙ equal_from_same (lists_exact o) xs ys same)),
)
