-- The element of a list by number.
use Rattle.std.proofs.Common.{◌≡◌, ℕ, ◌<◌, List, length, get_or, Some, sym, ap, subst, ◌∙◌, arith, zero-add}
use Rattle.std.specs.Prelude.{slice_get}
use Rattle.std.proofs.lemmas.Option.{slice_get_read}
use Rattle.pi_format.specs.Rules.Lowest.{tabulation}
use Rattle.pi_format.proofs.Loops.{listed_length, listed_get}

pub listed_at : {A : Type 0} (f : ℕ → A) (n : ℕ) (xs ys : List A) (i : ℕ) (x : A) → xs ≡ ys → ys ≡ tabulation f 0 n → i < length ys → x ≡ get_or xs i x → x ≡ f i
listed_at f n xs ys i x e is lt at =
    let all : length ys ≡ n = ap length is ∙ listed_length f 0 n in
    let less : i < n = omega arith in
    let here = subst (λ zs. x ≡ get_or zs i x) (e ∙ is) at in
    let got : slice_get (tabulation f 0 n) i ≡ Some x = slice_get_read (tabulation f 0 n) n i x (sym (listed_length f 0 n)) less here in
    let given : slice_get (tabulation f 0 n) i ≡ Some (f i) = listed_get f 0 n i less ∙ ap (λ (k : ℕ). Some (f k)) (zero-add i) in
    cc
