-- Lists that are tested one element after another: the lines of a code, and the names of a program.
use Rattle.std.proofs.Common.{◌≡◌, ℕ, zero, suc, ◌+◌, Bool, true, false, List, [], ◌∷◌, length, drop, Some, get_or, arith, add-one, ap, sym, ◌∙◌}
use Rattle.std.specs.Prelude.{◌&&◌, slice_get}
use Rattle.std.specs.List.{list_all}
use Rattle.pi_model.specs.declared.describe.Line.{Line}
use Rattle.pi_duty.specs.Small.{is_return, ends_in_return}

-- whether the last instruction returns, by its place
pub ends_last : (lines : List Line) (i : ℕ) (last : Line) → i + 1 ≡ length lines → last ≡ get_or lines i last
    → is_return last.insn ≡ ends_in_return lines
ends_last [] i last h e = absurd (omega arith)
ends_last (line ∷ []) zero last h e = ap (λ (l : Line). is_return l.insn) e
ends_last (line ∷ []) (suc i) last h e = absurd (omega arith)
ends_last (line ∷ next ∷ others) zero last h e = absurd (omega arith)
ends_last (line ∷ next ∷ others) (suc i) last h e = ends_last (next ∷ others) i last (omega arith) e

-- a test of all elements from a place on, by the element there
pub all_from : {A : Type 0} (test : A → Bool) (xs : List A) (i : ℕ) (x : A) → slice_get xs i ≡ Some x
    → list_all test (drop i xs) ≡ (test x && list_all test (drop (suc i) xs))
all_from test [] i x e = cc
all_from test (y ∷ ys) zero x e =
    let same : y ≡ x = cc in
    ap (λ z. test z && list_all test ys) same
all_from test (y ∷ ys) (suc i) x e = all_from test ys i x e

pub stops_at : {A : Type 0} (test : A → Bool) (xs : List A) (i : ℕ) (x : A) → slice_get xs i ≡ Some x → test x ≡ false
    → list_all test (drop i xs) ≡ list_all test xs → false ≡ list_all test xs
stops_at test xs i x e fails so_far =
    sym (ap (λ (b : Bool). b && list_all test (drop (suc i) xs)) fails) ∙ (sym (all_from test xs i x e) ∙ so_far)

pub goes_on : {A : Type 0} (test : A → Bool) (xs : List A) (i : ℕ) (x : A) → slice_get xs i ≡ Some x → test x ≡ true
    → list_all test (drop i xs) ≡ list_all test xs → list_all test (drop (i + 1) xs) ≡ list_all test xs
goes_on test xs i x e holds so_far =
    ap (λ (n : ℕ). list_all test (drop n xs)) (add-one i)
    ∙ (sym (ap (λ (b : Bool). b && list_all test (drop (suc i) xs)) holds) ∙ (sym (all_from test xs i x e) ∙ so_far))
