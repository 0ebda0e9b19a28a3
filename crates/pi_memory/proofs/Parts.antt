-- Parts of a list of bytes after a write inside of it and after more bytes at its end.
use Rattle.std.proofs.Common.{◌≡◌, ℕ, ◌+◌, ◌≤◌, List, ◌++◌, length, take, drop, replicate, arith, refl, sym, ap, ◌∙◌, rules, length-drop}
use Rattle.std.proofs.lemmas.List.{places, same_lists, length-take-le, take_at, drop_at, take_all, take-take, take-append-le, drop-append-le, drop-drop, drop-take, length-replicate}
use Rattle.std.proofs.lemmas.Slice.{take-put_mid_below, drop-put_mid}

-- the list with other bytes from a place on
abbrev pub over : ℕ → List ℕ → List ℕ → List ℕ
over o ys xs = take o xs ++ (ys ++ drop (length ys) (drop o xs))

pub over_same : (o : ℕ) (ys xs : List ℕ) → o ≤ length xs → take (length ys) (drop o (over o ys xs)) ≡ ys
over_same o ys xs h =
    let rest = drop (length ys) (drop o xs) in
    ap (take (length ys)) (drop_at (take o xs) (ys ++ rest) o (length-take-le o xs h)) ∙ take_at ys rest (length ys) refl

pub over_before : (o p m : ℕ) (ys xs : List ℕ) → o ≤ length xs → p + m ≤ o → take m (drop p (over o ys xs)) ≡ take m (drop p xs)
over_before o p m ys xs h e =
    sym (drop-take p m (over o ys xs)) ∙ ap (drop p) (take-put_mid_below o (length ys) xs ys (p + m) e h) ∙ drop-take p m xs

pub over_behind : (o p m : ℕ) (ys xs : List ℕ) → o ≤ length xs → o + length ys ≤ p → take m (drop p (over o ys xs)) ≡ take m (drop p xs)
over_behind o p m ys xs h e = ap (take m) (drop-put_mid o (length ys) xs ys p e h refl)

pub part_of : (o n q m : ℕ) (xs : List ℕ) → q + m ≤ n → take m (drop q (take n (drop o xs))) ≡ take m (drop (o + q) xs)
part_of o n q m xs h =
    sym (drop-take q m (take n (drop o xs))) ∙ ap (drop q) (take-take (q + m) n (drop o xs) h) ∙ drop-take q m (drop o xs) ∙ ap (take m) (drop-drop q o xs)

pub over_part : (o n q : ℕ) (ys xs : List ℕ) → o + n ≤ length xs → q + length ys ≤ n → take n (drop o (over (o + q) ys xs)) ≡ over q ys (take n (drop o xs))
over_part o n q ys xs h e = same_lists _ _ (search (rules, places)) (λ k d lt. grind (arith, places))

pub more_zeros : (n : ℕ) (xs : List ℕ) → take n (drop (length xs) (xs ++ replicate n 0)) ≡ replicate n 0
more_zeros n xs = ap (take n) (drop_at xs (replicate n 0) (length xs) refl) ∙ take_all n (replicate n 0) (omega (arith, length-replicate {A = ℕ} n 0))

pub more_kept : (p m : ℕ) (xs zs : List ℕ) → p + m ≤ length xs → take m (drop p (xs ++ zs)) ≡ take m (drop p xs)
more_kept p m xs zs h =
    ap (take m) (drop-append-le p xs zs (omega arith)) ∙ take-append-le m (drop p xs) zs (omega (arith, length-drop p xs))
