-- Lists of words as values of the machine.
use Rattle.std.proofs.Common.{◌≡◌, ℕ, zero, suc, ◌<◌, ◌≤◌, true, false, List, [], ◌∷◌, ◌++◌, length, map, Some, refl, arith, ap}
use Rattle.std.specs.Prelude.{slice_get, slice_set, slice_index, nat_lt, replicate}
use Rattle.pi_model.specs.Values.{Value, Word}

-- words as values, before others
abbrev pub words_of : List ℕ → List Value
words_of ws = map (λ n. Word n) ws

pub get_word : (ws : List ℕ) (extra : List Value) (a : ℕ) → a < length ws → slice_get (words_of ws ++ extra) a ≡ Some (Word (slice_index ws a))
get_word [] extra a h = absurd (omega arith)
get_word (w ∷ ws) extra zero h = refl
get_word (w ∷ ws) extra (suc a) h = get_word ws extra a (omega arith)

pub set_word : (ws : List ℕ) (extra : List Value) (a v : ℕ) → a < length ws → slice_set (words_of ws ++ extra) a (Word v) ≡ words_of (slice_set ws a v) ++ extra
set_word [] extra a v h = absurd (omega arith)
set_word (w ∷ ws) extra zero v h = refl
set_word (w ∷ ws) extra (suc a) v h = ap (λ xs. Word w ∷ xs) (set_word ws extra a v (omega arith))

pub get_only : (ws : List ℕ) (a : ℕ) → a < length ws → slice_get (words_of ws) a ≡ Some (Word (slice_index ws a))
get_only [] a h = absurd (omega arith)
get_only (w ∷ ws) zero h = refl
get_only (w ∷ ws) (suc a) h = get_only ws a (omega arith)

pub set_only : (ws : List ℕ) (a v : ℕ) → a < length ws → slice_set (words_of ws) a (Word v) ≡ words_of (slice_set ws a v)
set_only [] a v h = absurd (omega arith)
set_only (w ∷ ws) zero v h = refl
set_only (w ∷ ws) (suc a) v h = ap (λ xs. Word w ∷ xs) (set_only ws a v (omega arith))

pub length_words : (ws : List ℕ) → length (words_of ws) ≡ length ws
length_words [] = refl
length_words (w ∷ ws) = ap (λ n. suc n) (length_words ws)

pub zero_words : (n : ℕ) → words_of (replicate n 0) ≡ replicate n (Word 0)
zero_words zero = refl
zero_words (suc n) = ap (λ xs. Word 0 ∷ xs) (zero_words n)

pub holds_lt : (a b : ℕ) → a < b → nat_lt a b ≡ true
holds_lt a b h = grind arith

pub fails_lt : (a b : ℕ) → b ≤ a → nat_lt a b ≡ false
fails_lt a b h = grind arith

pub lt_of : (a b : ℕ) → nat_lt a b ≡ true → a < b
lt_of a b e = grind arith
