-- Code items worked out from the layout of a code item.
use Rattle.std.proofs.Common.{◌≡◌, ℕ, List, [], ◌∷◌, Some, None, true, false, refl}
use Rattle.pi_format.specs.Rules.CodeItems.{code_lies, code_lists, handler_lists, handler_list}
use Rattle.pi_bytes.specs.Leb.{uleb_at, sleb_at}
use Rattle.pi_codeitem.specs.Shared.{item_bytes, takes_words}

-- two registers, one argument word, and one unit, return-void
plain : List ℕ
plain = 2 ∷ 0 ∷ 1 ∷ 0 ∷ 0 ∷ 0 ∷ 0 ∷ 0 ∷ 0 ∷ 0 ∷ 0 ∷ 0 ∷ 1 ∷ 0 ∷ 0 ∷ 0 ∷ 14 ∷ 0 ∷ []

plain-takes : item_bytes plain 0 ≡ Some 18
unfolding plain item_bytes code_lies code_lists
plain-takes = refl

plain-has_word : takes_words plain 1 0 ≡ true
unfolding plain
plain-has_word = refl

plain-has_no_more : takes_words plain 2 0 ≡ false
unfolding plain
plain-has_no_more = refl

-- the same with no unit
empty : List ℕ
empty = 2 ∷ 0 ∷ 1 ∷ 0 ∷ 0 ∷ 0 ∷ 0 ∷ 0 ∷ 0 ∷ 0 ∷ 0 ∷ 0 ∷ 0 ∷ 0 ∷ 0 ∷ 0 ∷ 14 ∷ 0 ∷ []

empty-holds_never : item_bytes empty 0 ≡ None
unfolding empty item_bytes code_lies
empty-holds_never = refl

-- one unit, two bytes that fill up, a range of that unit, and behind it one list with a handler of all
guarded : List ℕ
guarded =
    1 ∷ 0 ∷ 1 ∷ 0 ∷ 0 ∷ 0 ∷ 1 ∷ 0 ∷ 0 ∷ 0 ∷ 0 ∷ 0 ∷ 1 ∷ 0 ∷ 0 ∷ 0 ∷ 14 ∷ 0 ∷ 0 ∷ 0
    ∷ 0 ∷ 0 ∷ 0 ∷ 0 ∷ 1 ∷ 0 ∷ 1 ∷ 0 ∷ 1 ∷ 0 ∷ 0 ∷ []

guarded-takes : item_bytes guarded 0 ≡ Some 27
unfolding guarded item_bytes code_lies code_lists handler_lists handler_list uleb_at sleb_at
guarded-takes = refl
