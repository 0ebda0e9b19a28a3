-- Each token and each line's end takes the walk over a text one step on.
use Rattle.std.proofs.Common.{◌≡◌, ℕ, ◌<◌, ◌+◌, List, [], ◌∷◌, Option, Result, Ok, length, get_or, drop, sym, ap, subst, ◌∙◌, drop-cons, add-one, suc}
use Rattle.std.specs.Prelude.{option_map, ◌^◌}
use Rattle.pi_asmtext.specs.Patterns.{Pattern}
use Rattle.pi_asmtext.specs.Symbols.{Class}
use Rattle.pi_asmtext.specs.Rest.{rest_of}
use Rattle.pi_asmtext.specs.Steps.{next_of, end_of}
use Rattle.pi_asmtext.specs.Places.{file_symbols, line_symbols, width}
use Rattle.pi_asmtext.specs.Walking.{Place, on_left, walk, Small, AllSmall}
use Rattle.pi_asmtext.specs.declared.file.Token.{Token}
use Rattle.pi_asmtext.specs.declared.file.AsmLine.{AsmLine}
use Rattle.pi_asmtext.specs.declared.state.State.{State}
use Rattle.pi_asmtext.proofs.Transitions.{next_right, ends_right}
use Rattle.pi_asmtext.proofs.Faults.{walk_on, walk_append}

-- an element of a list, and those behind it
pub item_first : {A : Type 0} (xs : List A) (i : ℕ) (x : A) → i < length xs → x ≡ get_or xs i x → drop i xs ≡ x ∷ drop (i + 1) xs
item_first xs i x lt e = rw (add-one) (drop-cons xs i x lt ∙ ap (λ y. y ∷ drop (suc i) xs) (sym e))

-- a token by its place in a line: what is wanted behind it, or its place
pub token_step : (s : State) (o : Option State) (number column : ℕ) (ts : List Token) (i : ℕ) (t : Token) → i < length ts → t ≡ get_or ts i t
    → next_of s t.units ≡ o → walk (rest_of s) (line_symbols number column (drop i ts))
    ≡ on_left (option_map rest_of o) (number, t.column) (λ q. walk q (line_symbols number (t.column + width t.units) (drop (i + 1) ts)))
token_step s o number column ts i t lt is e =
    ap (λ us. walk (rest_of s) (line_symbols number column us)) (item_first ts i t lt is)
    ∙ ap (λ p. on_left p (number, t.column) (λ q. walk q (line_symbols number (t.column + width t.units) (drop (i + 1) ts))))
    (next_right s t.units ∙ ap (option_map rest_of) e)

-- a line's end: what is wanted behind it, or its place
pub end_step : (s : State) (o : Option State) (number column : ℕ) → end_of s ≡ o
    → walk (rest_of s) (line_symbols number column []) ≡ on_left (option_map rest_of o) (number, column) (λ q. Ok q)
end_step s o number column e = ap (λ p. on_left p (number, column) (λ q. Ok q)) (ends_right s ∙ ap (option_map rest_of) e)

pub small_rest : (ts : List Token) (i : ℕ) (t : Token) → i < length ts → t ≡ get_or ts i t → Small (drop i ts)
    → (t.column + width t.units < 2 ^ 32) × Small (drop (i + 1) ts)
small_rest ts i t lt is h = let P : List Token → Type 0 = λ us. Small us in subst P (item_first ts i t lt is) h

pub all_rest : (ls : List AsmLine) (i : ℕ) (l : AsmLine) → i < length ls → l ≡ get_or ls i l → AllSmall (drop i ls)
    → Small l.tokens × AllSmall (drop (i + 1) ls)
all_rest ls i l lt is h = let P : List AsmLine → Type 0 = λ us. AllSmall us in subst P (item_first ls i l lt is) h

-- a line by its place
pub line_step : (p : Pattern Class) (r : Result (Pattern Class) Place) (ls : List AsmLine) (i : ℕ) (l : AsmLine) → i < length ls → l ≡ get_or ls i l
    → walk p (line_symbols l.number 1 l.tokens) ≡ r
    → walk p (file_symbols (drop i ls)) ≡ walk_on r (file_symbols (drop (i + 1) ls))
line_step p r ls i l lt is e =
    ap (λ us. walk p (file_symbols us)) (item_first ls i l lt is)
    ∙ walk_append (line_symbols l.number 1 l.tokens) (file_symbols (drop (i + 1) ls)) p
    ∙ ap (λ (o : Result (Pattern Class) Place). walk_on o (file_symbols (drop (i + 1) ls))) e
