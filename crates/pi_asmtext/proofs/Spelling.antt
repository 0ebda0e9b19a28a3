-- Each step of the walk over a word leaves what is left of its pattern.
use Rattle.std.proofs.Common.{◌≡◌, ℕ, Bool, true, false, List, Some, None, refl, sym, ap, subst, ◌∙◌, suc, ◌+◌, ◌<◌, length, get_or, drop, drop-cons, add-one}
use Rattle.std.specs.Prelude.{◌==◌, option_map}
use Rattle.std.proofs.lemmas.Bool.{eqb-true}
use Rattle.pi_asmtext.specs.Derivatives.{derivative, derivative_by}
use Rattle.pi_asmtext.specs.Words.{unit_test, is_digit, is_hex, is_name_unit, is_path_unit, is_primitive}
use Rattle.pi_asmtext.specs.Spelling.{rest_of, tail_spell, tail_left, next_of}
use Rattle.pi_asmtext.specs.declared.words.Member.{Member}
use Rattle.pi_asmtext.specs.declared.words.Member.TheVariants.{Field, Method}
use Rattle.pi_asmtext.specs.declared.words.Tail.{Tail}
use Rattle.pi_asmtext.specs.declared.words.Tail.TheVariants as tail
use Rattle.pi_asmtext.specs.declared.words.Spell.{Spell}
use Rattle.pi_asmtext.specs.declared.words.Spell.TheVariants as spell

abbrev pub Right : Spell → ℕ → Type 0
Right s u = derivative unit_test u (rest_of s) ≡ option_map rest_of (next_of s u)

-- a state at a unit, for one unit and for all others
at_by : (s : Spell) (u k : ℕ) (t : Bool) → (u == k) ≡ t → Right s k → ((u == k) ≡ false → Right s u) → Right s u
at_by s u k true e here other = subst (λ (v : ℕ). Right s v) (sym (eqb-true u k e)) here
at_by s u k false e here other = other e

at : (s : Spell) (u k : ℕ) → Right s k → ((u == k) ≡ false → Right s u) → Right s u
at s u k here other = at_by s u k (u == k) refl here other

tail_rest : (t : Tail) → rest_of (tail_spell t) ≡ tail_left t
tail_rest tail.End = refl
tail_rest _ = refl

-- the states that ask whether a unit is of a class
primitive_by : (t : Tail) (u : ℕ) (is : Bool) → is_primitive u ≡ is → (u == 91) ≡ false → (u == 76) ≡ false
    → Right (spell.First t) u × Right (spell.Type t) u × ((u == 41) ≡ false → Right spell.Params u)
primitive_by t u true e a b = (rw (a, b, e, tail_rest t) refl, rw (a, b, e, tail_rest t) refl, λ c. rw (c, a, b, e) refl)
primitive_by t u false e a b = (rw (a, b, e) refl, rw (a, b, e) refl, λ c. rw (c, a, b, e) refl)

path_by : (t : Tail) (u : ℕ) (is : Bool) → is_path_unit u ≡ is → Right (spell.Class t) u × ((u == 59) ≡ false → Right (spell.ClassMore t) u)
path_by t u true e = (rw e refl, λ a. rw (a, e) refl)
path_by t u false e = (rw e refl, λ a. rw (a, e) refl)

member_by : (m : Member) (u : ℕ) (is : Bool) → is_name_unit u ≡ is → Right (spell.Member m) u
    × ((u == 58) ≡ false → Right (spell.MemberMore Field) u) × ((u == 40) ≡ false → Right (spell.MemberMore Method) u)
member_by m u true e = (rw e refl, λ a. rw (a, e) refl, λ a. rw (a, e) refl)
member_by m u false e = (rw e refl, λ a. rw (a, e) refl, λ a. rw (a, e) refl)

name_by : (u : ℕ) (is : Bool) → is_name_unit u ≡ is → Right spell.LabelName u × Right spell.Name u × Right spell.NameMore u
name_by u true e = (rw e refl, rw e refl, rw e refl)
name_by u false e = (rw e refl, rw e refl, rw e refl)

digit_by : (u : ℕ) (is : Bool) → is_digit u ≡ is → Right spell.Digit u × Right spell.DigitMore u × ((u == 45) ≡ false → Right spell.Number u)
digit_by u true e = (rw e refl, rw e refl, λ a. rw (a, e) refl)
digit_by u false e = (rw e refl, rw e refl, λ a. rw (a, e) refl)

hex_by : (u : ℕ) (is : Bool) → is_hex u ≡ is → Right spell.Hex4 u × Right spell.Hex3 u × Right spell.Hex2 u × Right spell.Hex1 u
hex_by u true e = (rw e refl, rw e refl, rw e refl, rw e refl)
hex_by u false e = (rw e refl, rw e refl, rw e refl, rw e refl)

-- what is wanted next stands for what is left
steps : (s : Spell) (u : ℕ) → Right s u
steps spell.Done u = refl
steps (spell.First t) u =
    at (spell.First t) u 91 refl (λ a. at (spell.First t) u 76 refl (λ b. (primitive_by t u (is_primitive u) refl a b).0))
steps (spell.Type t) u = at (spell.Type t) u 91 refl (λ a. at (spell.Type t) u 76 refl (λ b. (primitive_by t u (is_primitive u) refl a b).1))
steps (spell.Class t) u = (path_by t u (is_path_unit u) refl).0
steps (spell.ClassMore t) u = at (spell.ClassMore t) u 59 (rw (tail_rest t) refl) (path_by t u (is_path_unit u) refl).1
steps spell.Proto u = at spell.Proto u 40 refl (λ a. rw a refl)
steps spell.Params u =
    at spell.Params u 41 refl (λ c. at spell.Params u 91 refl
    (λ a. at spell.Params u 76 refl (λ b. (primitive_by tail.Params u (is_primitive u) refl a b).2 c)))
steps (spell.Minus m) u = at (spell.Minus m) u 45 refl (λ a. rw a refl)
steps (spell.Greater m) u = at (spell.Greater m) u 62 refl (λ a. rw a refl)
steps (spell.Member m) u = (member_by m u (is_name_unit u) refl).0
steps (spell.MemberMore Field) u = at (spell.MemberMore Field) u 58 refl (member_by Field u (is_name_unit u) refl).1
steps (spell.MemberMore Method) u = at (spell.MemberMore Method) u 40 refl (member_by Method u (is_name_unit u) refl).2
steps spell.Label u = at spell.Label u 58 refl (λ a. rw a refl)
steps spell.LabelName u = (name_by u (is_name_unit u) refl).0
steps spell.Name u = (name_by u (is_name_unit u) refl).1
steps spell.NameMore u = (name_by u (is_name_unit u) refl).2
steps spell.Number u = at spell.Number u 45 refl (digit_by u (is_digit u) refl).2
steps spell.Register u = at spell.Register u 118 refl (λ a. rw a refl)
steps spell.Digit u = (digit_by u (is_digit u) refl).0
steps spell.DigitMore u = (digit_by u (is_digit u) refl).1
steps spell.Quote u = at spell.Quote u 34 refl (λ a. rw a refl)
steps spell.Text u = at spell.Text u 34 refl (λ a. at spell.Text u 92 refl (λ b. rw (a, b) refl))
steps spell.Escape u =
    at spell.Escape u 34 refl (λ a. at spell.Escape u 92 refl (λ b. at spell.Escape u 110 refl
    (λ c. at spell.Escape u 117 refl (λ d. rw (a, b, c, d) refl))))
steps spell.Hex4 u = (hex_by u (is_hex u) refl).0
steps spell.Hex3 u = (hex_by u (is_hex u) refl).1
steps spell.Hex2 u = (hex_by u (is_hex u) refl).2
steps spell.Hex1 u = (hex_by u (is_hex u) refl).3

-- a step of the walk, by the place in the units
pub goes_on : (s behind : Spell) (units : List ℕ) (i : ℕ) → i < length units → Some behind ≡ next_of s (get_or units i 0)
    → derivative_by unit_test (drop i units) (Some (rest_of s)) ≡ derivative_by unit_test (drop (i + 1) units) (Some (rest_of behind))
goes_on s behind units i lt e =
    rw (add-one, drop-cons units i 0 lt) (ap (derivative_by unit_test (drop (suc i) units)) (steps s (get_or units i 0) ∙ ap (option_map rest_of) (sym e)))

pub stops : (s : Spell) (units : List ℕ) (i : ℕ) → i < length units → None ≡ next_of s (get_or units i 0)
    → derivative_by unit_test (drop i units) (Some (rest_of s)) ≡ None
stops s units i lt e =
    rw (drop-cons units i 0 lt) (ap (derivative_by unit_test (drop (suc i) units)) (steps s (get_or units i 0) ∙ ap (option_map rest_of) (sym e)))
