-- Worked sound states and constants, and such as are not sound.
use Rattle.std.proofs.Common.{◌≡◌, None, ℕ, ◌^◌, ◌<◌, ◌≤◌, List, [], ◌∷◌, ◌++◌, length, replicate, refl, arith, length-append}
use Rattle.std.proofs.lemmas.List.{length-replicate}
use Rattle.pi_model.specs.declared.describe.Init.TheVariants as init
use Rattle.pi_model.specs.declared.insn.Insn.TheVariants.{Const, FillArray, ReturnVoid}
use Rattle.pi_model.specs.Program.{Program}
use Rattle.pi_model.specs.Values.{Value, Num, Lit, Cls, Word, At, Text}
use Rattle.pi_machine.specs.State.{State, Thing, Made, Touched, Call}
use Rattle.pi_machine.specs.Start.{first_state}
use Rattle.pi_machine.specs.Sound.{IsSoundText, IsSound, HasWords, HasWordConstants, IsShort}
use Rattle.pi_machine.proofs.Sample.{no, class, field, method, code}
use Rattle.pi_machine.proofs.Each.{each_replicate}
use Rattle.pi_machine.proofs.SoundStarts.{starts_are_sound}

-- one class with a static value and a constant
abbrev with_constants : ℕ → ℕ → Program
with_constants value constant = record {
  names = (65 ∷ []) ∷ [];
  types = [];
  classes = class 0 (no 0) 1 None [] (field (no 0) (no 0) 8 (init.Word value) ∷ []) (method (no 0) [] (no 0) 9 (code 2 0 (Const 0 constant ∷ ReturnVoid ∷ []) []) ∷ []) ∷ [];
  files = [];
}

constants_are_words : HasWordConstants (with_constants 7 5)
constants_are_words = record {
  names = ((omega arith, (omega arith, tt)), tt);
  classes = (record { fields = (omega arith, tt); methods = ((omega arith, (tt, tt)), tt) }, tt);
}

-- a constant, and a static value, that are no words
wide_constant : ¬ HasWordConstants (with_constants 7 (2 ^ 32))
wide_constant h = let x : 2 ^ 32 < 2 ^ 32 = h.classes.0.methods.0.0 in absurd (omega (arith, x))

wide_value : ¬ HasWordConstants (with_constants (2 ^ 32) 5)
wide_value h = let x : 2 ^ 32 < 2 ^ 32 = h.classes.0.fields.0 in absurd (omega (arith, x))

-- items of two bytes
items_fit : HasWords (FillArray 0 2 (65535 ∷ []))
items_fit = (omega arith, tt)

item_past : ¬ HasWords (FillArray 0 2 (65536 ∷ []))
item_past h = let x : 65536 < 2 ^ 16 = h.0 in absurd (omega (arith, x))

-- a frame with these registers, where these things are
abbrev standing : List Thing → List Value → State
standing things registers = record (first_state (with_constants 7 5)) { things = things; stack = Call (record { method = 0; at = 0; registers = registers }) ∷ [] }

abbrev made : List Thing
made = Made None (Text (65 ∷ [])) ∷ Touched None 0 ∷ []

is_sound : IsSound (with_constants 7 5) (standing made (Word 4294967295 ∷ At (Num 0) ∷ At (Lit 0) ∷ At (Cls 3) ∷ []))
is_sound =
    let first : IsSound (with_constants 7 5) (first_state (with_constants 7 5)) = starts_are_sound.first (with_constants 7 5) in
    record {
      things = ((omega arith, (omega arith, tt)), (tt, tt));
      statics = (omega arith, tt);
      stack = ((omega arith, (refl, (refl, (tt, tt)))), tt);
      held = tt;
      pending = tt;
      args = tt;
      all_statics = first.all_statics;
      all_statuses = first.all_statuses;
    }

-- a number that is no word, the place of a touched literal, a place behind the things, a literal that was not touched
no_word : ¬ IsSound (with_constants 7 5) (standing made (Word (2 ^ 32) ∷ []))
no_word h = let x : 2 ^ 32 < 2 ^ 32 = h.stack.0.0 in absurd (omega (arith, x))

touched_place : ¬ IsSound (with_constants 7 5) (standing made (At (Num 1) ∷ []))
touched_place h = let x = h.stack.0.0 in cc

no_thing : ¬ IsSound (with_constants 7 5) (standing made (At (Num 2) ∷ []))
no_thing h = let x = h.stack.0.0 in cc

untouched : ¬ IsSound (with_constants 7 5) (standing [] (At (Lit 0) ∷ []))
untouched h = let x = h.stack.0.0 in cc

-- statics that are too few
few_statics : ¬ IsSound (with_constants 7 5) (record (standing made []) { statics = [] })
few_statics h = let x : 0 ≡ 1 = h.all_statics in absurd (omega (arith, x))

-- what is made is short or not; two sound texts may be one that is too long
abbrev letters : ℕ → List ℕ
letters n = replicate n 65

letters_count : (n : ℕ) → length (letters n) ≡ n
letters_count n = let a : ℕ = 65 in length-replicate n a

text_sound : (n : ℕ) → n < 2 ^ 31 → IsSoundText (letters n)
text_sound n h = (omega (arith, h, letters_count n), each_replicate (λ u. u < 2 ^ 32) n 65 (omega arith))

short_text : IsShort (Text (65 ∷ []))
short_text = omega arith

joined_past : (n : ℕ) → 2 ^ 30 ≤ n → ¬ IsShort (Text (letters n ++ letters n))
joined_past n h x =
    let short : length (letters n ++ letters n) < 2 ^ 31 = x in
    absurd (omega (arith, h, short, length-append (letters n) (letters n), letters_count n))
