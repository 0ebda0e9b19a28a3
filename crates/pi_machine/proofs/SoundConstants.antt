-- The constants of the instructions and of the fields of a program that has words are sound values.
use Rattle.std.proofs.Common.{◌≡◌, ℕ, ◌*◌, ◌^◌, ◌<◌, ◌==◌, List, [], ◌∷◌, length, map, slice_get, Option, Some, None, Bool, true, false, ◌||◌, if◌then◌else◌, refl, subst, sym, arith}
use Rattle.std.specs.Prelude.{option_and_then}
use Rattle.std.proofs.lemmas.Bool.{eqb-true}
use Rattle.pi_model.specs.declared.describe.ClassDesc.{ClassDesc}
use Rattle.pi_model.specs.declared.describe.FieldDesc.{FieldDesc}
use Rattle.pi_model.specs.declared.describe.MethodDesc.{MethodDesc}
use Rattle.pi_model.specs.declared.describe.Code.{Code}
use Rattle.pi_model.specs.declared.describe.Line.{Line}
use Rattle.pi_model.specs.declared.describe.Init.{Init}
use Rattle.pi_model.specs.declared.describe.Init.TheVariants as init
use Rattle.pi_model.specs.declared.insn.Insn.{Insn}
use Rattle.pi_model.specs.declared.insn.Insn.TheVariants.{Const, ConstWide, Filled, FillArray, BinaryLit}
use Rattle.pi_model.specs.declared.insn.Access.TheVariants as access
use Rattle.pi_model.specs.Program.{Program}
use Rattle.pi_model.specs.Search.{Member, class_at, method_at, method_of}
use Rattle.pi_model.specs.Sizes.{width_of}
use Rattle.pi_model.specs.Values.{Value, Word, Long}
use Rattle.pi_machine.specs.State.{Frame, Thing}
use Rattle.pi_machine.specs.Operands.{narrow_word}
use Rattle.pi_machine.specs.Codes.{code_in, code_of, line_at, line_of}
use Rattle.pi_machine.specs.Rows.Arrays.{item_value}
use Rattle.pi_machine.specs.Sound.{EachOf, IsSoundValue, HasWords, IsWordInit, CodeHasWords, ClassHasWords, HasWordConstants}
use Rattle.pi_machine.proofs.WordResults.{narrowed_small}
use Rattle.pi_machine.proofs.SoundValues.{IsSoundIfShort}
use Rattle.pi_machine.proofs.Each.{each_get, each_found}
use Rattle.pi_machine.proofs.RowDeeds.{OnConstants}
use Rattle.pi_machine.proofs.Moves.{OnInit}

-- the constants of a program
module _ (p : Program) (w : HasWordConstants p) (things : List Thing) where
  abbrev Sound : Value → Type 0
  Sound v = IsSoundValue things v

  -- the code of a method, and its instructions
  some_method : (o : Option MethodDesc) → ((m : MethodDesc) → o ≡ Some m → CodeHasWords m.code) → CodeHasWords (code_in o)
  some_method None k = tt
  some_method (Some m) k = k m refl

  method_words : (i : Member) (d : Option ClassDesc) → class_at p i.class ≡ d → (m : MethodDesc)
      → option_and_then (λ (d : ClassDesc). slice_get d.methods i.place) d ≡ Some m → CodeHasWords m.code
  method_words i None e m is = cc
  method_words i (Some d) e m is = each_get (λ (m : MethodDesc). CodeHasWords m.code) d.methods i.place m ((each_get ClassHasWords p.classes i.class d w.classes e).methods) is

  member_words : (o : Option Member) → CodeHasWords (code_in (option_and_then (method_at p) o))
  member_words None = tt
  member_words (Some i) = some_method (method_at p i) (λ m e. method_words i (class_at p i.class) refl m e)

  line_words : (code : Option Code) (at : ℕ) (l : Line) → CodeHasWords code → line_at code at ≡ Some l → HasWords l.insn
  line_words None at l x e = cc
  line_words (Some code) at l x e = each_found (λ (l : Line). HasWords l.insn) (λ (l : Line). l.at == at) code.insns l x e

  pub insn_words : (f : Frame) (l : Line) → line_of p f ≡ Some l → HasWords l.insn
  insn_words f l e = line_words (code_of p f.method) f.at l (member_words (method_of p f.method)) e

  -- the items of an array's data
  item_words : (letter width n : ℕ) → (width_of letter == width) ≡ true → n < 2 ^ (8 * width) → Sound (item_value letter n)
  item_words letter width n e x =
      let fits : n < 2 ^ (8 * width_of letter) = subst (λ k. n < 2 ^ (8 * k)) (sym (eqb-true (width_of letter) width e)) x in
      by_letter (letter == 74) (letter == 90) (letter == 66) (letter == 67) (letter == 83) fits
    where
      by_letter : (j z b c s : Bool) → n < 2 ^ (8 * (if z || b then 1 else if c || s then 2 else if j then 8 else 4))
          → Sound (if j then Long n else if z then Word (narrow_word access.Bool n) else if b then Word (narrow_word access.Byte n) else
          if c then Word (narrow_word access.Char n) else if s then Word (narrow_word access.Short n) else Word n)
      by_letter true true b c s h = omega (arith, h)
      by_letter true false true c s h = omega (arith, h)
      by_letter true false false true s h = omega (arith, h)
      by_letter true false false false true h = omega (arith, h)
      by_letter true false false false false h = h
      by_letter false true b c s h = narrowed_small access.Bool n (omega (arith, h))
      by_letter false false true c s h = narrowed_small access.Byte n (omega (arith, h))
      by_letter false false false true s h = narrowed_small access.Char n (omega (arith, h))
      by_letter false false false false true h = narrowed_small access.Short n (omega (arith, h))
      by_letter false false false false false h = h

  items_words : (letter width : ℕ) (items : List ℕ) → (width_of letter == width) ≡ true → EachOf (λ n. n < 2 ^ (8 * width)) items → EachOf Sound (map (item_value letter) items)
  items_words letter width [] e x = tt
  items_words letter width (n ∷ items) e x = (item_words letter width n e x.0, items_words letter width items e x.1)

  pub constants_of : (i : Insn) → HasWords i → OnConstants Sound (IsSoundIfShort p things) i
  constants_of (Const a v) x = x
  constants_of (ConstWide a v) x = x
  constants_of (BinaryLit op a b v) x = x
  constants_of (Filled t regs) x = λ vs count each short. (let few : length regs < 2 ^ 31 = x in omega (arith, few, count), each)
  constants_of (FillArray a width items) x = λ letter e. items_words letter width items e x
  constants_of _ x = tt

  -- the static values of a class
  init_of : (i : Init) → IsWordInit i → OnInit Sound i
  init_of (init.Word n) x = x
  init_of (init.Long n) x = x
  init_of _ x = tt

  inits_of : (fields : List FieldDesc) → EachOf (λ (f : FieldDesc). IsWordInit f.init) fields → EachOf (λ (f : FieldDesc). OnInit Sound f.init) fields
  inits_of [] x = tt
  inits_of (f ∷ fields) x = (init_of f.init x.0, inits_of fields x.1)

  pub class_inits : (c : ℕ) (d : ClassDesc) → class_at p c ≡ Some d → EachOf (λ (f : FieldDesc). OnInit Sound f.init) d.fields
  class_inits c d e = inits_of d.fields ((each_get ClassHasWords p.classes c d w.classes e).fields)
