-- The deeds of instructions on registers and numbers.
use Rattle.std.proofs.Common.{◌≡◌, ℕ, ◌+◌, List, [], ◌∷◌, Option, Some, None, Bool, true, false, refl}
use Rattle.std.specs.Prelude.{not, ◌^◌, ◌<◌, ◌*◌, ◌-◌, option_map, int_lt, if◌then◌else◌}
use Rattle.std.specs.Int.{w64, cast_signed}
use Rattle.std.proofs.Common.{subst, arith}
use Rattle.pi_model.specs.declared.insn.Arith.{Arith}
use Rattle.pi_model.specs.declared.insn.Arith.TheVariants.{Int, Long}
use Rattle.pi_model.specs.declared.insn.BinOp.{BinOp}
use Rattle.pi_model.specs.declared.insn.UnOp.{UnOp}
use Rattle.pi_model.specs.declared.insn.Cond.{Cond}
use Rattle.pi_model.specs.declared.insn.Case.{Case}
use Rattle.pi_model.specs.declared.insn.Kind.{Kind}
use Rattle.pi_model.specs.declared.numbers.NameNo.{NameNo}
use Rattle.pi_model.specs.Arithmetic.{long_comparison, int_result, long_result}
use Rattle.pi_model.specs.Program.{Program}
use Rattle.pi_model.specs.Known.{Arithmetic}
use Rattle.pi_model.specs.Values as values
use Rattle.pi_model.specs.Values.{Ref, Value, At, Lit, Cls, Word, Low, High, Object}
use Rattle.pi_machine.specs.State.{State, Frame, Held, Nothing, Result, Thrown}
use Rattle.pi_machine.specs.Deeds.{Deed, Saw, OfHeld, Touch, Hold, Jump, GoOn}
use Rattle.pi_machine.specs.Operands.{Deeds, register_of}
use Rattle.pi_machine.specs.Rows.Registers.{move_row, move_result_row, move_exception_row, returns, return_row, const_string_row, const_class_row}
use Rattle.pi_machine.specs.Rows.Numbers.{takes_long, unary_value, with_number, unary_row, result_or_throw, is_shift, binary_row, binary_literal_row, compare_long_row, branch, comparison, branch_by, if_row, if_zero_row, to_case, switch_row}
use Rattle.pi_machine.proofs.Truths.{some_same}
use Rattle.pi_machine.proofs.RowDeeds.Words.{Does, RowFacts, RowLists, OnHeld, number, stuck, these, before, by_word, by_long, by_operand, by_kind, goes, sets_last, sets, thrown}

mapped : (V : Value → Type 0) (make : ℕ → Value) (o : Option ℕ) → ((r : ℕ) → o ≡ Some r → V (make r)) → (w : Value) → option_map make o ≡ Some w → V w
mapped V make None h w e = cc
mapped V make (Some r) h w e = subst V (some_same (make r) w e) (h r refl)

-- a comparison is -1, 0 or 1
comparison_small : (m n : ℕ) → long_comparison m n < 2 ^ 32
comparison_small m n = by_order (int_lt (cast_signed w64 m) (cast_signed w64 n)) (int_lt (cast_signed w64 n) (cast_signed w64 m))
  where
    by_order : (a b : Bool) → (if a then 2 ^ 32 - 1 else if b then 1 else 0) < 2 ^ 32
    by_order true b = omega arith
    by_order false true = omega arith
    by_order false false = omega arith

module _ {p : Program} {s : State} {f : Frame} {V : Option Ref → Value → Type 0} {O : Object → Type 0} {U : List ℕ → Type 0}
    {Ends : Option Ref → List Deed → Type 0} {After : ℕ → List Deed → Type 0} {All : List Deed → Type 0}
    (g : RowFacts p s f V O U) (k : RowLists p s f V O Ends After All) where
  -- registers
  pub move_deeds : (units : ℕ) (kd : Kind) (a b : ℕ) → Does All (move_row s f units kd a b)
  move_deeds units kd a b = by_operand g kd b (λ v x. sets g k units a v x)

  pub move_result_deeds : (units : ℕ) (held : Held) (kd : Kind) (a : ℕ) → s.held ≡ held → Does All (move_result_row f units held kd a)
  move_result_deeds units (Result v) kd a is = by_kind kd (Some v) (λ w e.
      let there : s.held ≡ Result w = cc (is, e) in
      before (Saw (OfHeld (Result w))) (λ ds h. k.saw (OfHeld (Result w)) ds there refl h) (sets g k units a w (g.result w there)))
  move_result_deeds units Nothing kd a is = stuck
  move_result_deeds units (Thrown r) kd a is = stuck

  pub move_exception_deeds : (units : ℕ) (held : Held) (a : ℕ) → s.held ≡ held → Does All (move_exception_row f units held a)
  move_exception_deeds units (Thrown r) a is =
      before (Saw (OfHeld (Thrown r))) (λ ds h. k.saw (OfHeld (Thrown r)) ds is refl h) (sets g k units a (At r) (g.thrown r is))
  move_exception_deeds units Nothing a is = stuck
  move_exception_deeds units (Result v) a is = stuck

  pub returning : (held : Held) → OnHeld (V None) held → Does All (returns held)
  returning held x = these (k.rest _ (k.pop None (Hold held ∷ GoOn ∷ []) (k.hold None held (GoOn ∷ []) x (k.past_call None [] (k.none None)))))

  pub return_deeds : (kd : Kind) (a : ℕ) → Does All (return_row s f kd a)
  return_deeds kd a = by_operand g kd a (λ v x. returning (Result v) x)

  pub const_string_deeds : (units a : ℕ) (n : NameNo) → Does All (const_string_row f units a n)
  const_string_deeds units a n = before (Touch n.0) (k.touch n.0) (sets_last g k (Some (Lit n.0)) units a (At (Lit n.0)) (g.new (Lit n.0)))

  pub const_class_deeds : (units a : ℕ) (t : NameNo) → Does All (const_class_row f units a t)
  const_class_deeds units a t = sets g k units a (At (Cls t.0)) (g.class t.0)

  -- numbers
  by_number : (of_long : Bool) (a : ℕ) {go : ℕ → Deeds} → ((n : ℕ) → V None (number of_long n) → Does All (go n)) → Does All (with_number f of_long a go)
  by_number true a h = by_long (register_of f a) (register_of f (a + 1)) _ (λ m n x y.
      h (m + 2 ^ 32 * n) (g.wide m n (g.register a (Low m) x) (g.register (a + 1) (High n) y)))
  by_number false a h = by_word (register_of f a) (λ n e. h n (g.register a (Word n) e))

  pub unary_deeds : (units : ℕ) (op : UnOp) (a b : ℕ) → Does All (unary_row f units op a b)
  unary_deeds units op a b = by_number (takes_long op) b (λ n x. sets g k units a (unary_value op n) (g.unary op n x))

  result_deeds : (units a : ℕ) (v : Option Value) → ((w : Value) → v ≡ Some w → V None w) → Does All (result_or_throw p s f units a v)
  result_deeds units a None x = thrown g k Arithmetic
  result_deeds units a (Some v) x = sets g k units a v (x v refl)

  pub binary_deeds : (units : ℕ) (op : Arith) (a b c : ℕ) → Does All (binary_row p s f units op a b c)
  binary_deeds units (Int op) a b c =
      by_word (register_of f b) (λ m x. by_word (register_of f c) (λ n y. result_deeds units a (option_map Word (int_result op m n))
      (mapped (V None) Word (int_result op m n) (λ r e. g.int op m n r (g.register b (Word m) x) (g.register c (Word n) y) e))))
  binary_deeds units (Long op) a b c =
      by_long (register_of f b) (register_of f (b + 1)) _ (λ m h x y. by_number (not (is_shift op)) c (λ n z.
      result_deeds units a (option_map values.Long (long_result op (m + 2 ^ 32 * h) n))
      (mapped (V None) values.Long (long_result op (m + 2 ^ 32 * h) n) (λ r e.
      g.long op (not (is_shift op)) (m + 2 ^ 32 * h) n r (g.wide m h (g.register b (Low m) x) (g.register (b + 1) (High h) y)) z e))))

  pub binary_literal_deeds : (units : ℕ) (op : BinOp) (a b v : ℕ) → V None (Word v)
      → Does All (binary_literal_row p s f units op a b v)
  binary_literal_deeds units op a b v c = by_word (register_of f b) (λ m x. result_deeds units a (option_map Word (int_result op m v))
      (mapped (V None) Word (int_result op m v) (λ r e. g.int op m v r (g.register b (Word m) x) c e)))

  pub compare_long_deeds : (units a b c : ℕ) → Does All (compare_long_row f units a b c)
  compare_long_deeds units a b c =
      by_long (register_of f b) (register_of f (b + 1)) _ (λ m h x y. by_long (register_of f c) (register_of f (c + 1)) _ (λ n i z w.
      sets g k units a (Word (long_comparison (m + 2 ^ 32 * h) (n + 2 ^ 32 * i))) (g.small _ (comparison_small (m + 2 ^ 32 * h) (n + 2 ^ 32 * i)))))

  -- branches
  branching : (units to : ℕ) (taken : Bool) → Does All (branch f units to taken)
  branching units to true = these (k.rest (Jump to ∷ []) (k.jump None to [] (k.none None)))
  branching units to false = goes g k units

  branch_deeds : (units to : ℕ) (taken : Option Bool) → Does All (branch_by f units to taken)
  branch_deeds units to None = stuck
  branch_deeds units to (Some taken) = branching units to taken

  pub if_deeds : (units : ℕ) (cond : Cond) (a b to : ℕ) → Does All (if_row s f units cond a b to)
  if_deeds units cond a b to = branch_deeds units to (comparison s cond (register_of f a) (register_of f b))

  pub if_zero_deeds : (units : ℕ) (cond : Cond) (a to : ℕ) → Does All (if_zero_row s f units cond a to)
  if_zero_deeds units cond a to = branch_deeds units to (comparison s cond (register_of f a) (Some (Word 0)))

  case_deeds : (units : ℕ) (c : Option Case) → Does All (to_case f units c)
  case_deeds units None = goes g k units
  case_deeds units (Some c) = these (k.rest (Jump c.to ∷ []) (k.jump None c.to [] (k.none None)))

  pub switch_deeds : (units a : ℕ) (cases : List Case) → Does All (switch_row f units a cases)
  switch_deeds units a cases = by_word (register_of f a) (λ n e. case_deeds units _)
