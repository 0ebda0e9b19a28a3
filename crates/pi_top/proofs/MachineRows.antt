-- The rows of the machine at the instructions of a small file: their deeds, and what doing them makes of a state whose
-- registers and statics are words.
use Rattle.std.proofs.Common.{◌≡◌, ◌⊎◌, inl, inr, ℕ, ◌+◌, ◌<◌, Bool, true, false, List, [], ◌∷◌, ◌++◌, length, Some, None, refl, arith}
use Rattle.std.proofs.lemmas.List.{append-nil, length-append}
use Rattle.std.specs.Prelude.{nat_lt, slice_index}
use Rattle.pi_model.specs.declared.describe.ClassDesc.{ClassDesc}
use Rattle.pi_model.specs.declared.reason.ClassState.{ClassState}
use Rattle.pi_model.specs.declared.reason.ClassState.TheVariants.{InProgress, Done}
use Rattle.pi_model.specs.declared.insn.Insn.{Insn}
use Rattle.pi_model.specs.declared.insn.Insn.TheVariants.{ReturnVoid, Const, Sget, Sput, Invoke}
use Rattle.pi_model.specs.declared.insn.Access.TheVariants as access
use Rattle.pi_model.specs.declared.insn.How.TheVariants as how
use Rattle.pi_model.specs.declared.insn.FieldRef.{FieldRef}
use Rattle.pi_model.specs.declared.insn.MethodRef.{MethodRef}
use Rattle.pi_model.specs.Program.{Program}
use Rattle.pi_model.specs.Search.{in_class, find_field, field_no_of}
use Rattle.pi_model.specs.Values.{Value, Word, Num}
use Rattle.pi_duty.specs.Small.{insn_fits, names_own, is_print, one_below}
use Rattle.pi_duty.specs.Shape.{small_chain, Brought}
use Rattle.pi_machine.specs.State.{State, Thing, Frame, Entry, Call, Nothing}
use Rattle.pi_machine.specs.Deeds.{Deed, Saw, OfStatus, OfStatic, SetStatic, CallNative, Print, Pop, SetReg, Jump, GoOn, Hold, do_all, on_frame, past_call}
use Rattle.pi_machine.specs.Printed.{printed_int}
use Rattle.pi_machine.specs.Operands.{Deeds, first_do}
use Rattle.pi_machine.specs.Rows.{row}
use Rattle.pi_machine.specs.Initialisation.{needed_by, by_need, by_status}
use Rattle.pi_machine.specs.Ends.{Tally, with_deeds}
use Rattle.pi_machine.proofs.Truths.{both}
use Rattle.pi_top.specs.Row.{Effect, effect_of, place_of}
use Rattle.pi_top.proofs.Lookups.{ClassIs, finds_field, place_within, finds_print, print_native, print_kinds, field_number_is}
use Rattle.pi_top.proofs.Words.{words_of, get_word, set_word, get_only, set_only, length_words, holds_lt, lt_of}

-- the deeds of a move that waits for nothing, what they make of the state, and that none of them counts bytes
pub record DoesTo (p : Program) (s : State) (deeds : Deeds) (after : State) : Type 0 where
  pub list : List Deed
  pub is : deeds ≡ Some list
  pub does : do_all list s ≡ after
  pub counts : (t : Tally) → with_deeds p [] list t ≡ t

-- a class that its own code may use: its initialiser runs or has run
abbrev pub IsOpen : ClassState → Type 0
IsOpen status = (status ≡ InProgress) ⊎ (status ≡ Done)

-- a class that is in progress or done lets a move go on
opened : (p : Program) (s : State) (c : ℕ) (status : ClassState) → IsOpen status → (move : Deeds) → by_status p s c (Some status) move ≡ first_do (Saw (OfStatus c status)) move
opened p s c status (inl e) move = rw e refl
opened p s c status (inr e) move = rw e refl

-- a state of the run of a small file
abbrev pub base : List Thing → ℕ → List ℕ → ClassState → Bool → List Entry → List ℕ → State
base things main statics status started stack output = record {
  things = things;
  statics = words_of statics;
  statuses = Done ∷ Done ∷ status ∷ [];
  main = Some main;
  args = Some (Num 0);
  started = started;
  stack = stack;
  pending = None;
  held = Nothing;
  output = output;
  file = None;
}

abbrev pub frame : ℕ → ℕ → List ℕ → List Value → Frame
frame method at words extra = record { method = method; at = at; registers = words_of words ++ extra }

-- the stack after an instruction
abbrev pub stack_after : Bool → ℕ → ℕ → List ℕ → List Value → List Entry → List Entry
stack_after true method at words extra below = on_frame past_call below
stack_after false method at words extra below = Call (frame method at words extra) ∷ below

module _ (new : Brought) (d : ClassDesc) (is : ClassIs d) (things : List Thing) (main : ℕ) where
  module _ (status : ClassState) (open_ : IsOpen status) (started : Bool) (method at units : ℕ) (words statics : List ℕ) (extra : List Value)
      (below : List Entry) (out : List ℕ) (sized : length statics ≡ length d.fields) where
    abbrev pub now : State
    now = base things main statics status started (Call (frame method at words extra) ∷ below) out

    abbrev pub after : Effect → State
    after e = base things main e.statics status started (stack_after e.returns method (at + units) e.registers extra below) (out ++ e.printed)

    abbrev pub Does : Insn → Type 0
    Does i = DoesTo (small_chain new d) now
        (let p : Program = small_chain new d in by_need p now (needed_by p i) (row p now (frame method at words extra) units i))
        (after (effect_of d i words statics))

    in_frame : (a : ℕ) → nat_lt a (length words) ≡ true → nat_lt a (length (words_of words ++ extra)) ≡ true
    in_frame a e = holds_lt a _ (let l : a < length words = lt_of a (length words) e in
        omega (arith, length-append (words_of words) extra, length_words words))

    const_does : (a v : ℕ) → nat_lt a (length words) ≡ true → Does (Const a v)
    const_does a v e = record {
      list = SetReg a (Word v) ∷ Jump (at + units) ∷ [];
      is = rw (in_frame a e) refl;
      does = rw (set_word words extra a v (lt_of a _ e), append-nil out) refl;
      counts = λ t. refl;
    }

    return_does : Does ReturnVoid
    return_does = record {
      list = Pop ∷ Hold Nothing ∷ GoOn ∷ [];
      is = refl;
      does = rw (append-nil out) refl;
      counts = λ t. refl;
    }

    in_statics : (f : FieldRef) → names_own d f ≡ true → place_of d f < length statics
    in_statics f e = let l : place_of d f < length d.fields = place_within new d is f e in omega (arith, sized)

    field_is : (f : FieldRef) → names_own d f ≡ true → find_field (small_chain new d) f ≡ Some (in_class 2 (place_of d f))
    field_is f e = finds_field new d is f e

    number_is : (f : FieldRef) → field_no_of (small_chain new d) (in_class 2 (place_of d f)) ≡ place_of d f
    number_is f = field_number_is new d is (place_of d f)

    sget_does : (a : ℕ) (f : FieldRef) → nat_lt a (length words) ≡ true → names_own d f ≡ true → Does (Sget access.Plain a f)
    sget_does a f h own = record {
      list = Saw (OfStatus 2 status) ∷ Saw (OfStatic (place_of d f) (Word (slice_index statics (place_of d f))))
          ∷ SetReg a (Word (slice_index statics (place_of d f))) ∷ Jump (at + units) ∷ [];
      is = rw (field_is f own, opened (small_chain new d) now 2 status open_, number_is f, get_only statics (place_of d f) (in_statics f own), in_frame a h) refl;
      does = rw (set_word words extra a (slice_index statics (place_of d f)) (lt_of a _ h), append-nil out) refl;
      counts = λ t. refl;
    }

    sput_does : (a : ℕ) (f : FieldRef) → nat_lt a (length words) ≡ true → names_own d f ≡ true → Does (Sput access.Plain a f)
    sput_does a f h own =
        let here : nat_lt (place_of d f) (length (words_of statics)) ≡ true =
        holds_lt _ _ (let l : place_of d f < length statics = in_statics f own in omega (arith, length_words statics)) in
        record {
          list = Saw (OfStatus 2 status) ∷ SetStatic (place_of d f) (Word (slice_index words a)) ∷ Jump (at + units) ∷ [];
          is = rw (field_is f own, opened (small_chain new d) now 2 status open_, number_is f, get_word words extra a (lt_of a _ h), here) refl;
          does = rw (set_only statics (place_of d f) (slice_index words a) (in_statics f own), append-nil out) refl;
          counts = λ t. refl;
        }

    print_does : (m : MethodRef) (c : ℕ) → is_print m ≡ true → nat_lt c (length words) ≡ true → Does (Invoke how.Static m (c ∷ []))
    print_does m c e h = record {
      list = Saw (OfStatus 1 Done) ∷ CallNative 0 ∷ Print (printed_int (slice_index words c)) ∷ Hold Nothing ∷ Jump (at + units) ∷ [];
      is = rw (finds_print new d is m e, print_native new d is, get_word words extra c (lt_of c _ h), print_kinds new d is m e) refl;
      does = refl;
      counts = λ t. refl;
    }

    invoke_does : (m : MethodRef) (regs : List ℕ) → is_print m ≡ true → one_below (length words) regs ≡ true → Does (Invoke how.Static m regs)
    invoke_does m [] e h = cc
    invoke_does m (c ∷ []) e h = print_does m c e h
    invoke_does m (c ∷ x ∷ others) e h = cc

    -- each instruction of a small file does what it is to do
    pub insn_does : (i : Insn) → insn_fits d (length words) i ≡ true → Does i
    insn_does (Const a v) e = const_does a v e
    insn_does ReturnVoid e = return_does
    insn_does (Sget access.Plain a f) e = let h : (nat_lt a (length words) ≡ true) × (names_own d f ≡ true) = both _ _ e in sget_does a f h.0 h.1
    insn_does (Sput access.Plain a f) e = let h : (nat_lt a (length words) ≡ true) × (names_own d f ≡ true) = both _ _ e in sput_does a f h.0 h.1
    insn_does (Invoke how.Static m regs) e = let h : (is_print m ≡ true) × (one_below (length words) regs ≡ true) = both _ _ e in invoke_does m regs h.0 h.1
    insn_does _ e = cc
