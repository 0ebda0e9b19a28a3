-- The deeds of calls.
use Rattle.std.proofs.Common.{◌≡◌, ℕ, length, replicate, Bool, true, false, refl, subst, arith, List, [], ◌∷◌, ◌++◌, Option, Some, None, option_map}
use Rattle.std.specs.Prelude.{option_and_then, ◌==◌, ◌-◌, if◌then◌else◌}
use Rattle.pi_model.specs.declared.describe.Code.{Code}
use Rattle.pi_machine.specs.Sound.{EachOf}
use Rattle.pi_machine.proofs.Each.{each_joined, each_replicate}
use Rattle.pi_machine.proofs.Truths.{some_same}
use Rattle.pi_model.specs.declared.insn.MethodRef.{MethodRef}
use Rattle.pi_model.specs.declared.insn.How.{How}
use Rattle.pi_model.specs.declared.insn.How.TheVariants.{Virtual, Super, Direct, Static, Interface}
use Rattle.pi_model.specs.Program.{Program}
use Rattle.pi_model.specs.Known.{Known, JavaObject, NullPointer, AbstractMethod, IncompatibleClassChange, descriptor_of}
use Rattle.pi_model.specs.Texts.{same_text}
use Rattle.pi_model.specs.Search.{Member, class_named, method_at, method_no_of, superclass_of, find_method}
use Rattle.pi_model.specs.Values.{Ref, Value, Word, Object}
use Rattle.pi_model.specs.Fields.{new_instance}
use Rattle.pi_machine.specs.State.{State, Frame, Call}
use Rattle.pi_machine.specs.Deeds.{Deed, CallNative, Make, Pend, Push}
use Rattle.pi_machine.specs.Objects.{class_descriptor}
use Rattle.pi_machine.specs.Operands.{Deeds, registers_of}
use Rattle.pi_machine.specs.Throwing.{throws, next_made, is_of_type}
use Rattle.pi_machine.specs.Codes.{code_of}
use Rattle.pi_machine.specs.Natives.{Native, Outcome, Gives, Fails, native_does}
use Rattle.pi_machine.specs.Rows.Calls.{argument_kinds, arguments_fit, entry_frame, calls_frame, native_ends, native_at, is_abstract_method, enters_method, call_row, dispatch_from, receiver_class, virtual_row, code_class, interface_row, with_receiver, invocation, with_arguments, invoke_row}
use Rattle.pi_machine.proofs.RowDeeds.Words.{Does, RowFacts, RowLists, RowCalls, stuck, these, either, if_found, by_ref, registers_values, thrown}
use Rattle.pi_machine.proofs.RowDeeds.Natives.{AllBefore, native_deeds}

-- the registers of a new frame: zeros and the arguments
pub entry_values : (V : Value → Type 0) → V (Word 0) → (m : ℕ) (code : Option Code) (args : List Value) (frame : Frame) → EachOf V args
    → entry_frame m code args ≡ Some frame → EachOf V frame.registers
entry_values V zero_is m None args frame x e = cc
entry_values V zero_is m (Some code) args frame x e = by_count (length args == code.ins) e
  where
    by_count : (b : Bool) → (if b then Some (record { method = m; at = 0; registers = replicate (code.regs - code.ins) (Word 0) ++ args }) else None) ≡ Some frame
        → EachOf V frame.registers
    by_count true h = subst (λ (y : Frame). EachOf V y.registers) (some_same (record { method = m; at = 0; registers = replicate (code.regs - code.ins) (Word 0) ++ args }) frame h)
        (each_joined V (replicate (code.regs - code.ins) (Word 0)) args (each_replicate V (code.regs - code.ins) (Word 0) zero_is) x)
    by_count false h = cc

module _ {p : Program} {s : State} {f : Frame} {V : Option Ref → Value → Type 0} {O : Object → Type 0} {U : List ℕ → Type 0}
    {Ends : Option Ref → List Deed → Type 0} {After : ℕ → List Deed → Type 0} {Inner All : List Deed → Type 0}
    (g : RowFacts p s f V O U) (k : RowLists p s f V O Ends After All) (calls : RowCalls p s f V O Ends After Inner All) where
  after_native : (m : ℕ) (deeds : List Deed) (class : Known) → ((c : ℕ) → Inner (deeds ++ Make (new_instance p c) ∷ Pend (next_made s) ∷ []))
      → Does All (option_map (λ ds. CallNative m ∷ deeds ++ ds) (throws p s class))
  after_native m deeds class a = by_class (class_named p (descriptor_of class))
    where
      by_class : (c : Option ℕ)
          → Does All (option_map (λ ds. CallNative m ∷ deeds ++ ds) (option_map (λ c. Make (new_instance p c) ∷ Pend (next_made s) ∷ []) c))
      by_class None = stuck
      by_class (Some c) = these (calls.call_native m _ (a c))

  native_end_deeds : (units m : ℕ) (o : Option Outcome) → AllBefore p s f Inner o → Does All (native_ends p s f units m o)
  native_end_deeds units m None e = stuck
  native_end_deeds units m (Some (Gives deeds held)) e = these (calls.call_native m _ (e.each units))
  native_end_deeds units m (Some (Fails deeds class)) e = after_native m deeds class e.each

  frame_deeds : (m : ℕ) (code : Option Code) (args : List Value) → EachOf (V None) args → Does All (calls_frame (entry_frame m code args))
  frame_deeds m code args x = by_frame (entry_frame m code args) (entry_values (V None) (g.small 0 (omega arith)) m code args)
    where
      by_frame : (frame : Option Frame) → ((h : Frame) → EachOf (V None) args → frame ≡ Some h → EachOf (V None) h.registers) → Does All (calls_frame frame)
      by_frame None r = stuck
      by_frame (Some h) r = these (k.rest (Push (Call h) ∷ []) (k.push_call None h [] (r h x refl) (k.none None)))

  enter_deeds : (units m : ℕ) (args : List Value) (native : Option Native) → EachOf (V None) args
      → Does All (enters_method p s f units m args native)
  enter_deeds units m args (Some native) x = native_end_deeds units m (native_does p s native args) (native_deeds g calls.inner native args)
  enter_deeds units m args None x = frame_deeds m (code_of p m) args x

  call_deeds : (units : ℕ) (args : List Value) (i : Option Member) → EachOf (V None) args → Does All (call_row p s f units args i)
  call_deeds units args None x = thrown g k AbstractMethod
  call_deeds units args (Some i) x =
      either (is_abstract_method (method_at p i)) (thrown g k AbstractMethod) (enter_deeds units (method_no_of p i) args (native_at p i) x)

  virtual_deeds : (units : ℕ) (m : MethodRef) (args : List Value) (r : Ref) → EachOf (V None) args
      → Does All (virtual_row p s f units m args r)
  virtual_deeds units m args r x = call_deeds units args (dispatch_from p m (receiver_class p s r)) x

  interface_deeds : (units : ℕ) (m : MethodRef) (i : Member) (args : List Value) (r : Ref) → EachOf (V None) args
      → Does All (interface_row p s f units m i args r)
  interface_deeds units m i args r x =
      either (same_text (class_descriptor p i.class) (descriptor_of JavaObject)) (virtual_deeds units m args r x)
      (either (is_of_type p s r (class_descriptor p i.class)) (virtual_deeds units m args r x) (thrown g k IncompatibleClassChange))

  by_receiver : (args : List Value) {go : Ref → Deeds} → ((r : Ref) → Does All (go r))
      → Does All (with_receiver p s args go)
  by_receiver [] h = stuck
  by_receiver (v ∷ vs) h = by_ref s (Some v) (thrown g k NullPointer) (λ r e. h r)

  invoked_deeds : (units : ℕ) (how : How) (m : MethodRef) (args : List Value) (i : Member) → EachOf (V None) args
      → Does All (invocation p s f units how m args i)
  invoked_deeds units Static m args i x = call_deeds units args (Some i) x
  invoked_deeds units Direct m args i x = by_receiver args (λ r. call_deeds units args (Some i) x)
  invoked_deeds units Super m args i x =
      by_receiver args (λ r. call_deeds units args (dispatch_from p m (option_and_then (superclass_of p) (code_class p f))) x)
  invoked_deeds units Virtual m args i x = by_receiver args (λ r. virtual_deeds units m args r x)
  invoked_deeds units Interface m args i x = by_receiver args (λ r. interface_deeds units m i args r x)

  by_arguments : (how : How) (m : MethodRef) (args : Option (List Value)) {go : List Value → Deeds}
      → ((vs : List Value) → args ≡ Some vs → Does All (go vs)) → Does All (with_arguments p s how m args go)
  by_arguments how m None h = stuck
  by_arguments how m (Some args) h = either (arguments_fit s (argument_kinds p how m) args) (h args refl) stuck

  pub invoke_deeds : (units : ℕ) (how : How) (m : MethodRef) (regs : List ℕ)
      → Does All (invoke_row p s f units how m regs)
  invoke_deeds units how m regs = by_arguments how m (registers_of f regs) (λ args e.
      if_found (find_method p m) (λ i. invoked_deeds units how m args i (registers_values g regs args e)))
