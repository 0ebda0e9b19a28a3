-- Throwing: throwables that the machine makes, and the way of a pending one to its handler. Restates the
-- search for a handler of the format page; that the machine makes throwables without a constructor is our own.
use Rattle.std.specs.Prelude.{ℕ, ◌&&◌, nat_lt, nat_le, List, [], ◌∷◌, length, find, Option, Some, None, Bool, true, false, option_map, option_and_then}
use Rattle.pi_model.specs.declared.numbers.NameNo.{NameNo}
use Rattle.pi_model.specs.declared.reason.ClassState.TheVariants.{Erroneous}
use Rattle.pi_model.specs.declared.describe.Catch.{Catch}
use Rattle.pi_model.specs.declared.describe.Code.{Code}
use Rattle.pi_model.specs.Program.{Program}
use Rattle.pi_model.specs.Known.{Known, Error, ExceptionInInitializer, descriptor_of}
use Rattle.pi_model.specs.Texts.{units_of}
use Rattle.pi_model.specs.Search.{class_named}
use Rattle.pi_model.specs.Subtypes.{subtype}
use Rattle.pi_model.specs.Fields.{new_instance}
use Rattle.pi_model.specs.Values.{Ref, Num}
use Rattle.pi_machine.specs.State.{State, Frame, Entry, Call, Record, Thrown}
use Rattle.pi_machine.specs.Deeds.{Make, Pend, Unpend, Pop, Jump, Hold, SetStatus}
use Rattle.pi_machine.specs.Objects.{shape_at, type_of_shape}
use Rattle.pi_machine.specs.Operands.{Deeds}
use Rattle.pi_machine.specs.Codes.{code_of}

-- the reference of the next object that is made
abbrev pub next_made : State → Ref
next_made s = Num (length s.things)

-- A throwable of a known class is made, with zero fields and without a constructor, and is pending; stuck where the
-- program lacks the class.
abbrev pub throws : Program → State → Known → Deeds
throws p s class = option_map (λ c. Make (new_instance p c) ∷ Pend (next_made s) ∷ []) (class_named p (descriptor_of class))

-- what a reference names is of a type, which is a descriptor
abbrev pub is_of_type : Program → State → Ref → List ℕ → Bool
is_of_type p s r ty = of_shape (option_map (type_of_shape p) (shape_at p s r))
  where
    of_shape : Option (List ℕ) → Bool
    of_shape None = false
    of_shape (Some from) = subtype p from ty

-- a handler's type fits a throwable; none takes every throwable
abbrev pub type_fits : Program → State → Ref → Option NameNo → Bool
type_fits p s t None = true
type_fits p s t (Some n) = is_of_type p s t (units_of p n.0)

-- a handler covers an address and its type fits
abbrev pub handler_fits : Program → State → Ref → ℕ → Catch → Bool
handler_fits p s t at h = nat_le h.from at && (nat_lt at h.to && type_fits p s t h.ty)

-- the first handler of the frame's code, in the order of search, that fits its instruction and the throwable
abbrev pub handler_for : Program → State → Ref → Frame → Option Catch
handler_for p s t f = option_and_then (λ (code : Code). find (handler_fits p s t f.at) code.tries) (code_of p f.method)

-- a frame is left, or the run goes on at the handler with the throwable held
abbrev pub to_handler : Ref → Option Catch → Deeds
to_handler t None = Some (Pop ∷ [])
to_handler t (Some h) = Some (Unpend ∷ Hold (Thrown t) ∷ Jump h.at ∷ [])

-- The class of a record becomes erroneous, and the record goes. An Error goes on as it is; any other throwable is
-- replaced by a new ExceptionInInitializerError.
abbrev pub fails : Program → State → ℕ → Bool → Deeds
fails p s c true = Some (SetStatus c Erroneous ∷ Pop ∷ [])
fails p s c false = option_map (λ ds. SetStatus c Erroneous ∷ Pop ∷ ds) (throws p s ExceptionInInitializer)

-- the move of a pending throwable, by the top of the stack; over an empty stack there is none
abbrev pub throwable_move : Program → State → Ref → List Entry → Deeds
throwable_move p s t [] = None
throwable_move p s t (Call f ∷ below) = to_handler t (handler_for p s t f)
throwable_move p s t (Record c phase ∷ below) = fails p s c (is_of_type p s t (descriptor_of Error))
