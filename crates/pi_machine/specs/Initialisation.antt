-- Which class a move needs, and the moves of initialisation: enter, the superclass, the static values, the initialiser,
-- done. The need of a class stands in one place, for instructions, records and the start alike. Restates the
-- procedure of the Java language specification on the initialisation of classes; the moment of static values is our own.
use Rattle.std.specs.Prelude.{ℕ, ◌+◌, ◌==◌, ◌&&◌, List, [], ◌∷◌, ◌++◌, length, position, slice_get, Option, Some, None, Bool, true, false, option_map, codes}
use Rattle.pi_model.specs.declared.numbers.NameNo.{NameNo}
use Rattle.pi_model.specs.declared.reason.ClassState.{ClassState}
use Rattle.pi_model.specs.declared.reason.ClassState.TheVariants.{Fresh, InProgress, Done, Erroneous}
use Rattle.pi_model.specs.declared.describe.ClassDesc.{ClassDesc}
use Rattle.pi_model.specs.declared.describe.FieldDesc.{FieldDesc}
use Rattle.pi_model.specs.declared.describe.MethodDesc.{MethodDesc}
use Rattle.pi_model.specs.declared.describe.Line.{Line}
use Rattle.pi_model.specs.declared.describe.Init.{Init}
use Rattle.pi_model.specs.declared.describe.Init.TheVariants as init
use Rattle.pi_model.specs.declared.insn.Insn.{Insn}
use Rattle.pi_model.specs.declared.insn.Insn.TheVariants.{Sget, Sput, NewInstance, Invoke}
use Rattle.pi_model.specs.declared.insn.How.TheVariants.{Static}
use Rattle.pi_model.specs.Program.{Program, field_number, method_number}
use Rattle.pi_model.specs.Texts.{is_named}
use Rattle.pi_model.specs.Values.{Ref, Lit, Cls, Value, Word, Long, At}
use Rattle.pi_model.specs.Search.{Member, class_at, class_of, method_of, find_field, find_method}
use Rattle.pi_machine.specs.State.{State, Frame, Phase, Entered, ValuesSet, Running, Entry, Call, Record}
use Rattle.pi_machine.specs.Deeds.{Deed, Touch, Saw, OfStatus, SetStatic, SetStatus, Start, Push, Pop, SetPhase}
use Rattle.pi_model.specs.Known.{NoClassDefFound}
use Rattle.pi_machine.specs.Operands.{Deeds, first_do}
use Rattle.pi_machine.specs.Codes.{code_of, line_of}
use Rattle.pi_machine.specs.Throwing.{throws}
use Rattle.pi_machine.specs.Rows.Calls.{entry_frame}

-- the classes that must have been entered before a move, in order; none where what the move names is not found
abbrev pub Needed : Type 0
Needed = Option (List ℕ)

-- the class that declares a member
abbrev pub class_needed : Option Member → Needed
class_needed None = None
class_needed (Some i) = Some (i.class ∷ [])

-- the class of a new instance, and the class that declares the static field or the static method
abbrev pub needed_by : Program → Insn → Needed
needed_by p (NewInstance a t) = option_map (λ c. c ∷ []) (class_of p t)
needed_by p (Sget kind a r) = class_needed (find_field p r)
needed_by p (Sput kind a r) = class_needed (find_field p r)
needed_by p (Invoke Static m regs) = class_needed (find_method p m)
needed_by p _ = Some []

-- the superclass, before the static values are set
abbrev pub superclass_needed : Program → Option NameNo → Needed
superclass_needed p None = Some []
superclass_needed p (Some parent) = option_map (λ c. c ∷ []) (class_of p parent)

-- what a record needs, by its phase
abbrev pub needed_in_record : Program → Phase → Option ClassDesc → Needed
needed_in_record p phase None = None
needed_in_record p Entered (Some d) = superclass_needed p d.parent
needed_in_record p ValuesSet (Some d) = Some []
needed_in_record p Running (Some d) = Some []

-- the class of main, before its frame is pushed
abbrev pub needed_to_start : Program → Bool → Option ℕ → Needed
needed_to_start p true main = Some []
needed_to_start p false None = Some []
needed_to_start p false (Some m) = class_needed (method_of p m)

-- what the instruction at a place needs
abbrev pub needed_at : Program → Option Line → Needed
needed_at p None = None
needed_at p (Some l) = needed_by p l.insn

-- what the next move of a state needs, by the top of the stack
abbrev pub need_of : Program → State → Option Ref → List Entry → Needed
need_of p s (Some t) stack = Some []
need_of p s None [] = needed_to_start p s.started s.main
need_of p s None (Call f ∷ below) = needed_at p (line_of p f)
need_of p s None (Record c phase ∷ below) = needed_in_record p phase (class_at p c)

-- a class is entered
abbrev pub enters : ℕ → List Deed
enters c = Saw (OfStatus c Fresh) ∷ SetStatus c InProgress ∷ Push (Record c Entered) ∷ []

-- A needed class that is fresh is entered, and the move waits; one that is in progress or done lets it go on; one that
-- is erroneous throws.
abbrev pub by_status : Program → State → ℕ → Option ClassState → Deeds → Deeds
by_status p s c None move = None
by_status p s c (Some Fresh) move = Some (enters c)
by_status p s c (Some InProgress) move = first_do (Saw (OfStatus c InProgress)) move
by_status p s c (Some Done) move = first_do (Saw (OfStatus c Done)) move
by_status p s c (Some Erroneous) move = first_do (Saw (OfStatus c Erroneous)) (throws p s NoClassDefFound)

-- the move waits for the needed classes, one after another
abbrev pub after_needed : Program → State → List ℕ → Deeds → Deeds
after_needed p s [] move = move
after_needed p s (c ∷ others) move = by_status p s c (slice_get s.statuses c) (after_needed p s others move)

-- the move, where what it names is found
abbrev pub by_need : Program → State → Needed → Deeds → Deeds
by_need p s None move = None
by_need p s (Some classes) move = after_needed p s classes move

-- the start pushes main's frame
abbrev pub main_frame : Option Frame → Deeds
main_frame None = None
main_frame (Some f) = Some (Start ∷ Push (Call f) ∷ [])

-- the array of arguments as the argument of main; where there is none, null
abbrev pub argument_list : Option Ref → List Value
argument_list None = Word 0 ∷ []
argument_list (Some r) = At r ∷ []

-- the start: main is called, where it was not
abbrev pub start_move : Program → State → Bool → Option ℕ → Deeds
start_move p s true main = None
start_move p s false None = None
start_move p s false (Some m) = main_frame (entry_frame m (code_of p m) (argument_list s.args))

-- a static value is set; a text's literal is touched by it
abbrev pub value_deeds : ℕ → Init → List Deed
value_deeds f init.Zero = []
value_deeds f (init.Word n) = SetStatic f (Word n) ∷ []
value_deeds f (init.Long n) = SetStatic f (Long n) ∷ []
value_deeds f (init.Str n) = Touch n.0 ∷ SetStatic f (At (Lit n.0)) ∷ []
value_deeds f (init.Cls n) = SetStatic f (At (Cls n.0)) ∷ []

-- the static values of a class's fields, in order, from the field of that number on
abbrev pub values_from : ℕ → List FieldDesc → List Deed
values_from f [] = []
values_from f (d ∷ others) = value_deeds f d.init ++ values_from (f + 1) others

-- the initialiser of a class: its place in the list of methods
unfoldable pub is_clinit : Program → MethodDesc → Bool
is_clinit p m = is_named p m.name (codes "<clinit>") && (length m.params == 0)

-- the place of the initialiser of a class
abbrev pub clinit_of : Program → ClassDesc → Option ℕ
clinit_of p d = position (is_clinit p) d.methods

-- the class is done, and its record goes
abbrev pub finishes : ℕ → List Deed
finishes c = SetStatus c Done ∷ Pop ∷ []

-- the initialiser is called
abbrev pub calls_clinit : Option Frame → Deeds
calls_clinit None = None
calls_clinit (Some f) = Some (SetPhase Running ∷ Push (Call f) ∷ [])

-- the initialiser is called; without one the class is done
abbrev pub clinit_move : Program → ℕ → Option ℕ → Deeds
clinit_move p c None = Some (finishes c)
clinit_move p c (Some place) = calls_clinit (entry_frame (method_number p c place) (code_of p (method_number p c place)) [])

-- the moves of a record, by its phase
abbrev pub record_move : Program → ℕ → Phase → Option ClassDesc → Deeds
record_move p c phase None = None
record_move p c Entered (Some d) = Some (values_from (field_number p c 0) d.fields ++ SetPhase ValuesSet ∷ [])
record_move p c ValuesSet (Some d) = clinit_move p c (clinit_of p d)
record_move p c Running (Some d) = Some (finishes c)
