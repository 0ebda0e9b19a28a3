-- The natives: which method is which, and what each does. A native reads its arguments in order, the receiver first.
-- The methods of Object, String and System restate the pages of the class library; the others are our own.
use Rattle.std.specs.Prelude.{ℕ, zero, ◌+◌, ◌*◌, ◌^◌, ◌==◌, ◌&&◌, ◌||◌, not, nat_lt, nat_le, List, [], ◌∷◌, ◌++◌, length, take, drop, find, slice_index, Option, Some, None, Bool, true, false, if◌then◌else◌, option_map, option_and_then, codes}
use Rattle.pi_model.specs.declared.describe.ClassDesc.{ClassDesc}
use Rattle.pi_model.specs.declared.describe.MethodDesc.{MethodDesc}
use Rattle.pi_model.specs.Program.{Program}
use Rattle.pi_model.specs.Texts.{is_named, are_named, same_text, name_of, units_of}
use Rattle.pi_model.specs.Known.{Known, JavaObject, JavaString, JavaClass, JavaSystem, PiOut, PiText, Cloneable, NullPointer, ArrayStore, ArrayIndexOutOfBounds, StringIndexOutOfBounds, CloneNotSupported, descriptor_of}
use Rattle.pi_model.specs.Search.{class_at}
use Rattle.pi_model.specs.Sizes.{is_reference}
use Rattle.pi_model.specs.Subtypes.{subtype}
use Rattle.pi_model.specs.Values.{Ref, Num, Lit, Cls, Value, Word, Low, High, Long, At, Object, Text}
use Rattle.pi_machine.specs.State.{State, Held, Nothing, Result}
use Rattle.pi_machine.specs.Deeds.{Deed, Make, Print, Saw, OfItem, OfObject, Reads, Writes, SetItem}
use Rattle.pi_machine.specs.Objects.{Shape, OfInstance, OfArray, OfText, OfClass, shape_at, object_at, class_descriptor, items_in}
use Rattle.pi_machine.specs.Throwing.{next_made, is_of_type}
use Rattle.pi_machine.specs.Printed.{printed_int, printed_long, printed_text, long_text}

-- the natives that there are
pub data Native : Type 0 where
  PrintInt : Native
  PrintLong : Native
  PrintText : Native
  Clone : Native
  GetClass : Native
  StringLength : Native
  CharAt : Native
  StringEquals : Native
  Concat : Native
  ArrayCopy : Native
  OfLong : Native
  OfChars : Native

-- a native with its class, its name, the types of its parameters and the type of its result
pub record NativeRow : Type 0 where
  pub native : Native
  pub class : Known
  pub name : List ℕ
  pub params : List (List ℕ)
  pub ret : List ℕ

-- a row of the table
abbrev pub native_row : Native → Known → List ℕ → List (List ℕ) → List ℕ → NativeRow
native_row native class name params ret = record { native = native; class = class; name = name; params = params; ret = ret }

-- the table of natives
unfoldable pub native_table : List NativeRow
native_table =
    native_row PrintInt PiOut (codes "print") (codes "I" ∷ []) (codes "V")
    ∷ native_row PrintLong PiOut (codes "print") (codes "J" ∷ []) (codes "V")
    ∷ native_row PrintText PiOut (codes "text") (codes "Ljava/lang/String;" ∷ []) (codes "V")
    ∷ native_row Clone JavaObject (codes "clone") [] (codes "Ljava/lang/Object;")
    ∷ native_row GetClass JavaObject (codes "getClass") [] (codes "Ljava/lang/Class;")
    ∷ native_row StringLength JavaString (codes "length") [] (codes "I")
    ∷ native_row CharAt JavaString (codes "charAt") (codes "I" ∷ []) (codes "C")
    ∷ native_row StringEquals JavaString (codes "equals") (codes "Ljava/lang/Object;" ∷ []) (codes "Z")
    ∷ native_row Concat JavaString (codes "concat") (codes "Ljava/lang/String;" ∷ []) (codes "Ljava/lang/String;")
    ∷ native_row ArrayCopy JavaSystem (codes "arraycopy")
    (codes "Ljava/lang/Object;" ∷ codes "I" ∷ codes "Ljava/lang/Object;" ∷ codes "I" ∷ codes "I" ∷ []) (codes "V")
    ∷ native_row OfLong PiText (codes "ofLong") (codes "J" ∷ []) (codes "Ljava/lang/String;")
    ∷ native_row OfChars PiText (codes "ofChars") (codes "[C" ∷ codes "I" ∷ codes "I" ∷ []) (codes "Ljava/lang/String;")
    ∷ []

-- the method of a class is the native of a row
abbrev pub is_native : Program → ClassDesc → MethodDesc → NativeRow → Bool
is_native p d m r =
    is_named p d.name (descriptor_of r.class) && (is_named p m.name r.name && (are_named p m.params r.params && is_named p m.ret r.ret))

-- which native a method is
abbrev pub native_of : Program → ClassDesc → MethodDesc → Option Native
native_of p d m = option_map (λ (r : NativeRow). r.native) (find (is_native p d m) native_table)

-- natives that print are not pure; all others are
abbrev pub is_pure : Native → Bool
is_pure PrintInt = false
is_pure PrintLong = false
is_pure PrintText = false
is_pure Clone = true
is_pure GetClass = true
is_pure StringLength = true
is_pure CharAt = true
is_pure StringEquals = true
is_pure Concat = true
is_pure ArrayCopy = true
is_pure OfLong = true
is_pure OfChars = true

-- how a native ends after some deeds: it holds a value or nothing, or it throws a new throwable of a class
pub data Outcome : Type 0 where
  Gives : (deeds : List Deed) (held : Held) → Outcome
  Fails : (deeds : List Deed) (class : Known) → Outcome

-- a native gives a word, or a new text
abbrev pub gives_word : ℕ → Outcome
gives_word n = Gives [] (Result (Word n))

-- a native gives a new text
abbrev pub gives_text : State → List Deed → List ℕ → Outcome
gives_text s before units = Gives (before ++ Make (Text units) ∷ []) (Result (At (next_made s)))

-- an index is a signed number from 0 on, below a length
abbrev pub is_index : ℕ → ℕ → Bool
is_index i n = nat_lt i (2 ^ 31) && nat_lt i n

-- a range of so many elements from a place on is inside a length: neither number is negative
abbrev pub is_range : ℕ → ℕ → ℕ → Bool
is_range at count n = nat_lt at (2 ^ 31) && (nat_lt count (2 ^ 31) && nat_le (at + count) n)

-- the text of a shape
abbrev pub units_in : Option Shape → Option (List ℕ)
units_in (Some (OfText units)) = Some units
units_in (Some (OfInstance c fields)) = None
units_in (Some (OfArray ty items)) = None
units_in (Some OfClass) = None
units_in None = None

-- the descriptor of an array's component
abbrev pub component : Program → ℕ → List ℕ
component p ty = drop 1 (units_of p ty)

-- the elements of an array from a place on, in order, are looked at; they are set
abbrev pub sees_items : ℕ → ℕ → List Value → List Deed
sees_items n at [] = []
sees_items n at (v ∷ vs) = Saw (OfItem (Num n) at v) ∷ sees_items n (at + 1) vs

-- elements from a place on are set, in order
abbrev pub sets_items : ℕ → ℕ → List Value → List Deed
sets_items n at [] = []
sets_items n at (v ∷ vs) = SetItem n at v ∷ sets_items n (at + 1) vs

-- Object.clone: arrays and instances of Cloneable types are copied word for word
abbrev pub may_clone : Program → Shape → Bool
may_clone p (OfInstance c fields) = subtype p (class_descriptor p c) (descriptor_of Cloneable)
may_clone p (OfArray ty items) = true
may_clone p (OfText units) = false
may_clone p OfClass = false

-- an object is made that holds the same
abbrev pub copies : State → Ref → Option Object → Option Outcome
copies s (Num n) (Some o) = Some (Gives (Reads n ∷ Saw (OfObject (Num n) o) ∷ Make o ∷ []) (Result (At (next_made s))))
copies s (Num n) None = None
copies s (Lit n) o = None
copies s (Cls n) o = None

-- an object that may be cloned is copied; another throws
abbrev pub clone_does : Program → State → Ref → Option Shape → Option Outcome
clone_does p s r None = None
clone_does p s r (Some shape) = if may_clone p shape then copies s r (object_at p s r) else Some (Fails [] CloneNotSupported)

-- Object.getClass: the class object of the type, by the number of the type's name
abbrev pub type_name_of : Program → Option Shape → Option ℕ
type_name_of p None = None
type_name_of p (Some (OfInstance c fields)) = option_map (λ (d : ClassDesc). d.name.0) (class_at p c)
type_name_of p (Some (OfArray ty items)) = Some ty
type_name_of p (Some (OfText units)) = name_of p (descriptor_of JavaString)
type_name_of p (Some OfClass) = name_of p (descriptor_of JavaClass)

-- the class object of a name
abbrev pub get_class_does : Option ℕ → Option Outcome
get_class_does n = option_map (λ n. Gives [] (Result (At (Cls n)))) n

-- String.charAt
abbrev pub char_at_does : ℕ → List ℕ → Outcome
char_at_does i units = if is_index i (length units) then gives_word (slice_index units i) else Fails [] StringIndexOutOfBounds

-- String.equals: a text of the same units
abbrev pub truth : Bool → ℕ
truth true = 1
truth false = 0

-- a text has these units
abbrev pub same_units : List ℕ → Option (List ℕ) → Bool
same_units units None = false
same_units units (Some other) = same_text units other

-- 0 for null and for what is no text of the same units, else 1
abbrev pub equals_does : Program → State → List ℕ → Value → Option Outcome
equals_does p s units (Word zero) = Some (gives_word 0)
equals_does p s units (At r) = Some (gives_word (truth (same_units units (units_in (shape_at p s r)))))
equals_does p s units _ = None

-- String.concat: a new text
abbrev pub concat_does : Program → State → List ℕ → Value → Option Outcome
concat_does p s units (Word zero) = Some (Fails [] NullPointer)
concat_does p s units (At r) = option_map (λ others. gives_text s [] (units ++ others)) (units_in (shape_at p s r))
concat_does p s units _ = None

-- System.arraycopy between arrays whose tests passed: all elements of the range are read, then those before the first
-- reference that does not fit are written; one that does not fit throws
abbrev pub fits_component : Program → State → List ℕ → Value → Bool
fits_component p s ty (At r) = is_of_type p s r ty
fits_component p s ty (Word n) = true
fits_component p s ty (Low n) = true
fits_component p s ty (High n) = true
fits_component p s ty (Long n) = true

-- the values before the first that does not fit
abbrev pub fitting_front : Program → State → List ℕ → List Value → List Value
fitting_front p s ty [] = []
fitting_front p s ty (v ∷ vs) = if fits_component p s ty v then v ∷ fitting_front p s ty vs else []

-- a copy ends well where all fitted
abbrev pub ends_copy : Bool → List Deed → Outcome
ends_copy true deeds = Gives deeds Nothing
ends_copy false deeds = Fails deeds ArrayStore

-- elements of one array go into another
abbrev pub copies_items : Program → State → ℕ → ℕ → ℕ → ℕ → List ℕ → List Value → Outcome
copies_items p s from from_at to to_at ty items =
    ends_copy (length (fitting_front p s ty items) == length items)
    (Reads from ∷ Writes to ∷ sees_items from from_at items ++ sets_items to to_at (fitting_front p s ty items))

-- the components of two arrays are both references or the same primitive
abbrev pub same_components : List ℕ → List ℕ → Bool
same_components a b = (is_reference (slice_index a 0) && is_reference (slice_index b 0)) || (not (is_reference (slice_index a 0)) && same_text a b)

-- the tests on kinds and ranges, then the copy
abbrev pub copies_between : Program → State → Ref → ℕ → Ref → ℕ → ℕ → Option Shape → Option Shape → Option Outcome
copies_between p s (Num a) from (Num b) to count (Some (OfArray ty n)) (Some (OfArray uy m)) = Some (
    if not (same_components (component p ty) (component p uy)) then Fails [] ArrayStore else
    if not (is_range from count n && is_range to count m) then Fails [] ArrayIndexOutOfBounds else
    copies_items p s a from b to (component p uy) (take count (drop from (items_in (object_at p s (Num a))))))
copies_between p s r from q to count (Some x) (Some y) = Some (Fails [] ArrayStore)
copies_between p s r from q to count _ _ = None

-- null is tested first
abbrev pub array_copy_does : Program → State → Value → ℕ → Value → ℕ → ℕ → Option Outcome
array_copy_does p s (At r) from (At q) to count = copies_between p s r from q to count (shape_at p s r) (shape_at p s q)
array_copy_does p s (At r) from (Word zero) to count = Some (Fails [] NullPointer)
array_copy_does p s (Word zero) from (At q) to count = Some (Fails [] NullPointer)
array_copy_does p s (Word zero) from (Word zero) to count = Some (Fails [] NullPointer)
array_copy_does p s _ from _ to count = None

-- Text.ofChars: the units of a range of an array of chars
abbrev pub words_in : List Value → Option (List ℕ)
words_in [] = Some []
words_in (Word n ∷ vs) = option_map (λ ns. n ∷ ns) (words_in vs)
words_in (Low n ∷ vs) = None
words_in (High n ∷ vs) = None
words_in (Long n ∷ vs) = None
words_in (At r ∷ vs) = None

-- a new text of the units of a range
abbrev pub text_of_items : State → ℕ → ℕ → List Value → Option Outcome
text_of_items s n at items = option_map (gives_text s (Reads n ∷ sees_items n at items)) (words_in items)

-- the test on the range, then the text
abbrev pub of_chars_does : Program → State → Ref → ℕ → ℕ → Option Shape → Option Outcome
of_chars_does p s (Num a) at count (Some (OfArray ty n)) =
    if not (slice_index (component p ty) 0 == 67) then None else
    if is_range at count n then text_of_items s a at (take count (drop at (items_in (object_at p s (Num a)))))
    else Some (Fails [] ArrayIndexOutOfBounds)
of_chars_does p s r at count _ = None

-- Out.text: the text as UTF-8
abbrev pub print_text_does : Option (List ℕ) → Option Outcome
print_text_does units = option_map (λ units. Gives (Print (printed_text units) ∷ []) Nothing) units

-- what a native does with its arguments; none where they are of the wrong kind
abbrev pub native_does : Program → State → Native → List Value → Option Outcome
native_does p s PrintInt (Word n ∷ []) = Some (Gives (Print (printed_int n) ∷ []) Nothing)
native_does p s PrintLong (Low low ∷ High high ∷ []) = Some (Gives (Print (printed_long (low + 2 ^ 32 * high)) ∷ []) Nothing)
native_does p s PrintText (Word zero ∷ []) = Some (Fails [] NullPointer)
native_does p s PrintText (At r ∷ []) = print_text_does (units_in (shape_at p s r))
native_does p s Clone (At r ∷ []) = clone_does p s r (shape_at p s r)
native_does p s GetClass (At r ∷ []) = get_class_does (type_name_of p (shape_at p s r))
native_does p s StringLength (At r ∷ []) = option_map (λ units. gives_word (length units)) (units_in (shape_at p s r))
native_does p s CharAt (At r ∷ Word i ∷ []) = option_map (char_at_does i) (units_in (shape_at p s r))
native_does p s StringEquals (At r ∷ v ∷ []) = option_and_then (λ units. equals_does p s units v) (units_in (shape_at p s r))
native_does p s Concat (At r ∷ v ∷ []) = option_and_then (λ units. concat_does p s units v) (units_in (shape_at p s r))
native_does p s ArrayCopy (a ∷ Word from ∷ b ∷ Word to ∷ Word count ∷ []) = array_copy_does p s a from b to count
native_does p s OfLong (Low low ∷ High high ∷ []) = Some (gives_text s [] (long_text (low + 2 ^ 32 * high)))
native_does p s OfChars (Word zero ∷ Word at ∷ Word count ∷ []) = Some (Fails [] NullPointer)
native_does p s OfChars (At r ∷ Word at ∷ Word count ∷ []) = of_chars_does p s r at count (shape_at p s r)
native_does p s _ args = None
