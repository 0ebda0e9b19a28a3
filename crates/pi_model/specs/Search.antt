-- Finding a class, a field and a method by name, as the rules of resolution of the virtual
-- machine specification say.
use Rattle.std.specs.Prelude.{ℕ, zero, suc, ◌+◌, ◌-◌, ◌==◌, ◌&&◌, nat_lt, not, is_some, flat_map, List, [], ◌∷◌, ◌++◌, length, Option, Some, None, Bool, true, false, if◌then◌else◌, position, slice_get, option_map, option_and_then}
use Rattle.pi_model.specs.declared.numbers.NameNo.{NameNo}
use Rattle.pi_model.specs.declared.describe.ClassDesc.{ClassDesc}
use Rattle.pi_model.specs.declared.describe.MethodDesc.{MethodDesc}
use Rattle.pi_model.specs.declared.describe.FieldDesc.{FieldDesc}
use Rattle.pi_model.specs.declared.insn.FieldRef.{FieldRef}
use Rattle.pi_model.specs.declared.insn.MethodRef.{MethodRef}
use Rattle.pi_model.specs.Flags.{is_private, is_static}
use Rattle.pi_model.specs.Known.{JavaObject, descriptor_of}
use Rattle.pi_model.specs.Texts.{is_named, units_of}
use Rattle.pi_model.specs.Program.{Program, same_name, field_number, method_number, field_count, method_count}

-- a class of the program, with its place in it
abbrev pub class_at : Program → ℕ → Option ClassDesc
class_at p c = slice_get p.classes c

-- the number of the class of a descriptor
abbrev pub class_of : Program → NameNo → Option ℕ
class_of p n = position (λ (d : ClassDesc). same_name d.name n) p.classes

-- the number of the class of a descriptor that is given as a text
abbrev pub class_named : Program → List ℕ → Option ℕ
class_named p text = position (λ (d : ClassDesc). is_named p d.name text) p.classes

-- the number of the superclass of a class
abbrev pub superclass_of : Program → ℕ → Option ℕ
superclass_of p c = above (class_at p c)
  where
    above_named : Option NameNo → Option ℕ
    above_named None = None
    above_named (Some n) = class_of p n

    above : Option ClassDesc → Option ℕ
    above None = None
    above (Some d) = above_named d.parent

-- a descriptor of a primitive, of a defined class, or of an array of either
abbrev pub is_known_type : Program → List ℕ → Bool
is_known_type p [] = false
is_known_type p (letter ∷ others) =
    if letter == 91 then is_known_type p others else
    if letter == 76 then is_some (class_named p (letter ∷ others)) else true

-- a descriptor of an array of primitives or of defined classes
abbrev pub is_array_type : Program → List ℕ → Bool
is_array_type p [] = false
is_array_type p (letter ∷ others) = (letter == 91) && is_known_type p others

-- the number of the type of a descriptor
abbrev pub type_of : Program → NameNo → Option ℕ
type_of p n = position (λ (t : NameNo). same_name t n) p.types

-- a member of a class: the class and the place in its list
pub record Member : Type 0 where
  pub class : ℕ
  pub place : ℕ

-- the member at a place of a class
abbrev pub in_class : ℕ → ℕ → Member
in_class c i = record { class = c; place = i }

-- the first answer that there is
abbrev pub or_else : {A : Type 0} → Option A → Option A → Option A
or_else None other = other
or_else (Some x) other = Some x

-- the first answer of the classes of some descriptors
abbrev pub first_among : {A : Type 0} → Program → (ℕ → Option A) → List NameNo → Option A
first_among p f [] = None
first_among p f (n ∷ ns) = or_else (option_and_then f (class_of p n)) (first_among p f ns)

-- the superclass's descriptor, where there is one
abbrev pub parent_list : Option NameNo → List NameNo
parent_list None = []
parent_list (Some n) = n ∷ []

-- names in order are the same numbers
abbrev pub same_names : List NameNo → List NameNo → Bool
same_names [] [] = true
same_names (a ∷ others) (b ∷ bs) = if same_name a b then same_names others bs else false
same_names [] (b ∷ bs) = false
same_names (a ∷ others) [] = false

-- the place of the field of a name and type in a class's own list
abbrev pub own_field : ClassDesc → FieldRef → Option ℕ
own_field d f = position (λ (x : FieldDesc). same_name x.name f.name && same_name x.ty f.ty) d.fields

-- a method has that name and prototype
abbrev pub same_method : MethodDesc → MethodRef → Bool
same_method x m = same_name x.name m.name && (same_names x.params m.params && same_name x.ret m.ret)

-- one class of the search for a field: its own, then what the search above finds, superinterfaces first
abbrev pub field_in : Program → FieldRef → (ℕ → Option Member) → ℕ → Option ClassDesc → Option Member
field_in p f above c None = None
field_in p f above c (Some d) =
    or_else (option_map (in_class c) (own_field d f)) (first_among p above (d.faces ++ parent_list d.parent))

-- A field is searched in the class, then in each direct superinterface in declared order, then in the superclass,
-- each in the same way. The number bounds how far up the search goes; no chain of classes is longer than the program.
abbrev pub field_from : ℕ → Program → FieldRef → ℕ → Option Member
field_from zero p f c = None
field_from (suc n) p f c = field_in p f (field_from n p f) c (class_at p c)

-- the field that an instruction names
abbrev pub find_field : Program → FieldRef → Option Member
find_field p f = option_and_then (field_from (length p.classes) p f) (class_of p f.class)

-- a number of a class, and the numbers of its superclasses, nearest first
abbrev pub up_from : ℕ → Program → Option ℕ → List ℕ
up_from zero p c = []
up_from (suc n) p None = []
up_from (suc n) p (Some c) = c ∷ up_from n p (superclass_of p c)

-- A class and its superclasses, nearest first. No chain of classes is longer than the program.
abbrev pub lineage : Program → ℕ → List ℕ
lineage p c = up_from (length p.classes) p (Some c)

-- the first answer of a list of classes
abbrev pub first_in : {A : Type 0} → (ℕ → Option A) → List ℕ → Option A
first_in f [] = None
first_in f (c ∷ cs) = or_else (f c) (first_in f cs)

-- the first method of that name and prototype in a class's own list that a test lets pass
abbrev pub method_passing : Program → (MethodDesc → Bool) → MethodRef → ℕ → Option Member
method_passing p test m c = option_map (in_class c) (option_and_then (λ (d : ClassDesc). position (λ x. test x && same_method x m) d.methods) (class_at p c))

-- a method that is handed down to subtypes: neither static nor private
abbrev pub is_handed_down : MethodDesc → Bool
is_handed_down x = not (is_static x.flags) && not (is_private x.flags)

-- the interfaces that a class lists
abbrev pub faces_of : Program → ℕ → List NameNo
faces_of p c = faces_in (class_at p c)
  where
    faces_in : Option ClassDesc → List NameNo
    faces_in None = []
    faces_in (Some d) = d.faces

-- a method of an interface, then of its own superinterfaces in declared order, depth first
abbrev pub face_method_from : ℕ → Program → MethodRef → ℕ → Option Member
face_method_from zero p m c = None
face_method_from (suc n) p m c = or_else (method_passing p is_handed_down m c) (first_among p (face_method_from n p m) (faces_of p c))

-- A method is searched in the class and its superclasses, nearest first, then in the superinterfaces of these classes,
-- nearer classes first, each class's in declared order and an interface before its own.
abbrev pub method_from : Program → MethodRef → ℕ → Option Member
method_from p m c =
    or_else (first_in (method_passing p (λ x. true) m) (lineage p c))
    (first_among p (face_method_from (length p.classes) p m) (flat_map (faces_of p) (lineage p c)))

-- the class whose methods a named type has: its own, and Object's for an array of primitives or of defined classes
abbrev pub searched_class : Program → NameNo → Option ℕ
searched_class p n = or_else (class_of p n) (if is_array_type p (units_of p n.0) then class_named p (descriptor_of JavaObject) else None)

-- the method that an instruction names
abbrev pub find_method : Program → MethodRef → Option Member
find_method p m = option_and_then (method_from p m) (searched_class p m.class)

-- the description of a method by class and place
abbrev pub method_at : Program → Member → Option MethodDesc
method_at p i = option_and_then (λ (d : ClassDesc). slice_get d.methods i.place) (class_at p i.class)

-- the class and place of a member by its number, where each class has so many members
abbrev pub member_by : (ClassDesc → ℕ) → List ClassDesc → ℕ → ℕ → Option Member
member_by count [] c n = None
member_by count (d ∷ ds) c n = if nat_lt n (count d) then Some (in_class c n) else member_by count ds (c + 1) (n - count d)

-- the class and place of a method by its number
abbrev pub member_of : List ClassDesc → ℕ → ℕ → Option Member
member_of ds c n = member_by method_count ds c n

-- the method of a number
abbrev pub method_of : Program → ℕ → Option Member
method_of p n = member_of p.classes 0 n

-- the field of a number
abbrev pub field_of : Program → ℕ → Option Member
field_of p n = member_by field_count p.classes 0 n

-- the number of a member among all fields
abbrev pub field_no_of : Program → Member → ℕ
field_no_of p i = field_number p i.class i.place

-- the number of a member among all methods
abbrev pub method_no_of : Program → Member → ℕ
method_no_of p i = method_number p i.class i.place
