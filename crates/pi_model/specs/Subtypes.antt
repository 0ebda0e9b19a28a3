-- Which descriptors are subtypes of which. They are compared as texts, since the component of an array may be a type
-- that no file names. Restates the rules of subtypes among reference types of the Java language specification.
use Rattle.std.specs.Prelude.{ℕ, zero, suc, ◌==◌, ◌&&◌, ◌||◌, List, [], ◌∷◌, ◌++◌, length, slice_index, Option, Some, None, Bool, false, if◌then◌else◌, option_and_then}
use Rattle.std.specs.List.{list_any}
use Rattle.pi_model.specs.declared.numbers.NameNo.{NameNo}
use Rattle.pi_model.specs.declared.describe.ClassDesc.{ClassDesc}
use Rattle.pi_model.specs.Flags.{is_interface}
use Rattle.pi_model.specs.Program.{Program}
use Rattle.pi_model.specs.Texts.{same_text, is_named}
use Rattle.pi_model.specs.Known.{JavaObject, Cloneable, Serializable, descriptor_of}
use Rattle.pi_model.specs.Search.{class_at, class_of, class_named, parent_list}
use Rattle.pi_model.specs.Sizes.{is_reference}

-- the types right above a class: its interfaces and its superclass
abbrev pub right_above : ClassDesc → List NameNo
right_above d = d.faces ++ parent_list d.parent

-- a test holds of a class, where there is one
abbrev pub of_class : (ClassDesc → Bool) → Option ClassDesc → Bool
of_class test None = false
of_class test (Some d) = test d

-- Object is above an interface, whatever the interface declares
abbrev pub below_object : ClassDesc → List ℕ → Bool
below_object d to = is_interface d.flags && same_text (descriptor_of JavaObject) to

-- the class of a name
abbrev pub class_by_name : Program → NameNo → Option ClassDesc
class_by_name p n = option_and_then (class_at p) (class_of p n)

-- a name is the descriptor looked for, or its class has that descriptor above it within so many classes
abbrev pub reaches : ℕ → Program → List ℕ → NameNo → Bool
reaches zero p to n = is_named p n to
reaches (suc k) p to n = is_named p n to || of_class (λ d. below_object d to || list_any (reaches k p to) (right_above d)) (class_by_name p n)

-- the class has that descriptor above it: as a superclass or superinterface at any distance, or as Object above an interface
abbrev pub is_above : Program → List ℕ → ClassDesc → Bool
is_above p to d = below_object d to || list_any (reaches (length p.classes) p to) (right_above d)

-- the class of a descriptor has another above it
abbrev pub class_below : Program → List ℕ → List ℕ → Bool
class_below p from to = of_class (is_above p to) (option_and_then (class_at p) (class_named p from))

-- every array is below these three
abbrev pub above_arrays : List ℕ → Bool
above_arrays to = same_text (descriptor_of JavaObject) to || (same_text (descriptor_of Cloneable) to || same_text (descriptor_of Serializable) to)

-- an array of references is below an array whose component its own component is below
abbrev pub array_below : (List ℕ → Bool) → List ℕ → List ℕ → Bool
array_below component item [] = false
array_below component item (b ∷ to) = (b == 91) && (is_reference (slice_index item 0) && component to)

-- A descriptor is a subtype of another: the same, above it by classes and interfaces, or by the rules of arrays.
abbrev pub subtype : Program → List ℕ → List ℕ → Bool
subtype p [] to = false
subtype p (a ∷ from) to =
    same_text (a ∷ from) to
    || (if a == 91 then above_arrays to || array_below (subtype p from) from to else class_below p (a ∷ from) to)
