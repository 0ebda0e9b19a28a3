-- The bytes of the image of a file: the sizes of the things that are for it. All of it is our own.
use Rattle.std.specs.Prelude.{◌≡◌, ℕ, ◌+◌, ◌==◌, List, [], ◌∷◌, sum_by, Some, None, if◌then◌else◌}
use Rattle.std.specs.List.{list_any}
use Rattle.pi_model.specs.Program.{Program}
use Rattle.pi_model.specs.Sizes.{object_bytes}
use Rattle.pi_model.specs.Texts.{units_of}
use Rattle.pi_model.specs.Values.{Text}
use Rattle.pi_machine.specs.State.{State, Thing, Made, Touched}
use Rattle.pi_machine.specs.Deeds.{Deed, Make, Touch, do_deed, do_all, is_touched}

-- the size of a thing that is for the image of a file
abbrev pub bytes_for : Program → ℕ → Thing → ℕ
bytes_for p file (Made (Some other) o) = if other == file then object_bytes p o else 0
bytes_for p file (Made None o) = 0
bytes_for p file (Touched (Some other) n) = if other == file then object_bytes p (Text (units_of p n)) else 0
bytes_for p file (Touched None n) = 0

-- the object bytes of the image of a file
abbrev pub image_bytes : Program → ℕ → State → ℕ
image_bytes p file s = sum_by (bytes_for p file) s.things

-- the bytes that a deed adds to it: of an object that is made, and of a literal at its first touch
abbrev pub added_bytes : Program → ℕ → State → Deed → ℕ
added_bytes p file s (Make o) = bytes_for p file (Made s.file o)
added_bytes p file s (Touch n) = if list_any (is_touched n) s.things then 0 else bytes_for p file (Touched s.file n)
added_bytes p file s _ = 0

-- the bytes that deeds add, one after another
abbrev pub all_added : Program → ℕ → List Deed → State → ℕ
all_added p file [] s = 0
all_added p file (d ∷ ds) s = added_bytes p file s d + all_added p file ds (do_deed d s)

-- after deeds the bytes of an image are what they were, and the bytes of what was made and first touched
abbrev pub ImageBytesGrow : Type 0
ImageBytesGrow = (p : Program) (file : ℕ) (deeds : List Deed) (s : State)
    → image_bytes p file (do_all deeds s) ≡ image_bytes p file s + all_added p file deeds s
