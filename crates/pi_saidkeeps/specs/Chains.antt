-- Which classes of a program a file of its chain brought, and when a list of numbers is one of bytes.
use Rattle.std.specs.Prelude.{ℕ, ◌<◌, ◌==◌, List, filter, slice_index}
use Rattle.pi_model.specs.declared.describe.ClassDesc.{ClassDesc}
use Rattle.pi_model.specs.Program.{Program}

abbrev pub AreBytes : List ℕ → Type 0
AreBytes file = (k : ℕ) → slice_index file k < 256

-- the classes of the file of that number
abbrev pub classes_of : Program → ℕ → List ClassDesc
classes_of p number = filter (λ d. d.file.0 == number) p.classes
