-- What a builder holds, and what file it gives.
use Rattle.std.specs.Prelude.{◌≡◌, ℕ, List, [], ◌∷◌, ◌++◌, IsSomeAnd}
use Rattle.pi_model.specs.declared.describe.ClassDesc.{ClassDesc}
use Rattle.pi_model.specs.Program.{Program}
use Rattle.pi_model.specs.Search.{class_at}
use Rattle.pi_dextables.specs.Image.{image}
use Rattle.pi_dextables.specs.Writable.{IsShort, PlacesFit}
use Rattle.pi_contents.specs.Named.{content_in}
use Rattle.pi_classtables.specs.Spelled.{IsSpelled}
use Rattle.pi_classtables.specs.Whole.{Added, tables_of}

-- a class of a program by its contents, with the addresses of the switches in each of its methods that are to be sparse
abbrev pub added_in : Program → List (List ℕ) → ClassDesc → Added
added_in p sparse d = record { class = content_in p d; sparse = sparse }

-- a file can say the class of that number
abbrev pub CanBeAdded : Program → ℕ → List (List ℕ) → Type 0
CanBeAdded p c sparse = IsSomeAnd (class_at p c) (λ d. IsSpelled (added_in p sparse d))

-- the class of that number stands behind the others
abbrev pub IsAddedTo : List Added → Program → ℕ → List (List ℕ) → List Added → Type 0
IsAddedTo old p c sparse new = IsSomeAnd (class_at p c) (λ d. new ≡ old ++ added_in p sparse d ∷ [])

-- a file of at most 16 MiB can have the classes: each instruction has a form for the indices that it has there, and each list of
-- handlers a place that 16 bits tell
abbrev pub TheyFit : List Added → Type 0
TheyFit es = IsSomeAnd (tables_of es) (λ t. IsShort t × PlacesFit t)

-- the bytes are those of the tables of the classes
abbrev pub IsFileOf : List Added → List ℕ → Type 0
IsFileOf es file = IsSomeAnd (tables_of es) (λ t. file ≡ image t)
