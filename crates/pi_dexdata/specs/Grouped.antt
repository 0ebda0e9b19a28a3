-- From the entries of a handler table, with the numbers of the types that they catch, to ranges with their handlers.
use Rattle.std.specs.Prelude.{ℕ, ◌==◌, ◌&&◌, List, [], ◌∷◌, ◌++◌, Option, Some, None, if◌then◌else◌}
use Rattle.std.specs.List.{flat_map}
use Rattle.pi_model.specs.declared.describe.Catch.{Catch as Entry}
use Rattle.pi_model.specs.declared.numbers.NameNo.{NameNo}
use Rattle.pi_dextables.specs.declared.tables.Catch.{Catch}
use Rattle.pi_dextables.specs.declared.tables.Catches.{Catches}
use Rattle.pi_classtables.specs.Ranges.{Group}

-- a range whose handlers so far each catch a type
pub record Begun : Type 0 where
  pub from : ℕ
  pub to : ℕ
  pub typed : List Catch

-- the range with these handlers alone, and one that catches the rest or none
abbrev pub closed : Begun → Option ℕ → Group
closed b last = record { from = b.from; to = b.to; catches = record { typed = b.typed; last = last } }

-- a range that has begun before others: it goes on in the first of them, where that one is the same range
abbrev pub before : Begun → List Group → List Group
before b [] = closed b None ∷ []
before b (g ∷ gs) =
    if (g.from == b.from) && (g.to == b.to)
    then record { from = b.from; to = b.to; catches = record { typed = b.typed ++ g.catches.typed; last = g.catches.last } } ∷ gs
    else closed b None ∷ g ∷ gs

abbrev pub maybe_before : Option Begun → List Group → List Group
maybe_before None groups = groups
maybe_before (Some b) groups = before b groups

-- an entry before ranges: its range, its handler, and the number of the type that it catches
abbrev pub with_number : ℕ → ℕ → ℕ → Option ℕ → List Group → List Group
with_number from to at None groups = record { from = from; to = to; catches = record { typed = []; last = Some at } } ∷ groups
with_number from to at (Some n) groups = before (record { from = from; to = to; typed = record { ty = n; to = at } ∷ [] }) groups

-- the number of the type of an entry is the first of the numbers, where it catches one
abbrev pub number_for : Option NameNo → List ℕ → Option ℕ
number_for None numbers = None
number_for (Some t) [] = Some 0
number_for (Some t) (n ∷ numbers) = Some n

abbrev pub numbers_behind : Option NameNo → List ℕ → List ℕ
numbers_behind None numbers = numbers
numbers_behind (Some t) [] = []
numbers_behind (Some t) (n ∷ numbers) = numbers

-- the ranges of entries
abbrev pub grouped : List Entry → List ℕ → List Group
grouped [] numbers = []
grouped (c ∷ cs) numbers = with_number c.from c.to c.at (number_for c.ty numbers) (grouped cs (numbers_behind c.ty numbers))

-- a list of handlers as numbers: type and place of each one that catches a type, and the place of the one that catches the rest
abbrev pub last_number : Option ℕ → List ℕ
last_number None = []
last_number (Some to) = to ∷ []

abbrev pub catch_numbers : Catch → List ℕ
catch_numbers h = h.ty ∷ h.to ∷ []

abbrev pub spelled : Catches → List ℕ
spelled l = flat_map catch_numbers l.typed ++ last_number l.last
