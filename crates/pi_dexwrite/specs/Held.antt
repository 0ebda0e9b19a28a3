-- How a builder holds classes.
use Rattle.std.specs.Prelude.{◌≡◌, ◌&&◌, nat_le, List, [], ◌∷◌, length, map, IsTrue, Bool}
use Rattle.std.specs.List.{All}
use Rattle.pi_model.specs.Uses.{class_below}
use Rattle.pi_contents.specs.Naming.{named_by, named_by_class}
use Rattle.pi_classtables.specs.Spelled.{IsSpelled}
use Rattle.pi_classtables.specs.Sized.{IsSized}
use Rattle.pi_classtables.specs.Whole.{Added, classes_added}
use Rattle.pi_dexpools.specs.declared.gathered.Counts.{Counts}
use Rattle.pi_dexpools.specs.declared.gathered.Gathered.{Gathered}
use Rattle.pi_dexpools.specs.Gathered.{nothing_gathered, counts_of, gathered, places_of}
use Rattle.pi_dexwrite.specs.declared.part.Part.{Part}
use Rattle.pi_dexwrite.specs.Built.{added_in}

-- the class of a part
abbrev pub added_by : Part → Added
added_by p = added_in p.prog.now p.sparse p.class.now

abbrev pub all_added : List Part → List Added
all_added parts = map added_by parts

-- the names that a part's class uses are those of its program
abbrev pub PartNamed : Part → Type 0
PartNamed p = IsTrue (class_below (length p.prog.now.names) p.class.now)

-- each part has the places of what its class names, gathered behind what the parts before it name
abbrev pub ArePlaced : Gathered → List Part → Type 0
ArePlaced g [] = Unit {0}
ArePlaced g (p ∷ ps) =
    (p.places ≡ places_of g (named_by_class (added_by p).class)) × ArePlaced (gathered g (named_by_class (added_by p).class)) ps

-- types and prototypes are counted by 16 bits
abbrev pub are_few : Counts → Bool
are_few c = nat_le c.types 65535 && nat_le c.protos 65535

-- the pools are what the classes name, a class uses names of its program, a file can say it, its numbers fit their types, and
-- types and prototypes are counted by 16 bits
pub record AreHeld (parts : List Part) (pools : Gathered) : Type 0 where
  pub whole : pools ≡ gathered nothing_gathered (named_by (classes_added (all_added parts)))
  pub placed : ArePlaced nothing_gathered parts
  pub named : All PartNamed parts
  pub spelled : All IsSpelled (all_added parts)
  pub sized : All IsSized (classes_added (all_added parts))
  pub few : IsTrue (are_few (counts_of pools))
