-- What calls that name things make of the pools, and of the places that were told before.
use Rattle.std.specs.Prelude.{◌≡◌, List, ◌∷◌, ◌++◌, map, flat_map, Result, OnOk}
use Rattle.pi_contents.specs.Contents.{Naming, OfType, ClassContent}
use Rattle.pi_contents.specs.Naming.{named_by_type, named_by_field, named_by_method}
use Rattle.pi_dexpools.specs.declared.gathered.Gathered.{Gathered}
use Rattle.pi_dexpools.specs.declared.gathered.Place.{Place}
use Rattle.pi_dexpools.specs.Gathered.{gathered, places_of, IsGrown}

-- a call with that result names these things: they are gathered, and their places stand behind those that were told before
pub record Names {A E : Type 0} (result : Result A E) (old : Gathered) (before : List Place) (new : Gathered) (after : List Place) (ns : List Naming) : Type 0 where
  pub pools : OnOk result (new ≡ gathered old ns)
  pub places : OnOk result (after ≡ before ++ places_of old ns)
  pub grown : IsGrown old new

-- what the heading of a class names: its own type, its superclass and its interfaces; and what its members name
abbrev pub named_by_heading : ClassContent → List Naming
named_by_heading c = OfType c.name ∷ (named_by_type c.parent ++ map OfType c.faces)

abbrev pub named_by_members : ClassContent → List Naming
named_by_members c = flat_map (named_by_field c.name) c.fields ++ flat_map (named_by_method c.name) c.methods
