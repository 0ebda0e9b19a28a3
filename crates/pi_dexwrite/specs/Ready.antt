-- What the tables of classes are made of.
use Rattle.std.specs.Prelude.{◌≡◌, ℕ, ◌<◌, ◌^◌, List, length, map, IsTrue}
use Rattle.std.specs.List.{All, Contains}
use Rattle.pi_dextables.specs.declared.tables.Class.{Class}
use Rattle.pi_dextables.specs.declared.tables.Tables.{Tables}
use Rattle.pi_dextables.specs.Writable.{IsHalf}
use Rattle.pi_contents.specs.Naming.{named_by_class}
use Rattle.pi_classtables.specs.Numbers.{index_of}
use Rattle.pi_classtables.specs.Spelled.{IsSpelled}
use Rattle.pi_classtables.specs.Whole.{Added, is_counted, pools_for, tables_with}
use Rattle.pi_dexpools.specs.declared.gathered.Gathered.{Gathered}
use Rattle.pi_dexpools.specs.declared.gathered.Ranks.{Ranks}
use Rattle.pi_dexpools.specs.Ranked.{numbering, number_of, ranks_of}
use Rattle.pi_dexnumbers.specs.declared.tables.Numbered.{Numbered}
use Rattle.pi_dexwrite.specs.declared.part.Part.{Part}
use Rattle.pi_dexwrite.specs.Held.{added_by}

-- a file can say the class of a part
abbrev pub PartSpelled : Part → Type 0
PartSpelled p = IsSpelled (added_by p)

-- a part's class is one of the classes, and its places have the numbers of what the class names among all
pub record IsReady (es : List Added) (ranks : Ranks) (p : Part) : Type 0 where
  pub counted : IsTrue (is_counted (pools_for es))
  pub among : Contains es (added_by p)
  pub numbered : map (number_of ranks) p.places ≡ map (index_of (pools_for es)) (named_by_class (added_by p).class)

-- the tables with the rows of classes
abbrev pub with_classes : Numbered → List Class → Tables
with_classes n classes = record {
  strings = n.strings;
  types = n.types;
  protos = n.protos;
  fields = n.fields;
  methods = n.methods;
  classes = classes;
}

-- strings, fields and methods are counted by 32 bits
pub record AreCounted (n : Numbered) : Type 0 where
  pub strings : length n.strings < 2 ^ 32
  pub fields : length n.fields < 2 ^ 32
  pub methods : length n.methods < 2 ^ 32

-- the tables of what is gathered, and the number of each thing
pub record AreNumbered (g : Gathered) (n : Numbered) : Type 0 where
  pub tables : (classes : List Class) → with_classes n classes ≡ tables_with (numbering g) classes
  pub ranks : n.ranks ≡ ranks_of g
  pub halves : All (λ (s : List ℕ). All IsHalf s) n.strings
  pub counted : AreCounted n
