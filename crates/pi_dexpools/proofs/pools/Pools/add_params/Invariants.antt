use Rattle.std.proofs.Common.{◌≡◌, ◌++◌, drop}
use Rattle.std.specs.Prelude.{map}
use Rattle.pi_contents.specs.Named.{text_in}
use Rattle.pi_dexpools.specs.Gathered.{with_types, type_place, IsGrown}
use Rattle.pi_dexpools.proofs.pools.Pools.add_params.Given as goal

-- the end is that of all parameters, whose places are those that they have there
abbrev pub invariant-loop-i : goal.invariant-loop-i
invariant-loop-i l = record {
  gathered : with_types l.self (map (text_in l.prog) (drop l.i l.params)) ≡ with_types l.fn.self (map (text_in l.prog) l.params);
  places :
      l.places ++ map (type_place (with_types l.fn.self (map (text_in l.prog) l.params))) (map (text_in l.prog) (drop l.i l.params))
      ≡ map (type_place (with_types l.fn.self (map (text_in l.prog) l.params))) (map (text_in l.prog) l.params);
  grown : IsGrown l.fn.self l.self;
}
