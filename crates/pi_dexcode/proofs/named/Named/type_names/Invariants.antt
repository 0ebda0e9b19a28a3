use Rattle.std.proofs.Common.{◌≡◌, ◌++◌, drop, map}
use Rattle.pi_format.specs.Says.Names.{type_name}
use Rattle.pi_dexcode.proofs.named.Named.type_names.Given as goal

abbrev pub invariant-loop-i : goal.invariant-loop-i
invariant-loop-i l = l.names.items ++ map (type_name l.self) (drop l.i l.types) ≡ map (type_name l.self) l.types
