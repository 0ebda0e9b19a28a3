use Rattle.std.proofs.Common.{◌≡◌, ◌++◌, drop, map}
use Rattle.pi_format.specs.Says.Codes.{typed_catch}
use Rattle.pi_dexcode.proofs.codes.add_all_typed.Given as goal

abbrev pub invariant-loop-i : goal.invariant-loop-i
invariant-loop-i l = l.tries ++ map (typed_catch l.names l.range) (drop l.i l.typed) ≡ l.fn.tries ++ map (typed_catch l.names l.range) l.typed
