use Rattle.std.proofs.Common.{◌≡◌, map, drop}
use Rattle.std.specs.List.{list_all}
use Rattle.pi_contents.specs.Named.{method_content}
use Rattle.pi_classtables.specs.Whole.{methods_with}
use Rattle.pi_dexdata.specs.Numbers.{no_text}
use Rattle.pi_dexspelled.specs.Tests.{method_laid}
use Rattle.pi_dexspelled.proofs.codes.are_methods_laid.Given as goal

abbrev pub invariant-loop-method : goal.invariant-loop-method
invariant-loop-method l =
    list_all method_laid (methods_with (map (method_content no_text) (drop l.method-index l.methods)) l.rest)
    ≡ list_all method_laid (methods_with (map (method_content no_text) l.methods) l.sparse)
