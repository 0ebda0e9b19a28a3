-- Worked examples of the method that a run begins for: which one is main, and where there is none.
use Rattle.std.proofs.Common.{Some, None, ℕ, List, [], ◌∷◌, ◌++◌, refl}
use Rattle.std.specs.Prelude.{codes}
use Rattle.pi_model.specs.declared.numbers.NameNo.{NameNo}
use Rattle.pi_model.specs.declared.describe.MethodDesc.{MethodDesc}
use Rattle.pi_model.specs.declared.insn.Insn.TheVariants.{ReturnVoid}
use Rattle.pi_model.specs.Known.{descriptor_of}
use Rattle.pi_model.specs.Program.{Program}
use Rattle.pi_machine.specs.Start.{is_main, main_of}
use Rattle.pi_machine.proofs.Examples.{Same}
use Rattle.pi_machine.proofs.Sample.{chain, class, object, strings, objects, int, void, main_name, method, main_method, code}
use Rattle.pi_machine.proofs.Layouts.{names, t, a, starts, shows, f_method}

-- T with some methods, from 12 on, and A below it with others
abbrev two_classes : List MethodDesc → List MethodDesc → Program
two_classes ms others = chain names (class 1 t 1 (Some object) [] [] ms ∷ class 1 a 1 (Some t) [] [] others ∷ [])

-- a method of that name with parameters, a result and flags, and with a code
abbrev like_main : List NameNo → NameNo → ℕ → MethodDesc
like_main params ret flags = method main_name params ret flags (code 1 1 (ReturnVoid ∷ []) [])

abbrev main_here : MethodDesc
main_here = main_method (shows 1) []

-- which method is main
mains : Same (
    -- main stands behind the initialiser and another method of its class
    (main_of (two_classes (starts (shows 1) ++ f_method (shows 2) ∷ main_here ∷ []) []) (codes "LT;"), Some 14)
    -- each class has its own
    ∷ (main_of (two_classes (main_here ∷ []) (f_method (shows 2) ∷ main_here ∷ [])) (codes "LA;"), Some 14)
    -- it is not inherited
    ∷ (main_of (two_classes (main_here ∷ []) []) (codes "LA;"), None)
    -- other parameters
    ∷ (main_of (two_classes (like_main [] void 9 ∷ []) []) (codes "LT;"), None)
    -- or types of them
    ∷ (main_of (two_classes (like_main (objects ∷ []) void 9 ∷ []) []) (codes "LT;"), None)
    -- or one more
    ∷ (main_of (two_classes (like_main (strings ∷ int ∷ []) void 9 ∷ []) []) (codes "LT;"), None)
    -- or a result do not make main
    ∷ (main_of (two_classes (like_main (strings ∷ []) int 9 ∷ []) []) (codes "LT;"), None)
    -- overloads before it are passed over
    ∷ (main_of (two_classes (like_main [] void 9 ∷ like_main (strings ∷ []) int 9 ∷ main_here ∷ []) []) (codes "LT;"), Some 14)
    -- it is static
    ∷ (main_of (two_classes (like_main (strings ∷ []) void 1 ∷ []) []) (codes "LT;"), None)
    -- but need not be public
    ∷ (main_of (two_classes (like_main (strings ∷ []) void 8 ∷ []) []) (codes "LT;"), Some 12)
    -- and has code
    ∷ (main_of (two_classes (method main_name (strings ∷ []) void 0x109 None ∷ []) []) (codes "LT;"), None)
    -- a class that is not there has none
    ∷ (main_of (two_classes (main_here ∷ []) []) (codes "LX;"), None)
    -- nor has a word that is no descriptor
    ∷ (main_of (two_classes (main_here ∷ []) []) (codes "T"), None)
    ∷ [])
unfolding descriptor_of is_main
mains = refl
