-- A worked program run three ways: lazily; with its held classes inside; and from what initialising ahead of time leaves.
use Rattle.std.proofs.Common.{Some, None, ◌≡◌, List, [], ◌∷◌, Option, refl}
use Rattle.std.specs.Prelude.{codes, option_map}
use Rattle.pi_model.specs.declared.describe.Init.TheVariants.{Str}
use Rattle.pi_model.specs.declared.insn.Insn.TheVariants.{Const, ConstString, Sget, Sput, ReturnVoid, If}
use Rattle.pi_model.specs.declared.insn.Cond.TheVariants.{Ne}
use Rattle.pi_model.specs.declared.insn.Access.TheVariants.{Ref}
use Rattle.pi_model.specs.Program.{Program, with_file}
use Rattle.pi_machine.specs.Ends.{Setting, Finish, Returned, EndsWith, EndsOf}
use Rattle.pi_machine.proofs.Examples.{Same, outcome}
use Rattle.pi_machine.proofs.Sample.{chain, class, object, own, string, static_field, field, clinit_method, code, field_ref, print, limits, finish, main_method}
use Rattle.pi_attempt.specs.Fold.{Line, Held, Progress, preinitialise, held_classes, setting_after}
use Rattle.pi_attempt.proofs.Helpers.{line, reports}

-- A has a static text "hi"; the initialiser of B, in a later file, puts the literal "hi" into its own; main prints 1 where
-- the two are one object
abbrev texts : Program
texts =
    with_file (chain (codes "LA;" ∷ codes "s" ∷ codes "hi" ∷ codes "LB;" ∷ codes "t" ∷ codes "LM;" ∷ [])
    (class 1 (own 0) 1 (Some object) [] (field (own 1) string 8 (Str (own 2)) ∷ []) [] ∷ [])) [] []
    (class 2 (own 3) 1 (Some object) [] (static_field (own 4) string ∷ [])
    (clinit_method (code 1 0 (ConstString 0 (own 2) ∷ Sput Ref 0 (field_ref (own 3) (own 4) string) ∷ ReturnVoid ∷ []) []) ∷ [])
    ∷ class 2 (own 5) 1 (Some object) [] []
    (main_method (Const 2 1 ∷ Sget Ref 0 (field_ref (own 0) (own 1) string) ∷ Sget Ref 1 (field_ref (own 3) (own 4) string)
    ∷ If Ne 0 1 7 ∷ print 2 ∷ ReturnVoid ∷ []) [] ∷ [])
    ∷ [])

abbrev lines : List Line
lines = line 1 [] ∷ line 100 (29 ∷ []) ∷ line 100 (30 ∷ []) ∷ []

both_held : Same (reports texts lines (Held 3 ∷ Held 7 ∷ []) ∷ [])
unfolding reports
both_held = refl

held : option_map (held_classes texts) (preinitialise texts lines) ≡ Some (29 ∷ 30 ∷ [])
unfolding outcome
held = refl

-- the run from the start with no class held: 20 steps, of which ten initialise the two classes
lazily : EndsWith texts (limits 100 1000 1000) 13 [] (finish Returned (codes "1\n") 20)
unfolding outcome
lazily = (100, refl)

-- an end of a run under the setting that initialising ahead of time gives
EndsInside : Option Progress → (Progress → Setting → Finish → Type 0) → Type 0
EndsInside (Some w) ends = ends w (setting_after texts w 10 16 13) (finish Returned (codes "1\n") 10)
EndsInside None ends = ⊥

-- with the two held, ten steps are outside, and no byte beside the array of arguments is counted
inside : EndsInside (preinitialise texts lines) (λ w given f. EndsWith texts given 13 [] f)
unfolding outcome EndsInside
inside = (100, refl)

-- and so it ends from the state that is left, with no class held
from_images : EndsInside (preinitialise texts lines) (λ w given f. EndsOf texts (record given { held = [] }) w.state 13 [] f)
unfolding outcome EndsInside
from_images = (100, refl)
