-- Worked chains of three files: what belongs to an earlier image, and literals that two files share.
use Rattle.std.proofs.Common.{Some, None, ℕ, List, [], ◌∷◌, false, refl}
use Rattle.std.specs.Prelude.{codes}
use Rattle.pi_model.specs.declared.insn.Insn.TheVariants.{Const, Sget, Sput, ReturnVoid}
use Rattle.pi_model.specs.declared.insn.Access.TheVariants.{Plain}
use Rattle.pi_model.specs.Program.{Program, with_file}
use Rattle.pi_model.specs.Values.{Word, Array}
use Rattle.pi_machine.specs.State.{State, Made}
use Rattle.pi_machine.specs.Deeds.{Writes, SetItem, Jump}
use Rattle.pi_machine.specs.Start.{first_state}
use Rattle.pi_machine.specs.Ends.{Returned}
use Rattle.pi_machine.proofs.Examples.{Same, outcome, Outcomes, ends_with}
use Rattle.pi_machine.proofs.Sample.{chain, class, object, own, int, static_field, clinit_method, code, field_ref, print, limits, finish, main_method}
use Rattle.pi_attempt.specs.Watch.{EarlierImage, reason}
use Rattle.pi_attempt.specs.Fold.{Line, Held, Lazy}
use Rattle.pi_attempt.proofs.Helpers.{line, reports}

-- file 1 has A with x, file 2 has B whose initialiser writes A.x, and main prints A.x after a use of B
abbrev pub a_and_b : Program
a_and_b =
    with_file (chain (codes "LA;" ∷ codes "LB;" ∷ codes "x" ∷ codes "y" ∷ []) (class 1 (own 0) 1 (Some object) [] (static_field (own 2) int ∷ []) [] ∷ []))
    (codes "LM;" ∷ []) []
    (class 2 (own 1) 1 (Some object) [] (static_field (own 3) int ∷ [])
    (clinit_method (code 1 0 (Const 0 1 ∷ Sput Plain 0 (field_ref (own 0) (own 2) int) ∷ ReturnVoid ∷ []) []) ∷ [])
    ∷ class 2 (own 4) 1 (Some object) [] []
    (main_method (Sget Plain 0 (field_ref (own 1) (own 3) int) ∷ Sget Plain 0 (field_ref (own 0) (own 2) int) ∷ print 0 ∷ ReturnVoid ∷ []) [] ∷ [])
    ∷ [])

abbrev a_b_lines : List Line
a_b_lines = line 1 [] ∷ line 100 (29 ∷ []) ∷ line 100 (30 ∷ []) ∷ []

-- the static of a class of an earlier file is not written
writes_earlier_static : Same (reports a_and_b a_b_lines (Held 3 ∷ Lazy (EarlierImage 60) ∷ []) ∷ [])
unfolding reports
writes_earlier_static = refl

-- an array that the image of a file holds
abbrev holding : ℕ → State
holding file = record (first_state a_and_b) { things = Made (Some file) (Array 36 (Word 0 ∷ [])) ∷ [] }

-- the reason of a step of the attempt of B that writes it
writes_object : Same (
    -- one that an earlier image holds is not written
    (reason a_and_b 30 2 false (holding 1) (Writes 0 ∷ SetItem 0 0 (Word 7) ∷ Jump 1 ∷ []), Some (EarlierImage 36))
    -- one of the same image may be written
    ∷ (reason a_and_b 30 2 false (holding 2) (Writes 0 ∷ SetItem 0 0 (Word 7) ∷ Jump 1 ∷ []), None)
    -- a write of no element counts as a write
    ∷ (reason a_and_b 30 2 false (holding 1) (Writes 0 ∷ Jump 1 ∷ []), Some (EarlierImage 36))
    ∷ [])
unfolding outcome
writes_object = refl

-- the initialiser of B runs at its first use and writes A.x
prints_one : Outcomes (ends_with a_and_b (limits 100 1000 1000) 13 [] (finish Returned (codes "1\n") 18) ∷ [])
unfolding outcome
prints_one = refl
