-- Worked refusals: the reason of a step and its first refused act, and deeds of which no step has both.
use Rattle.std.proofs.Common.{Option, Bool, Some, None, List, [], ◌∷◌, false, true, refl}
use Rattle.pi_model.specs.Known.{descriptor_of}
use Rattle.pi_model.specs.Values.{Word}
use Rattle.pi_machine.specs.State.{State}
use Rattle.pi_machine.specs.Deeds.{Deed, SetStatic, Jump}
use Rattle.pi_machine.specs.Acts.{acts}
use Rattle.pi_machine.specs.Start.{first_state}
use Rattle.pi_machine.proofs.Examples.{Same}
use Rattle.pi_attempt.specs.Watch.{Why, EarlierImage, OtherStatics, Steps, reason}
use Rattle.pi_attempt.specs.Laws.{refusal, first_refusal}
use Rattle.pi_attempt.proofs.Images.{a_and_b}

-- A is class 29 of file 1 with field 1, B class 30 of file 2 with field 2, M class 31 of file 2
abbrev before : State
before = first_state a_and_b

-- in the attempt of M, B's static is written
abbrev writes_b : List Deed
writes_b = SetStatic 2 (Word 1) ∷ Jump 2 ∷ []

-- A step that wrote statics of B and then of A would have another reason than its first refused act. There is none, since a
-- step writes statics of one class.
abbrev writes_both : List Deed
writes_both = SetStatic 2 (Word 1) ∷ SetStatic 1 (Word 1) ∷ Jump 2 ∷ []

abbrev first_refused : Bool → List Deed → Option Why
first_refused spent deeds = first_refusal (refusal 31 2 spent) (acts a_and_b before deeds)

reasons_and_refusals : Same (
    (reason a_and_b 31 2 false before writes_b, Some (OtherStatics 30))
    ∷ (first_refused false writes_b, Some (OtherStatics 30))
    -- where nothing else is refused it is the turn, once the budget is spent
    ∷ (first_refused true (Jump 2 ∷ []), Some Steps)
    ∷ (first_refused false (Jump 2 ∷ []), None)
    ∷ (reason a_and_b 31 2 false before writes_both, Some (EarlierImage 60))
    ∷ (first_refused false writes_both, Some (OtherStatics 30))
    ∷ [])
unfolding descriptor_of
reasons_and_refusals = refl
