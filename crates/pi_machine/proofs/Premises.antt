-- Worked instances in which the premises of the laws hold, and in which they fail. Those of laws about steps stand in
-- ActExamples, those about sound states in SoundExamples, those about rest in Rests.
use Rattle.std.proofs.Common.{◌≡◌, Some, None, ℕ, zero, suc, List, [], ◌∷◌, length, slice_get, true, refl}
use Rattle.pi_model.specs.declared.reason.ClassState.TheVariants.{InProgress}
use Rattle.pi_model.specs.declared.insn.Insn.TheVariants.{Nop, Const}
use Rattle.pi_model.specs.Known.{descriptor_of}
use Rattle.pi_model.specs.Program.{all_fields}
use Rattle.pi_model.specs.Values.{Num, Word, At, Text}
use Rattle.pi_machine.specs.State.{State, Thing, Made, Touched, Record, Running}
use Rattle.pi_machine.specs.Deeds.{Jump}
use Rattle.pi_machine.specs.Rows.{row}
use Rattle.pi_machine.specs.Operands.{with_ref}
use Rattle.pi_machine.specs.Start.{first_state, start_state}
use Rattle.pi_machine.specs.Ends.{Tally, Finish, Returned, end_of, run_by, moment_after, EndsFrom}
use Rattle.pi_machine.specs.StepLaws.{RecordsRun}
use Rattle.pi_machine.proofs.Sample.{core, wide, finish, standing, with_things}

-- nothing was counted yet
abbrev no_tally : Tally
no_tally = record { steps = 0; bytes = 0; literals = [] }

-- main was called, and has returned
abbrev returned : State
returned = record (start_state core 6 []) { started = true }

-- a run that ends, within one step and not within none; and a state from which none ends, since nothing is there to run
ends : EndsFrom core wide returned no_tally (finish Returned [] 0)
ends = (1, refl)

within_one : run_by core wide 1 returned no_tally ≡ Some (finish Returned [] 0)
within_one = refl

within_none : run_by core wide 0 returned no_tally ≡ None
within_none = refl

never_ends : (f : Finish) → ¬ EndsFrom core wide (first_state core) no_tally f
never_ends f x = by_count x.0 x.1
  where
    by_count : (n : ℕ) → run_by core wide n (first_state core) no_tally ≡ Some f → ⊥
    by_count zero e = cc
    by_count (suc n) e = cc

-- a moment of a run, and none
begins : moment_after core wide 0 (first_state core) no_tally ≡ Some (record { state = first_state core; tally = no_tally })
begins = refl

goes_no_further : moment_after core wide 1 (first_state core) no_tally ≡ None
goes_no_further = refl

-- a state that is ended, and one that rests and is not
is_ended : end_of core returned ≡ Some Returned
is_ended = refl

not_ended : end_of core (first_state core) ≡ None
not_ended = refl

-- the records run, and do not: a class with a record is fresh, or has two records
records_run : RecordsRun (record (first_state core) { statuses = InProgress ∷ []; stack = Record 0 Running ∷ [] })
records_run = (refl, refl, tt)

fresh_record : ¬ RecordsRun (record (first_state core) { stack = Record 26 Running ∷ [] })
unfolding descriptor_of
fresh_record r = let x = r.0 in cc

two_records : ¬ RecordsRun (record (first_state core) { statuses = InProgress ∷ []; stack = Record 0 Running ∷ Record 0 Running ∷ [] })
two_records r = let x = r.1 in cc

-- a row that does something, and one that is stuck
row_goes : row core (first_state core) (standing []) 1 Nop ≡ Some (Jump 1 ∷ [])
row_goes = refl

row_sticks : row core (first_state core) (standing []) 1 (Const 0 5) ≡ None
row_sticks = refl

-- as many statics as fields, and fewer
full_statics : length (first_state core).statics ≡ all_fields core
full_statics = refl

few_statics : (length (record (first_state core) { statics = [] }).statics ≡ all_fields core) → ⊥
few_statics e = cc

-- a thing at a place, and none
abbrev things : List Thing
things = Made None (Text []) ∷ Touched None 1 ∷ []

thing_there : slice_get things 1 ≡ Some (Touched None 1)
thing_there = refl

thing_past : slice_get things 2 ≡ None
thing_past = refl

-- a reference operand: null and a thing, and a number and the place of a touched literal, which are none
null_goes : with_ref (with_things core things) (Some (Word 0)) (Some []) (λ r. Some []) ≡ Some []
null_goes = refl

thing_goes : with_ref (with_things core things) (Some (At (Num 0))) (Some []) (λ r. Some []) ≡ Some []
thing_goes = refl

number_sticks : with_ref (with_things core things) (Some (Word 7)) (Some []) (λ r. Some []) ≡ None
number_sticks = refl

touched_sticks : with_ref (with_things core things) (Some (At (Num 1))) (Some []) (λ r. Some []) ≡ None
touched_sticks = refl
