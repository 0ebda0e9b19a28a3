-- The laws of the machine, as statements.
use Rattle.std.specs.Prelude.{◌≡◌, ◌↔◌, ℕ, List, ◌++◌, Some}
use Rattle.pi_model.specs.Program.{Program}
use Rattle.pi_machine.specs.State.{State}
use Rattle.pi_machine.specs.Ends.{Setting, Tally, Finish, Moment, moment_after, EndsFrom, EndsWith}

-- a run from a state has one end at most: one way of ending, one output, one number of counted steps
abbrev pub EndIsUnique : Type 0
EndIsUnique = (p : Program) (given : Setting) (s : State) (t : Tally) (f g : Finish)
    → EndsFrom p given s t f → EndsFrom p given s t g → f ≡ g

-- and so has a run from the start
abbrev pub RunEndIsUnique : Type 0
RunEndIsUnique = (p : Program) (given : Setting) (main : ℕ) (args : List (List ℕ)) (f g : Finish)
    → EndsWith p given main args f → EndsWith p given main args g → f ≡ g

-- what was printed by any moment of a run is a front of its output at the end
abbrev pub OutputGrows : Type 0
OutputGrows = (p : Program) (given : Setting) (n : ℕ) (s : State) (t : Tally) (m : Moment) (f : Finish)
    → moment_after p given n s t ≡ Some m → EndsFrom p given s t f
    → (rest : List ℕ) × (m.state.output ++ rest ≡ f.output)

-- from any moment of a run on it ends so exactly where it ends so from its beginning
abbrev pub EndStays : Type 0
EndStays = (p : Program) (given : Setting) (n : ℕ) (s : State) (t : Tally) (m : Moment) (f : Finish)
    → moment_after p given n s t ≡ Some m → (EndsFrom p given m.state m.tally f ↔ EndsFrom p given s t f)
