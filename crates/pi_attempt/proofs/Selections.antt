-- Worked selections: which classes are held after which number of steps, and why others are not.
use Rattle.std.proofs.Common.{Some, List, [], ◌∷◌, refl}
use Rattle.pi_model.specs.declared.insn.Insn.{Insn}
use Rattle.pi_model.specs.declared.insn.Insn.TheVariants.{Const, ReturnVoid, Return, Invoke, MoveResult, Binary, BinaryLit}
use Rattle.pi_model.specs.declared.insn.Arith.TheVariants.{Int}
use Rattle.pi_model.specs.declared.insn.BinOp.TheVariants.{Add, Div}
use Rattle.pi_model.specs.declared.insn.How.TheVariants.{Static}
use Rattle.pi_model.specs.declared.insn.Kind.TheVariants as kind
use Rattle.pi_model.specs.Program.{Program}
use Rattle.pi_machine.proofs.Examples.{Same}
use Rattle.pi_machine.proofs.Sample.{chain, class, object, own, no, int, static_field, method, clinit_method, code, method_ref, print}
use Rattle.pi_attempt.specs.Watch.{NeedsInit, OtherStatics, NativeCall, Steps, Uncaught}
use Rattle.pi_attempt.specs.Fold.{Held, Lazy}
use Rattle.pi_attempt.proofs.Helpers.{x, reports, line, second, names, with_x, plain_x, get_x, put_x, one, two}

-- a division by 0
abbrev divides : List Insn
divides = Const 0 0 ∷ Const 1 1 ∷ Binary (Int Div) 0 1 0 ∷ ReturnVoid ∷ []

-- one class alone
alone : Same (
    -- seven steps: enter, static values, call, three instructions, done
    reports (one (Const 0 5 ∷ put_x 0 0 ∷ ReturnVoid ∷ [])) (second 7 (29 ∷ [])) (Held 7 ∷ [])
    -- a budget of six does not suffice
    ∷ reports (one (Const 0 5 ∷ put_x 0 0 ∷ ReturnVoid ∷ [])) (second 6 (29 ∷ [])) (Lazy Steps ∷ [])
    -- a class without an initialiser takes three steps
    ∷ reports (chain names (plain_x 1 ∷ [])) (second 3 (29 ∷ [])) (Held 3 ∷ [])
    -- a start class is done already
    ∷ reports (one (ReturnVoid ∷ [])) (line 100 (0 ∷ []) ∷ line 100 [] ∷ []) (Held 0 ∷ [])
    -- a native that prints is not called
    ∷ reports (one (Const 0 3 ∷ print 0 ∷ ReturnVoid ∷ [])) (second 100 (29 ∷ [])) (Lazy (NativeCall 6) ∷ [])
    -- a throwable reaches the record in the eighth step, which a budget of seven does not allow
    ∷ reports (one divides) (second 8 (29 ∷ [])) (Lazy (Uncaught 8) ∷ [])
    ∷ reports (one divides) (second 7 (29 ∷ [])) (Lazy Steps ∷ [])
    ∷ [])
unfolding reports
alone = refl

-- C needs D, which is selected after it
abbrev calls_f : List Insn
calls_f = Invoke Static (method_ref (own 1) (own 4) [] int) [] ∷ MoveResult kind.Word 0 ∷ put_x 0 0 ∷ ReturnVoid ∷ []

abbrev retried : Program
retried = chain names (with_x 0 calls_f ∷ class 1 (own 1) 1 (Some object) [] [] (method (own 4) [] int 9 (code 1 0 (Const 0 4 ∷ Return kind.Word 0 ∷ []) []) ∷ []) ∷ [])

-- Q below P, each of which needs the other
abbrev circle : Program
circle = chain names (
    class 1 (own 2) 1 (Some object) [] (static_field (no x) int ∷ [])
    (clinit_method (code 1 0 (get_x 0 3 ∷ BinaryLit Add 0 0 1 ∷ put_x 0 2 ∷ ReturnVoid ∷ []) []) ∷ [])
    ∷ class 1 (own 3) 1 (Some (own 2)) [] (static_field (no x) int ∷ []) (clinit_method (code 1 0 (Const 0 5 ∷ put_x 0 3 ∷ ReturnVoid ∷ []) []) ∷ [])
    ∷ [])

-- more than one class
of_two : Same (
    -- another class of the file that is not selected would be entered
    reports (two (get_x 0 1 ∷ ReturnVoid ∷ [])) (second 100 (29 ∷ [])) (Lazy (NeedsInit 30) ∷ [])
    -- the statics of a class that is held already are not read
    ∷ reports (two (get_x 0 1 ∷ ReturnVoid ∷ [])) (second 100 (30 ∷ 29 ∷ [])) (Held 3 ∷ Lazy (OtherStatics 30) ∷ [])
    -- nor written
    ∷ reports (two (Const 0 5 ∷ put_x 0 1 ∷ ReturnVoid ∷ [])) (second 100 (30 ∷ 29 ∷ [])) (Held 3 ∷ Lazy (OtherStatics 30) ∷ [])
    -- D is held first, and C by its second run
    ∷ reports retried (second 100 (29 ∷ 30 ∷ [])) (Held 10 ∷ Held 3 ∷ [])
    -- in a circle neither is held
    ∷ reports circle (second 100 (30 ∷ 29 ∷ [])) (Lazy (NeedsInit 29) ∷ Lazy (NeedsInit 30) ∷ [])
    ∷ [])
unfolding reports
of_two = refl
