-- A worked program: the initialiser of LT; sets its field x to 5, and main prints it. Its run has 11 steps: enter, static
-- values, call, three instructions, finish, start, three instructions.
use Rattle.std.proofs.Common.{Some, None, ◌≡◌, ℕ, List, [], ◌∷◌, Some, None, refl}
use Rattle.std.specs.Prelude.{codes}
use Rattle.pi_model.specs.declared.describe.ClassDesc.{ClassDesc}
use Rattle.pi_model.specs.declared.describe.Code.{Code}
use Rattle.pi_model.specs.declared.describe.Line.{Line}
use Rattle.pi_model.specs.declared.insn.Insn.{Insn}
use Rattle.pi_model.specs.declared.insn.Insn.TheVariants.{Const, Sget, Sput, ReturnVoid, Invoke}
use Rattle.pi_model.specs.declared.insn.Access.TheVariants.{Plain}
use Rattle.pi_model.specs.declared.insn.How.TheVariants.{Static}
use Rattle.pi_model.specs.declared.insn.FieldRef.{FieldRef}
use Rattle.pi_model.specs.Program.{Program, no_files, with_file}
use Rattle.pi_machine.specs.Start.{is_main, main_of}
use Rattle.pi_machine.proofs.Examples.{Run, outcome, Outcomes, ends_with}
use Rattle.pi_machine.proofs.Sample.{no, class, method, static_field, static_native, field_ref, method_ref, limits, finish}
use Rattle.pi_machine.specs.Ends.{Setting, End, Returned, StepLimit, HeapLimit, FrameLimit}

line : ℕ → ℕ → Insn → Line
line at units insn = record { at = at; units = units; insn = insn }

x_field : FieldRef
x_field = field_ref (no 8) (no 9) (no 4)

clinit_code : ℕ → Code
unfolding line
clinit_code literal = record {
  regs = 1;
  ins = 0;
  outs = 0;
  units = 4;
  tries = [];
  insns = line 0 1 (Const 0 literal) ∷ line 1 2 (Sput Plain 0 x_field) ∷ line 3 1 ReturnVoid ∷ [];
}

main_code : Code
unfolding line
main_code = record {
  regs = 2;
  ins = 1;
  outs = 1;
  units = 6;
  tries = [];
  insns = line 0 2 (Sget Plain 0 x_field) ∷ line 2 3 (Invoke Static (method_ref (no 1) (no 5) (no 4 ∷ []) (no 3)) (0 ∷ [])) ∷ line 5 1 ReturnVoid ∷ [];
}

main_class : ℕ → ClassDesc
unfolding clinit_code main_code
main_class literal =
    class 1 (no 8) 1 (Some (no 0)) [] (static_field (no 9) (no 4) ∷ [])
    (method (no 7) [] (no 3) 0x10008 (Some (clinit_code literal)) ∷ method (no 6) (no 2 ∷ []) (no 3) 9 (Some main_code) ∷ [])

core_names : List (List ℕ)
core_names =
    codes "Ljava/lang/Object;" ∷ codes "Lpi/Out;" ∷ codes "[Ljava/lang/String;" ∷ codes "V" ∷ codes "I"
    ∷ codes "print" ∷ codes "main" ∷ codes "<clinit>" ∷ []

five : ℕ → Program
unfolding x_field main_class core_names
five literal =
    with_file
    (with_file no_files core_names (no 0 ∷ no 1 ∷ no 2 ∷ no 3 ∷ no 4 ∷ [])
    (class 0 (no 0) 1 None [] [] [] ∷ class 0 (no 1) 1 (Some (no 0)) [] [] (static_native 5 (no 4 ∷ []) (no 3) ∷ []) ∷ []))
    (codes "LT;" ∷ codes "x" ∷ []) (no 8 ∷ []) (main_class literal ∷ [])

-- the run of the program with a literal, for its third method, under these limits
abbrev runs : ℕ → Setting → End → List ℕ → ℕ → Run
runs literal given end output steps = ends_with (five literal) given 2 [] (finish end output steps)

runs_of_five : Outcomes (
    -- it prints 5 and a newline and returns after 11 steps
    runs 5 (limits 11 67108864 1048576) Returned (53 ∷ 10 ∷ []) 11
    -- with one step less it has printed all of it and meets the limit
    ∷ runs 5 (limits 10 67108864 1048576) StepLimit (53 ∷ 10 ∷ []) 10
    -- the print is the tenth step
    ∷ runs 5 (limits 9 67108864 1048576) StepLimit [] 9
    -- with no step nothing happens
    ∷ runs 5 (limits 0 67108864 1048576) StepLimit [] 0
    -- a literal of all ones prints as -1
    ∷ runs 4294967295 (limits 11 67108864 1048576) Returned (45 ∷ 49 ∷ 10 ∷ []) 11
    -- the empty array of arguments takes 16 bytes: they must fit
    ∷ runs 5 (limits 11 15 1048576) HeapLimit [] 0
    ∷ runs 5 (limits 11 16 1048576) Returned (53 ∷ 10 ∷ []) 11
    -- the frame of the initialiser takes five words and that of main six
    ∷ runs 5 (limits 11 16 4) FrameLimit [] 2
    ∷ runs 5 (limits 11 16 5) FrameLimit [] 7
    ∷ [])
unfolding outcome five
runs_of_five = refl

-- the run begins for the third method of the program
finds_main : main_of (five 5) (codes "LT;") ≡ Some 2
unfolding five is_main
finds_main = refl
