-- Helpers for worked selections: image lines, classes with one static int, and what is reported.
use Rattle.std.proofs.Common.{Some, ℕ, List, [], ◌∷◌, map, Option}
use Rattle.std.specs.Prelude.{codes, option_map}
use Rattle.pi_model.specs.declared.describe.ClassDesc.{ClassDesc}
use Rattle.pi_model.specs.declared.insn.Insn.{Insn}
use Rattle.pi_model.specs.declared.insn.Insn.TheVariants.{Sget, Sput}
use Rattle.pi_model.specs.declared.insn.Access.TheVariants.{Plain}
use Rattle.pi_model.specs.Dispatch.{is_virtual}
use Rattle.pi_model.specs.Known.{descriptor_of}
use Rattle.pi_model.specs.Program.{Program}
use Rattle.pi_machine.specs.Initialisation.{is_clinit}
use Rattle.pi_machine.specs.Natives.{native_table}
use Rattle.pi_machine.proofs.Sample.{chain, class, object, own, no, int, static_field, clinit_method, code, field_ref}
use Rattle.pi_attempt.specs.Fold.{Line, Verdict, preinitialise, report}

-- the name of the field x
abbrev pub x : ℕ
x = 68

abbrev pub line : ℕ → List ℕ → Line
line budget selected = record { budget = budget; selected = selected }

-- the verdicts on the selected classes, in order, and what they are to be
unfoldable pub reports : Program → List Line → List Verdict → Option (List (Option Verdict)) × Option (List (Option Verdict))
unfolding descriptor_of native_table is_virtual is_clinit
reports p lines verdicts = (option_map (report lines) (preinitialise p lines), Some (map Some verdicts))

-- nothing of the first file is selected; the classes of the second file are numbered from 29 on
abbrev pub second : ℕ → List ℕ → List Line
second budget selected = line 100 [] ∷ line budget selected ∷ []

-- names of the second file, from 60 on: four classes, a method and a field
abbrev pub names : List (List ℕ)
names = codes "LC;" ∷ codes "LD;" ∷ codes "LP;" ∷ codes "LQ;" ∷ codes "f" ∷ codes "g" ∷ codes "h" ∷ codes "k" ∷ codes "x" ∷ codes "hi" ∷ []

-- a class of the second file below Object, with a static int x and an initialiser of these instructions, or with none
abbrev pub with_x : ℕ → List Insn → ClassDesc
with_x i insns = class 1 (own i) 1 (Some object) [] (static_field (no x) int ∷ []) (clinit_method (code 2 0 insns []) ∷ [])

abbrev pub plain_x : ℕ → ClassDesc
plain_x i = class 1 (own i) 1 (Some object) [] (static_field (no x) int ∷ []) []

-- read and write the field x of a class of the second file
abbrev pub get_x : ℕ → ℕ → Insn
get_x a i = Sget Plain a (field_ref (own i) (no x) int)

abbrev pub put_x : ℕ → ℕ → Insn
put_x a i = Sput Plain a (field_ref (own i) (no x) int)

-- the chain of the first file and one class, or two of which the second has no initialiser
abbrev pub one : List Insn → Program
one insns = chain names (with_x 0 insns ∷ [])

abbrev pub two : List Insn → Program
two insns = chain names (with_x 0 insns ∷ plain_x 1 ∷ [])
