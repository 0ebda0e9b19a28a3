-- Which methods of the class of a small file are main and the initialiser.
use Rattle.std.specs.Prelude.{◌≡◌, find, List, Option, Some, IfSome, IsSome}
use Rattle.pi_model.specs.declared.numbers.NameNo.{NameNo}
use Rattle.pi_model.specs.declared.describe.ClassDesc.{ClassDesc}
use Rattle.pi_model.specs.declared.describe.MethodDesc.{MethodDesc}
use Rattle.pi_model.specs.Program.{Program, same_name}
use Rattle.pi_model.specs.Search.{class_at}
use Rattle.pi_format.specs.Core.{main_name, clinit_name}
use Rattle.pi_machine.specs.Codes.{code_in}
use Rattle.pi_top.specs.Plain.{View}

-- the first method of a name
abbrev pub method_named : NameNo → List MethodDesc → Option MethodDesc
method_named n methods = find (λ (m : MethodDesc). same_name m.name n) methods

-- the view is that of the third class of the program: its codes are those of main and of the initialiser
pub record SeesClass (p : Program) (v : View) : Type 0 where
  pub class : class_at p 2 ≡ Some v.class
  pub main : code_in (method_named main_name v.class.methods) ≡ Some v.main
  pub clinit : code_in (method_named clinit_name v.class.methods) ≡ v.clinit

-- the third class of the program has a method main with code
abbrev pub HasMain : Program → Type 0
HasMain p = IfSome (class_at p 2) (λ (d : ClassDesc). IsSome (code_in (method_named main_name d.methods)))
