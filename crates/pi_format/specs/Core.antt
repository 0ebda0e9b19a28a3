-- The first file of the chain as long as the core library is not there: Object, and Out with its native print.
use Rattle.std.specs.Prelude.{ℕ, List, [], ◌∷◌, Some, None, codes}
use Rattle.pi_model.specs.declared.numbers.NameNo.{NameNo}
use Rattle.pi_model.specs.declared.describe.ClassDesc.{ClassDesc}
use Rattle.pi_model.specs.declared.describe.MethodDesc.{MethodDesc}
use Rattle.pi_model.specs.Program.{Program, no_files, with_file}

abbrev pub name_no : ℕ → NameNo
name_no n = record { 0 = n }

-- the names of that file, each with its number
abbrev pub object_name : NameNo
object_name = name_no 0

abbrev pub out_name : NameNo
out_name = name_no 1

abbrev pub strings_name : NameNo
strings_name = name_no 2

abbrev pub void_name : NameNo
void_name = name_no 3

abbrev pub int_name : NameNo
int_name = name_no 4

abbrev pub print_name : NameNo
print_name = name_no 5

abbrev pub main_name : NameNo
main_name = name_no 6

abbrev pub clinit_name : NameNo
clinit_name = name_no 7

unfoldable pub core_names : List (List ℕ)
core_names =
    codes "Ljava/lang/Object;" ∷ codes "Lpi/Out;" ∷ codes "[Ljava/lang/String;" ∷ codes "V" ∷ codes "I"
    ∷ codes "print" ∷ codes "main" ∷ codes "<clinit>" ∷ []

abbrev pub core_types : List NameNo
core_types = object_name ∷ out_name ∷ strings_name ∷ void_name ∷ int_name ∷ []

-- flags: public 0x1, static 0x8, native 0x100
abbrev pub object_class : ClassDesc
object_class = record {
  file = record { 0 = 0 };
  name = object_name;
  flags = 1;
  parent = None;
  faces = [];
  fields = [];
  methods = [];
}

abbrev pub print_method : MethodDesc
print_method = record {
  name = print_name;
  params = int_name ∷ [];
  ret = void_name;
  flags = 0x109;
  code = None;
}

abbrev pub out_class : ClassDesc
out_class = record {
  file = record { 0 = 0 };
  name = out_name;
  flags = 1;
  parent = Some object_name;
  faces = [];
  fields = [];
  methods = print_method ∷ [];
}

abbrev pub core_classes : List ClassDesc
core_classes = object_class ∷ out_class ∷ []

-- the chain of that file alone
abbrev pub core_program : Program
core_program = with_file no_files core_names core_types core_classes
