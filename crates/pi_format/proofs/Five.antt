-- A worked file: the class LT; with a field x that its initialiser sets to 5, and a main that prints it.
use Rattle.std.proofs.Common.{ℕ, List, [], ◌∷◌, Some}
use Rattle.pi_model.specs.declared.describe.ClassDesc.{ClassDesc}
use Rattle.pi_model.specs.declared.describe.Code.{Code}
use Rattle.pi_model.specs.declared.describe.Line.{Line}
use Rattle.pi_model.specs.declared.describe.Init.TheVariants.{Zero}
use Rattle.pi_model.specs.declared.insn.Insn.{Insn}
use Rattle.pi_model.specs.declared.insn.Insn.TheVariants.{Const, Sget, Sput, ReturnVoid, Invoke}
use Rattle.pi_model.specs.declared.insn.Access.TheVariants.{Plain}
use Rattle.pi_model.specs.declared.insn.How.TheVariants.{Static}
use Rattle.pi_model.specs.declared.insn.FieldRef.{FieldRef}
use Rattle.pi_model.specs.declared.insn.MethodRef.{MethodRef}
use Rattle.pi_format.specs.Core.{name_no, object_name, out_name, strings_name, void_name, int_name, print_name, main_name, clinit_name}

unfoldable pub five_bytes : List ℕ
five_bytes =
    100 ∷ 101 ∷ 120 ∷ 10 ∷ 48 ∷ 51 ∷ 53 ∷ 0 ∷ 15 ∷ 69 ∷ 21 ∷ 75 ∷ 100 ∷ 229 ∷ 32 ∷ 64 ∷
    81 ∷ 181 ∷ 78 ∷ 104 ∷ 221 ∷ 158 ∷ 148 ∷ 34 ∷ 166 ∷ 158 ∷ 117 ∷ 164 ∷ 187 ∷ 251 ∷ 137 ∷ 43 ∷
    100 ∷ 2 ∷ 0 ∷ 0 ∷ 112 ∷ 0 ∷ 0 ∷ 0 ∷ 120 ∷ 86 ∷ 52 ∷ 18 ∷ 0 ∷ 0 ∷ 0 ∷ 0 ∷
    0 ∷ 0 ∷ 0 ∷ 0 ∷ 208 ∷ 1 ∷ 0 ∷ 0 ∷ 12 ∷ 0 ∷ 0 ∷ 0 ∷ 112 ∷ 0 ∷ 0 ∷ 0 ∷
    6 ∷ 0 ∷ 0 ∷ 0 ∷ 160 ∷ 0 ∷ 0 ∷ 0 ∷ 3 ∷ 0 ∷ 0 ∷ 0 ∷ 184 ∷ 0 ∷ 0 ∷ 0 ∷
    1 ∷ 0 ∷ 0 ∷ 0 ∷ 220 ∷ 0 ∷ 0 ∷ 0 ∷ 3 ∷ 0 ∷ 0 ∷ 0 ∷ 228 ∷ 0 ∷ 0 ∷ 0 ∷
    1 ∷ 0 ∷ 0 ∷ 0 ∷ 252 ∷ 0 ∷ 0 ∷ 0 ∷ 72 ∷ 1 ∷ 0 ∷ 0 ∷ 28 ∷ 1 ∷ 0 ∷ 0 ∷
    94 ∷ 1 ∷ 0 ∷ 0 ∷ 104 ∷ 1 ∷ 0 ∷ 0 ∷ 107 ∷ 1 ∷ 0 ∷ 0 ∷ 112 ∷ 1 ∷ 0 ∷ 0 ∷
    132 ∷ 1 ∷ 0 ∷ 0 ∷ 142 ∷ 1 ∷ 0 ∷ 0 ∷ 145 ∷ 1 ∷ 0 ∷ 0 ∷ 149 ∷ 1 ∷ 0 ∷ 0 ∷
    153 ∷ 1 ∷ 0 ∷ 0 ∷ 174 ∷ 1 ∷ 0 ∷ 0 ∷ 180 ∷ 1 ∷ 0 ∷ 0 ∷ 187 ∷ 1 ∷ 0 ∷ 0 ∷
    1 ∷ 0 ∷ 0 ∷ 0 ∷ 2 ∷ 0 ∷ 0 ∷ 0 ∷ 3 ∷ 0 ∷ 0 ∷ 0 ∷ 4 ∷ 0 ∷ 0 ∷ 0 ∷
    5 ∷ 0 ∷ 0 ∷ 0 ∷ 8 ∷ 0 ∷ 0 ∷ 0 ∷ 5 ∷ 0 ∷ 0 ∷ 0 ∷ 4 ∷ 0 ∷ 0 ∷ 0 ∷
    0 ∷ 0 ∷ 0 ∷ 0 ∷ 6 ∷ 0 ∷ 0 ∷ 0 ∷ 4 ∷ 0 ∷ 0 ∷ 0 ∷ 80 ∷ 1 ∷ 0 ∷ 0 ∷
    7 ∷ 0 ∷ 0 ∷ 0 ∷ 4 ∷ 0 ∷ 0 ∷ 0 ∷ 88 ∷ 1 ∷ 0 ∷ 0 ∷ 1 ∷ 0 ∷ 0 ∷ 0 ∷
    11 ∷ 0 ∷ 0 ∷ 0 ∷ 1 ∷ 0 ∷ 0 ∷ 0 ∷ 0 ∷ 0 ∷ 0 ∷ 0 ∷ 1 ∷ 0 ∷ 2 ∷ 0 ∷
    9 ∷ 0 ∷ 0 ∷ 0 ∷ 3 ∷ 0 ∷ 1 ∷ 0 ∷ 10 ∷ 0 ∷ 0 ∷ 0 ∷ 1 ∷ 0 ∷ 0 ∷ 0 ∷
    1 ∷ 0 ∷ 0 ∷ 0 ∷ 2 ∷ 0 ∷ 0 ∷ 0 ∷ 0 ∷ 0 ∷ 0 ∷ 0 ∷ 255 ∷ 255 ∷ 255 ∷ 255 ∷
    0 ∷ 0 ∷ 0 ∷ 0 ∷ 190 ∷ 1 ∷ 0 ∷ 0 ∷ 0 ∷ 0 ∷ 0 ∷ 0 ∷ 1 ∷ 0 ∷ 0 ∷ 0 ∷
    0 ∷ 0 ∷ 0 ∷ 0 ∷ 0 ∷ 0 ∷ 0 ∷ 0 ∷ 4 ∷ 0 ∷ 0 ∷ 0 ∷ 18 ∷ 80 ∷ 103 ∷ 0 ∷
    0 ∷ 0 ∷ 14 ∷ 0 ∷ 2 ∷ 0 ∷ 1 ∷ 0 ∷ 1 ∷ 0 ∷ 0 ∷ 0 ∷ 0 ∷ 0 ∷ 0 ∷ 0 ∷
    6 ∷ 0 ∷ 0 ∷ 0 ∷ 96 ∷ 0 ∷ 0 ∷ 0 ∷ 113 ∷ 16 ∷ 2 ∷ 0 ∷ 0 ∷ 0 ∷ 14 ∷ 0 ∷
    1 ∷ 0 ∷ 0 ∷ 0 ∷ 0 ∷ 0 ∷ 0 ∷ 0 ∷ 1 ∷ 0 ∷ 0 ∷ 0 ∷ 5 ∷ 0 ∷ 8 ∷ 60 ∷
    99 ∷ 108 ∷ 105 ∷ 110 ∷ 105 ∷ 116 ∷ 62 ∷ 0 ∷ 1 ∷ 73 ∷ 0 ∷ 3 ∷ 76 ∷ 84 ∷ 59 ∷ 0 ∷
    18 ∷ 76 ∷ 106 ∷ 97 ∷ 118 ∷ 97 ∷ 47 ∷ 108 ∷ 97 ∷ 110 ∷ 103 ∷ 47 ∷ 79 ∷ 98 ∷ 106 ∷ 101 ∷
    99 ∷ 116 ∷ 59 ∷ 0 ∷ 8 ∷ 76 ∷ 112 ∷ 105 ∷ 47 ∷ 79 ∷ 117 ∷ 116 ∷ 59 ∷ 0 ∷ 1 ∷ 86 ∷
    0 ∷ 2 ∷ 86 ∷ 73 ∷ 0 ∷ 2 ∷ 86 ∷ 76 ∷ 0 ∷ 19 ∷ 91 ∷ 76 ∷ 106 ∷ 97 ∷ 118 ∷ 97 ∷
    47 ∷ 108 ∷ 97 ∷ 110 ∷ 103 ∷ 47 ∷ 83 ∷ 116 ∷ 114 ∷ 105 ∷ 110 ∷ 103 ∷ 59 ∷ 0 ∷ 4 ∷ 109 ∷
    97 ∷ 105 ∷ 110 ∷ 0 ∷ 5 ∷ 112 ∷ 114 ∷ 105 ∷ 110 ∷ 116 ∷ 0 ∷ 1 ∷ 120 ∷ 0 ∷ 1 ∷ 0 ∷
    2 ∷ 0 ∷ 0 ∷ 8 ∷ 0 ∷ 136 ∷ 128 ∷ 4 ∷ 156 ∷ 2 ∷ 1 ∷ 9 ∷ 180 ∷ 2 ∷ 0 ∷ 0 ∷
    12 ∷ 0 ∷ 0 ∷ 0 ∷ 0 ∷ 0 ∷ 0 ∷ 0 ∷ 1 ∷ 0 ∷ 0 ∷ 0 ∷ 0 ∷ 0 ∷ 0 ∷ 0 ∷
    1 ∷ 0 ∷ 0 ∷ 0 ∷ 12 ∷ 0 ∷ 0 ∷ 0 ∷ 112 ∷ 0 ∷ 0 ∷ 0 ∷ 2 ∷ 0 ∷ 0 ∷ 0 ∷
    6 ∷ 0 ∷ 0 ∷ 0 ∷ 160 ∷ 0 ∷ 0 ∷ 0 ∷ 3 ∷ 0 ∷ 0 ∷ 0 ∷ 3 ∷ 0 ∷ 0 ∷ 0 ∷
    184 ∷ 0 ∷ 0 ∷ 0 ∷ 4 ∷ 0 ∷ 0 ∷ 0 ∷ 1 ∷ 0 ∷ 0 ∷ 0 ∷ 220 ∷ 0 ∷ 0 ∷ 0 ∷
    5 ∷ 0 ∷ 0 ∷ 0 ∷ 3 ∷ 0 ∷ 0 ∷ 0 ∷ 228 ∷ 0 ∷ 0 ∷ 0 ∷ 6 ∷ 0 ∷ 0 ∷ 0 ∷
    1 ∷ 0 ∷ 0 ∷ 0 ∷ 252 ∷ 0 ∷ 0 ∷ 0 ∷ 1 ∷ 32 ∷ 0 ∷ 0 ∷ 2 ∷ 0 ∷ 0 ∷ 0 ∷
    28 ∷ 1 ∷ 0 ∷ 0 ∷ 1 ∷ 16 ∷ 0 ∷ 0 ∷ 2 ∷ 0 ∷ 0 ∷ 0 ∷ 80 ∷ 1 ∷ 0 ∷ 0 ∷
    2 ∷ 32 ∷ 0 ∷ 0 ∷ 12 ∷ 0 ∷ 0 ∷ 0 ∷ 94 ∷ 1 ∷ 0 ∷ 0 ∷ 0 ∷ 32 ∷ 0 ∷ 0 ∷
    1 ∷ 0 ∷ 0 ∷ 0 ∷ 190 ∷ 1 ∷ 0 ∷ 0 ∷ 0 ∷ 16 ∷ 0 ∷ 0 ∷ 1 ∷ 0 ∷ 0 ∷ 0 ∷
    208 ∷ 1 ∷ 0 ∷ 0 ∷ []

unfoldable pub line : ℕ → ℕ → Insn → Line
line at units insn = record { at = at; units = units; insn = insn }

unfoldable pub x_field : FieldRef
x_field = record { class = name_no 8; name = name_no 11; ty = int_name }

unfoldable pub print_ref : MethodRef
print_ref = record { class = out_name; name = print_name; params = int_name ∷ []; ret = void_name }

unfoldable pub clinit_code : Code
clinit_code = record {
  regs = 1;
  ins = 0;
  outs = 0;
  units = 4;
  tries = [];
  insns = line 0 1 (Const 0 5) ∷ line 1 2 (Sput Plain 0 x_field) ∷ line 3 1 ReturnVoid ∷ [];
}

unfoldable pub main_code : Code
main_code = record {
  regs = 2;
  ins = 1;
  outs = 1;
  units = 6;
  tries = [];
  insns = line 0 2 (Sget Plain 0 x_field) ∷ line 2 3 (Invoke Static print_ref (0 ∷ [])) ∷ line 5 1 ReturnVoid ∷ [];
}

unfoldable pub five_class : ClassDesc
five_class = record {
  file = record { 0 = 1 };
  name = name_no 8;
  flags = 1;
  parent = Some object_name;
  faces = [];
  fields = record { name = name_no 11; ty = int_name; flags = 8; init = Zero } ∷ [];
  methods =
      record { name = clinit_name; params = []; ret = void_name; flags = 0x10008; code = Some clinit_code }
      ∷ record { name = main_name; params = strings_name ∷ []; ret = void_name; flags = 9; code = Some main_code } ∷ [];
}
