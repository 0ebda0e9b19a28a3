-- What the format gives of each class that a file says, where the file is a list of bytes.
use Rattle.std.proofs.Common.{◌≡◌, ℕ, zero, suc, ◌+◌, ◌<◌, ◌==◌, List, [], ◌∷◌, map, Some, None, Bool, true, false, if◌then◌else◌, refl, arith}
use Rattle.std.specs.Prelude.{nat_lt, slice_index}
use Rattle.std.specs.List.{list_all, All}
use Rattle.std.proofs.lemmas.Bool.Decides.{nat_tests}
use Rattle.std.proofs.lemmas.List.{get_or-drop}
use Rattle.pi_model.specs.declared.describe.MethodDesc.{MethodDesc}
use Rattle.pi_model.specs.Program.{Program}
use Rattle.pi_bytes.specs.Numbers.{half_at}
use Rattle.pi_format.specs.Tables.{count_at, class_defs}
use Rattle.pi_format.specs.Rules.Lowest.{tabulation}
use Rattle.pi_format.specs.Rules.Rows.{MemberRow}
use Rattle.pi_format.specs.Rules.ClassData.{rows_of, methods_in}
use Rattle.pi_format.specs.Says.{named_file}
use Rattle.pi_format.specs.Says.Names.{Named}
use Rattle.pi_format.specs.Says.Classes.{classes_said, class_desc, method_desc}
use Rattle.pi_format.specs.Says.Codes.{code_at}
use Rattle.pi_format.specs.Says.Facts.{few_registers, IsOfFile}
use Rattle.pi_format.proofs.Every.{all_nothing, all_more}

-- a number of 16 bits
pub half_small : (file : List ℕ) (at : ℕ) → ((k : ℕ) → slice_index file k < 256) → half_at file at < 65536
half_small file at below =
    rw (get_or-drop at file 0 0, get_or-drop at file 1 0) (omega (arith, below (at + 0), below (at + 1)))

holds_lt : (a b : ℕ) → a < b → nat_lt a b ≡ true
holds_lt a b h = grind (arith, nat_tests)

code_is_small : (n : Named) (at : ℕ) → ((k : ℕ) → slice_index n.file k < 256) → nat_lt (code_at n at).regs 65536 ≡ true
unfolding code_at
code_is_small n at below = holds_lt (half_at n.file at) 65536 (half_small n.file at below)

by_place : (zero_place : Bool) (n : Named) (at : ℕ) → ((k : ℕ) → slice_index n.file k < 256)
    → few_registers (if zero_place then None else Some (code_at n at)) ≡ true
by_place true n at below = refl
by_place false n at below = code_is_small n at below

said_small : (n : Named) (rows : List MemberRow) → ((k : ℕ) → slice_index n.file k < 256)
    → list_all (λ (m : MethodDesc). few_registers m.code) (map (method_desc n) rows) ≡ true
said_small n [] below = refl
said_small n (row ∷ rows) below = rw (by_place (row.code == 0) n row.code below) (said_small n rows below)

class_facts : (n : Named) (number i : ℕ) → ((k : ℕ) → slice_index n.file k < 256) → IsOfFile number (class_desc n number i)
unfolding class_desc
class_facts n number i below = record { file = refl; registers = said_small n (methods_in (rows_of n.file i)) below }

each_class : (n : Named) (number i count : ℕ) → ((k : ℕ) → slice_index n.file k < 256) → All (IsOfFile number) (tabulation (class_desc n number) i count)
each_class n number i zero below = all_nothing (IsOfFile number)
each_class n number i (suc count) below =
    all_more (IsOfFile number) (class_desc n number i) (tabulation (class_desc n number) (i + 1) count) (class_facts n number i below) (each_class n number (i + 1) count below)

pub classes_are_of_file : (p : Program) (file : List ℕ) (number : ℕ) → ((k : ℕ) → slice_index file k < 256) → All (IsOfFile number) (classes_said (named_file p file) number)
classes_are_of_file p file number below = each_class (named_file p file) number 0 (count_at file class_defs) below
