-- The worked file: what a lazy run of it owes is 5 and a newline, and the line on 11 steps. That the file breaks no rule
-- is a premise, since its signature is not computed here. And what an empty file owes.
use Rattle.std.proofs.Common.{◌≡◌, ℕ, List, [], ◌∷◌, Some, None, Option, true, false, refl, if◌then◌else◌, subst, sym, ap, length}
use Rattle.std.specs.Prelude.{codes, nat_lt}
use Rattle.std.specs.Fmt.{digits}
use Rattle.pi_base.specs.declared.status.Status.TheVariants.{Done, Missing, Steps, Dex}
use Rattle.pi_model.specs.Known.{descriptor_of}
use Rattle.pi_model.specs.Program.{Program, with_file}
use Rattle.pi_bytes.specs.Numbers.{most_bytes}
use Rattle.pi_format.specs.Core.{name_no, core_names, core_program, int_name, object_name, out_name, void_name, strings_name}
use Rattle.pi_format.specs.Rules.{Broken, broken_rule, broken_tables_rule}
use Rattle.pi_format.specs.Says.{with_said}
use Rattle.pi_format.proofs.Five.{five_bytes, five_class, line, x_field, print_ref, clinit_code, main_code}
use Rattle.pi_format.proofs.Said.{five_is_said}
use Rattle.pi_machine.specs.Natives.{native_table}
use Rattle.pi_machine.specs.Initialisation.{is_clinit}
use Rattle.pi_machine.specs.Start.{is_main}
use Rattle.pi_machine.specs.Ends.{Returned, StepLimit}
use Rattle.pi_duty.specs.Small.{is_small}
use Rattle.pi_duty.specs.Words.{LazyWords, same_word}
use Rattle.pi_base.specs.Views.{Contents}
use Rattle.pi_duty.specs.Duty.{Owed, Owes, LengthOwes, FileOwes, refusal}

-- what the file says behind the first file
five : Program
five = with_file core_program (codes "LT;" ∷ codes "VI" ∷ codes "VL" ∷ codes "x" ∷ [])
    (int_name ∷ name_no 8 ∷ object_name ∷ out_name ∷ void_name ∷ strings_name ∷ []) (five_class ∷ [])

five_is_small : is_small (codes "LT;") five ≡ true
unfolding five five_class line x_field print_ref clinit_code main_code core_names is_small
five_is_small = refl

no_other_is : is_small (codes "LU;") five ≡ false
unfolding five five_class line x_field print_ref clinit_code main_code core_names is_small
no_other_is = refl

lazy : ℕ → LazyWords
lazy steps = record { file = codes "five.dex"; main = codes "LT;"; steps = steps }

done : Owed
done = record { status = Done; output = codes "5\n"; lines = codes "made 11 steps\n"; writes = [] }

limited : Owed
limited = record { status = Steps; output = codes "5\n"; lines = codes "limit steps\nmade 10 steps\n"; writes = [] }

runs_five : FileOwes (lazy 11) None five done
unfolding lazy done five five_class line x_field print_ref clinit_code main_code core_names is_small native_table descriptor_of is_clinit is_main digits
runs_five = (record { end = Returned; output = codes "5\n"; steps = 11 }, ((12, refl), refl))

runs_ten : FileOwes (lazy 10) None five limited
unfolding lazy limited five five_class line x_field print_ref clinit_code main_code core_names is_small native_table descriptor_of is_clinit is_main digits
runs_ten = (record { end = StepLimit; output = codes "5\n"; steps = 10 }, ((11, refl), refl))

-- a store that has the file alone
contents : Contents
contents name = if same_word name (codes "five.dex") then Some five_bytes else None

words : List ℕ → List (List ℕ)
words steps = codes "lazy" ∷ codes "five.dex" ∷ codes "LT;" ∷ steps ∷ []

short : nat_lt most_bytes (length five_bytes) ≡ false
unfolding five_bytes
short = refl

says_five : with_said core_program five_bytes ≡ five
unfolding five
says_five = five_is_said

-- what is owed of the program is owed of the bytes
by_bytes : (l : LazyWords) (o : Owed) → broken_rule five_bytes ≡ None → FileOwes l None five o → LengthOwes (nat_lt most_bytes (length five_bytes)) l five_bytes o
by_bytes l o kept due =
    let said : FileOwes l None (with_said core_program five_bytes) o = subst (λ (p : Program). FileOwes l None p o) (sym says_five) due in
    let ruled : FileOwes l (broken_rule five_bytes) (with_said core_program five_bytes) o = subst (λ (b : Option Broken). FileOwes l b (with_said core_program five_bytes) o) (sym kept) said in
    subst (λ long. LengthOwes long l five_bytes o) (sym short) ruled

prints_five : broken_rule five_bytes ≡ None → Owes (words (codes "11")) contents done
unfolding words contents lazy
prints_five kept = by_bytes (lazy 11) done kept runs_five

stops_at_ten : broken_rule five_bytes ≡ None → Owes (words (codes "10")) contents limited
unfolding words contents lazy
stops_at_ten kept = by_bytes (lazy 10) limited kept runs_ten

-- an empty file breaks the first rule
nothing : Contents
nothing name = Some []

refuses_nothing : Owes (words (codes "10")) nothing (refusal Dex (codes "dex five.dex: rule 1 at 0\n"))
unfolding words nothing broken_tables_rule digits
refuses_nothing = refl

-- and it owes nothing else
owes_no_other : ¬ Owes (words (codes "10")) nothing (refusal Missing (codes "missing five.dex\n"))
unfolding words nothing broken_tables_rule digits
owes_no_other e = let x = ap (λ (o : Owed). o.lines) e in cc
