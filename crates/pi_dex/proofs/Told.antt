-- Which broken rule is told, by the answers of its parts.
use Rattle.std.proofs.Common.{◌≡◌, ℕ, ◌+◌, ◌^◌, ◌<◌, ◌≤◌, List, length, Option, None, ap, ◌∙◌, arith}
use Rattle.std.specs.Prelude.{Result, Ok, Err}
use Rattle.pi_model.specs.Program.{Program}
use Rattle.pi_bytes.specs.Numbers.{most_bytes}
use Rattle.pi_format.specs.Tables.{count_at, string_ids}
use Rattle.pi_format.specs.Rules.{Broken, or_else, broken_tables_rule, broken_content_rule, broken_rule}
use Rattle.pi_format.specs.Says.{HasRoom}
use Rattle.pi_format.specs.Says.Names.{texts_of, name_numbers}
use Rattle.pi_format.specs.Rules.Strings.{string_units}
use Rattle.pi_format.proofs.Held.{rule_parts, tables_hold}
use Rattle.pi_said.proofs.Lists.{length-listed}
use Rattle.pi_said.proofs.Names.{length-numbers}
use Rattle.pi_said.proofs.Tables.{tables_lie}
use Rattle.pi_dexraw.specs.declared.fault.DexFault.{DexFault}
use Rattle.pi_dexraw.specs.declared.fault.DexFault.TheVariants.{OutOfMemory, Rule}
use Rattle.pi_dexraw.specs.Asked.{Asks, Tells}

pub all_kept : (file : List ℕ) → broken_tables_rule file ≡ None → broken_content_rule file ≡ None → broken_rule file ≡ None
all_kept file tables content = ap (λ (o : Option Broken). or_else o (broken_content_rule file)) tables ∙ content

-- a broken rule on tables is the first one of all
pub tables_told : (A B : Type 0) (file : List ℕ) (fault : DexFault) → Tells {A = A} (broken_tables_rule file) (Err fault) → Tells {A = B} (broken_rule file) (Err fault)
tables_told A B file OutOfMemory told = _
tables_told A B file (Rule rule at) told = ap (λ (o : Option Broken). or_else o (broken_content_rule file)) told

-- where the rules on tables hold, the others decide
pub raw_told : {A : Type 0} (file : List ℕ) (r : Result A DexFault) → broken_tables_rule file ≡ None → Tells (broken_content_rule file) r → Tells (broken_rule file) r
raw_told file r kept told = rw kept told

-- a rule that is asked last is told
pub last_told : {A : Type 0} (rules : Option Broken → Option Broken) (r : Result A DexFault) → Asks rules r → Tells (rules None) r
last_told rules (Ok x) asks = asks None
last_told rules (Err OutOfMemory) asks = _
last_told rules (Err (Rule rule at)) asks = asks None

-- there is room for the names of a file behind those that there are
pub names_fit : (p : Program) (file : List ℕ) → HasRoom p → length p.files < 8 → length file ≤ most_bytes → broken_rule file ≡ None
    → length p.names + count_at file string_ids < 2 ^ 32
names_fit p file room files few kept =
    let lie = tables_lie file (tables_hold file (rule_parts file kept).0).tables in
    omega (arith, room.names, files, few, lie.strings)

-- each string has a number
pub all_numbered : (names : List (List ℕ)) (file : List ℕ) → length (name_numbers names file) ≡ count_at file string_ids
all_numbered names file = length-numbers names (length names) (texts_of file) ∙ length-listed (string_units file) 0 (count_at file string_ids)
