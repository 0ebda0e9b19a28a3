-- What an answer says where rules are asked one after the other.
use Rattle.std.specs.Prelude.{◌≡◌, List, ℕ, Option, Some, None, Result, Ok, Err}
use Rattle.pi_format.specs.Rules.{Broken, broken_or}
use Rattle.pi_format.specs.Rules.Header.{broken_length, broken_magic, broken_order, broken_header_size, broken_file_size, broken_checksum, broken_signature, broken_tables, broken_data}
use Rattle.pi_format.specs.Rules.Map.{broken_map}
use Rattle.pi_format.specs.Rules.Strings.{broken_strings, broken_string_order, broken_types}
use Rattle.pi_format.specs.Rules.Members.{broken_protos, broken_fields, broken_methods}
use Rattle.pi_format.specs.Rules.Classes.{broken_classes}
use Rattle.pi_dexraw.specs.declared.fault.DexFault.{DexFault}
use Rattle.pi_dexraw.specs.declared.fault.DexFault.TheVariants.{OutOfMemory, Rule}

-- Ok says that what comes later decides, a rule that it is the first broken one whatever comes later; a want of memory
-- says nothing.
abbrev pub Asks : {A : Type 0} → (Option Broken → Option Broken) → Result A DexFault → Type 0
Asks rules (Ok x) = (later : Option Broken) → rules later ≡ later
Asks rules (Err (Rule rule at)) = (later : Option Broken) → rules later ≡ Some (record { rule = rule; at = at })
Asks rules (Err OutOfMemory) = Unit {0}

-- Ok says that no rule is broken, a rule that it is the one that is told; a want of memory says nothing
abbrev pub Tells : {A : Type 0} → Option Broken → Result A DexFault → Type 0
Tells broken (Ok x) = broken ≡ None
Tells broken (Err (Rule rule at)) = broken ≡ Some (record { rule = rule; at = at })
Tells broken (Err OutOfMemory) = Unit {0}

-- rules X1 to X5, X6 to X9, X10 to X13, X14 and X15, X16 and X17 before what comes later
unfoldable pub header_rules : List ℕ → Option Broken → Option Broken
header_rules file later =
    broken_or 1 (broken_length file) (broken_or 2 (broken_magic file) (broken_or 3 (broken_order file) (broken_or 4 (broken_header_size file)
    (broken_or 5 (broken_file_size file) later))))

unfoldable pub sum_rules : List ℕ → Option Broken → Option Broken
sum_rules file later =
    broken_or 6 (broken_checksum file) (broken_or 7 (broken_signature file) (broken_or 8 (broken_tables file) (broken_or 9 (broken_data file) later)))

unfoldable pub string_rules : List ℕ → Option Broken → Option Broken
string_rules file later =
    broken_or 10 (broken_map file) (broken_or 11 (broken_strings file) (broken_or 12 (broken_string_order file) (broken_or 13 (broken_types file) later)))

unfoldable pub id_rules : List ℕ → Option Broken → Option Broken
id_rules file later = broken_or 14 (broken_protos file) (broken_or 15 (broken_fields file) later)

unfoldable pub class_rules : List ℕ → Option Broken → Option Broken
class_rules file later = broken_or 16 (broken_methods file) (broken_or 17 (broken_classes file) later)
