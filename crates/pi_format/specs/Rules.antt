-- Which rule a file breaks, and where: the broken rule with the lowest number, at its lowest place.
use Rattle.std.specs.Prelude.{ℕ, List, Option, Some, None}
use Rattle.pi_format.specs.Rules.Header.{broken_length, broken_magic, broken_order, broken_header_size, broken_file_size, broken_checksum, broken_signature, broken_tables, broken_data}
use Rattle.pi_format.specs.Rules.Map.{broken_map}
use Rattle.pi_format.specs.Rules.Strings.{broken_strings, broken_string_order, broken_types}
use Rattle.pi_format.specs.Rules.Members.{broken_protos, broken_fields, broken_methods}
use Rattle.pi_format.specs.Rules.Classes.{broken_classes}
use Rattle.pi_format.specs.Rules.ClassData.{broken_class_data}
use Rattle.pi_format.specs.Rules.Values.{broken_values}
use Rattle.pi_format.specs.Rules.CodeItems.{broken_code}
use Rattle.pi_format.specs.Rules.Pieces.{broken_walk, broken_index, broken_payload}
pub mod Entries
pub mod Header
pub mod Map
pub mod Descriptors
pub mod Strings
pub mod Members
pub mod Classes
pub mod Lowest
pub mod Rows
pub mod ClassData
pub mod Values
pub mod CodeItems
pub mod Pieces

-- a broken rule by its number, and the offset that is named with it
pub record Broken : Type 0 where
  pub rule : ℕ
  pub at : ℕ

-- a rule that is broken at a place, or else what the rules behind it say
abbrev pub broken_or : ℕ → Option ℕ → Option Broken → Option Broken
broken_or rule None later = later
broken_or rule (Some at) later = Some (record { rule = rule; at = at })

-- rules X1 to X17
unfoldable pub broken_tables_rule : List ℕ → Option Broken
broken_tables_rule file =
    broken_or 1 (broken_length file) (broken_or 2 (broken_magic file) (broken_or 3 (broken_order file) (broken_or 4 (broken_header_size file)
    (broken_or 5 (broken_file_size file) (broken_or 6 (broken_checksum file) (broken_or 7 (broken_signature file) (broken_or 8 (broken_tables file)
    (broken_or 9 (broken_data file) (broken_or 10 (broken_map file) (broken_or 11 (broken_strings file) (broken_or 12 (broken_string_order file)
    (broken_or 13 (broken_types file) (broken_or 14 (broken_protos file) (broken_or 15 (broken_fields file) (broken_or 16 (broken_methods file)
    (broken_or 17 (broken_classes file) None))))))))))))))))

-- rules X18 to X23, of a file whose tables hold
unfoldable pub broken_content_rule : List ℕ → Option Broken
broken_content_rule file =
    broken_or 18 (broken_class_data file) (broken_or 19 (broken_values file) (broken_or 20 (broken_code file) (broken_or 21 (broken_walk file)
    (broken_or 22 (broken_index file) (broken_or 23 (broken_payload file) None)))))

-- what rules on tables say, or else the rules on what they lead to
abbrev pub or_else : Option Broken → Option Broken → Option Broken
or_else None later = later
or_else (Some broken) later = Some broken

-- all rules, X1 to X23
abbrev pub broken_rule : List ℕ → Option Broken
broken_rule file = or_else (broken_tables_rule file) (broken_content_rule file)
