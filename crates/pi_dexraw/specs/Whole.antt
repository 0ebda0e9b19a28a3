-- A file that was tested, and what is known of its strings.
use Rattle.std.specs.Prelude.{◌≡◌, ◌≤◌, ℕ, List, length, codes, None}
use Rattle.pi_model.specs.Texts.{same_text}
use Rattle.pi_bytes.specs.Numbers.{most_bytes}
use Rattle.pi_format.specs.Tables.{count_at, string_ids}
use Rattle.pi_format.specs.Rules.{broken_tables_rule}
use Rattle.pi_format.specs.Rules.Strings.{string_units}
use Rattle.pi_dexids.specs.Facts.{AreFacts}
use Rattle.pi_dexraw.specs.declared.known.Known.{Known}

-- which of the texts that rules ask for this is
abbrev pub known_text : List ℕ → Known
known_text text = record {
  is_constructor = same_text (codes "<init>") text;
  is_initialiser = same_text (codes "<clinit>") text;
  is_string_type = same_text (codes "Ljava/lang/String;") text;
  is_class_type = same_text (codes "Ljava/lang/Class;") text;
}

-- of a string
unfoldable pub known_of : List ℕ → ℕ → Known
known_of file i = known_text (string_units file i)

-- no rule from X1 to X17 is broken, an offset is a number of 32 bits, and each string is known
pub record IsRaw (file : List ℕ) (known : List Known) : Type 0 where
  pub small : length file ≤ most_bytes
  pub kept : broken_tables_rule file ≡ None
  pub known_texts : AreFacts (known_of file) (count_at file string_ids) known
