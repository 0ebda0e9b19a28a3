-- The texts of the names of a file that breaks no rule: those of strings and types, and what entries of its tables name.
use Rattle.std.proofs.Common.{◌≡◌, ℕ, ◌<◌, List, [], map, Bool, true, Option, None, ap}
use Rattle.std.specs.Prelude.{nat_lt, unwrap_or}
use Rattle.std.specs.List.{list_all}
use Rattle.std.proofs.lemmas.Bool.{ltb-true}
use Rattle.pi_model.specs.declared.numbers.NameNo.{NameNo}
use Rattle.pi_model.specs.Program.{Program}
use Rattle.pi_format.specs.Tables.{count_at, string_ids, type_ids}
use Rattle.pi_format.specs.Rules.{broken_rule}
use Rattle.pi_format.specs.Rules.Strings.{string_units, type_string, type_units}
use Rattle.pi_format.specs.Says.{named_file, with_said}
use Rattle.pi_format.specs.Says.Names.{Named, string_name, type_name, type_names}
use Rattle.pi_format.proofs.Held.{TablesHold, ContentHolds, rule_parts, tables_hold, content_holds, type_named}
use Rattle.pi_said.proofs.Names.{string_said}
use Rattle.pi_contents.specs.Named.{text_in}
use Rattle.pi_saidkeeps.proofs.Lists.{mapped_same_of}

-- a file that breaks no rule, and texts of names of which each string's name has the string's
pub record IsRead (text : NameNo → List ℕ) (n : Named) : Type 0 where
  pub each : (i : ℕ) → i < count_at n.file string_ids → text (string_name n i) ≡ string_units n.file i
  pub tables : TablesHold n.file
  pub content : ContentHolds n.file

-- so it is of a file behind any program
pub said_is_read : (p : Program) (file : List ℕ) → broken_rule file ≡ None → IsRead (text_in (with_said p file)) (named_file p file)
unfolding with_said
said_is_read p file kept =
    let parts = rule_parts file kept in
    record {
      each = λ i lt. ap (λ (o : Option (List ℕ)). unwrap_or o []) (string_said p.names file i lt);
      tables = tables_hold file parts.0;
      content = content_holds file parts.1;
    }

-- a type, and a list of types
pub type_read : (text : NameNo → List ℕ) (n : Named) → IsRead text n → (t : ℕ) → t < count_at n.file type_ids → text (type_name n t) ≡ type_units n.file t
type_read text n read t lt = read.each (type_string n.file t) (type_named n.file t read.tables.types lt)

-- there is a type of that number
abbrev pub is_type : List ℕ → ℕ → Bool
is_type file t = nat_lt t (count_at file type_ids)

pub types_read : (text : NameNo → List ℕ) (n : Named) → IsRead text n → (ts : List ℕ) → list_all (is_type n.file) ts ≡ true → map text (type_names n ts) ≡ map (type_units n.file) ts
types_read text n read ts h =
    mapped_same_of (is_type n.file) text (type_name n) (type_units n.file) (λ t k. type_read text n read t (ltb-true t (count_at n.file type_ids) k)) ts h
