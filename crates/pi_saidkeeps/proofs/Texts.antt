-- The texts of the names of a file's strings and types, in a program with the file.
use Rattle.std.proofs.Common.{◌≡◌, ℕ, ◌<◌, List, [], Option, None, ap}
use Rattle.std.specs.Prelude.{unwrap_or}
use Rattle.pi_model.specs.Program.{Program}
use Rattle.pi_format.specs.Tables.{count_at, string_ids, type_ids}
use Rattle.pi_format.specs.Rules.Strings.{string_units, type_string, type_units, broken_types}
use Rattle.pi_format.specs.Says.{named_file, with_said}
use Rattle.pi_format.specs.Says.Names.{string_name, type_name}
use Rattle.pi_format.proofs.Held.{type_named}
use Rattle.pi_said.proofs.Names.{string_said}
use Rattle.pi_contents.specs.Named.{text_in}

pub text_of_string : (p : Program) (file : List ℕ) (i : ℕ) → i < count_at file string_ids
    → text_in (with_said p file) (string_name (named_file p file) i) ≡ string_units file i
unfolding with_said
text_of_string p file i lt = ap (λ (o : Option (List ℕ)). unwrap_or o []) (string_said p.names file i lt)

pub text_of_type : (p : Program) (file : List ℕ) (t : ℕ) → broken_types file ≡ None → t < count_at file type_ids
    → text_in (with_said p file) (type_name (named_file p file) t) ≡ type_units file t
text_of_type p file t kept lt = text_of_string p file (type_string file t) (type_named file t kept lt)
