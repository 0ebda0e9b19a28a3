-- The names that a file brings, and the number of the name of each of its strings.
use Rattle.std.specs.Prelude.{ℕ, ◌+◌, not, List, [], ◌∷◌, length, filter, map, position, slice_index_or, Option, Some, None}
use Rattle.std.specs.List.{list_any}
use Rattle.pi_model.specs.declared.numbers.NameNo.{NameNo}
use Rattle.pi_model.specs.declared.insn.FieldRef.{FieldRef}
use Rattle.pi_model.specs.declared.insn.MethodRef.{MethodRef}
use Rattle.pi_model.specs.Texts.{same_text}
use Rattle.pi_format.specs.Core.{name_no}
use Rattle.pi_format.specs.Tables.{count_at, string_ids, field_ids, method_ids}
use Rattle.pi_format.specs.Rules.Entries.{list_at}
use Rattle.pi_format.specs.Rules.Strings.{string_units, type_string}
use Rattle.pi_format.specs.Rules.Members.{member_entry, proto_entry}
use Rattle.pi_format.specs.Rules.Lowest.{tabulation}

-- the texts of all strings of a file, in their order; no two are the same where the rules hold
abbrev pub texts_of : List ℕ → List (List ℕ)
texts_of file = tabulation (string_units file) 0 (count_at file string_ids)

-- the texts that are no name yet
abbrev pub new_names : List (List ℕ) → List (List ℕ) → List (List ℕ)
new_names names texts = filter (λ text. not (list_any (same_text text) names)) texts

-- The numbers of texts: a text that is a name has its number, and any other takes the next one.
abbrev pub numbers_from : List (List ℕ) → ℕ → List (List ℕ) → List NameNo
numbers_from names next [] = []
numbers_from names next (text ∷ texts) = by_place next (position (same_text text) names) (λ n. numbers_from names n texts)
  where
    by_place : ℕ → Option ℕ → (ℕ → List NameNo) → List NameNo
    by_place next (Some n) others = name_no n ∷ others next
    by_place next None others = name_no next ∷ others (next + 1)

-- the numbers of the names of a file's strings, behind the names that there are
abbrev pub name_numbers : List (List ℕ) → List ℕ → List NameNo
name_numbers names file = numbers_from names (length names) (texts_of file)

-- a file, with the numbers of the names of its strings
pub record Named : Type 0 where
  pub file : List ℕ
  pub numbers : List NameNo

-- the name of a string, of a type, and of each of a list of types
abbrev pub string_name : Named → ℕ → NameNo
string_name n i = slice_index_or n.numbers i (name_no 0)

abbrev pub type_name : Named → ℕ → NameNo
type_name n t = string_name n (type_string n.file t)

abbrev pub type_names : Named → List ℕ → List NameNo
type_names n ts = map (type_name n) ts

-- the field of a number: class, name and type
abbrev pub field_ref : Named → ℕ → FieldRef
field_ref n id = let e = member_entry n.file field_ids id in
    record { class = type_name n e.class; name = string_name n e.name; ty = type_name n e.kind }

-- the types of the parameters of a prototype, and that of its result
abbrev pub param_names : Named → ℕ → List NameNo
param_names n proto = type_names n (list_at n.file (proto_entry n.file proto).params)

abbrev pub ret_name : Named → ℕ → NameNo
ret_name n proto = type_name n (proto_entry n.file proto).ret

-- the method of a number: class, name and prototype
abbrev pub method_ref : Named → ℕ → MethodRef
method_ref n id = let e = member_entry n.file method_ids id in
    record { class = type_name n e.class; name = string_name n e.name; params = param_names n e.kind; ret = ret_name n e.kind }
