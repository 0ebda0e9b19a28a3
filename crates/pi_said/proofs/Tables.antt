-- Each table of a file lies in it, so that it has no more entries than the file has bytes.
use Rattle.std.proofs.Common.{◌≡◌, ℕ, suc, ◌+◌, ◌*◌, ◌≤◌, List, length, Bool, true, false, Option, Some, None, refl, arith}
use Rattle.std.specs.Prelude.{nat_le, if◌then◌else◌}
use Rattle.std.proofs.lemmas.Bool.Decides.{nat_tests}
use Rattle.pi_format.specs.Tables.{count_at, string_ids, type_ids, proto_ids, field_ids, method_ids, class_defs, table_holds}
use Rattle.pi_format.specs.Rules.Header.{unless, counted_table, broken_tables}
use Rattle.pi_format.proofs.Held.{both}

few_entries : (file : List ℕ) (table width : ℕ) → table_holds file table (suc width) ≡ true → count_at file table ≤ length file
unfolding table_holds
few_entries file table width holds =
    let more : suc width * count_at file table ≡ width * count_at file table + count_at file table = grind arith in
    grind (arith, nat_tests)

-- a rule that is asked before others
asked_first : (b : Bool) (later : Option ℕ) (place : ℕ) → (if b then later else Some place) ≡ None → (b ≡ true) × (later ≡ None)
asked_first true later place e = (refl, e)
asked_first false later place e = cc

pub asked_last : (b : Bool) (place : ℕ) → unless b place ≡ None → b ≡ true
asked_last true place e = refl
asked_last false place e = cc

pub record FewEntries (file : List ℕ) : Type 0 where
  pub strings : count_at file string_ids ≤ length file
  pub types : count_at file type_ids ≤ length file
  pub fields : count_at file field_ids ≤ length file
  pub methods : count_at file method_ids ≤ length file
  pub classes : count_at file class_defs ≤ length file

pub tables_lie : (file : List ℕ) → broken_tables file ≡ None → FewEntries file
tables_lie file e =
    let strings = asked_first (table_holds file string_ids 4) _ string_ids e in
    let types = asked_first (counted_table file type_ids 4) _ type_ids strings.1 in
    let protos = asked_first (counted_table file proto_ids 12) _ proto_ids types.1 in
    let fields = asked_first (table_holds file field_ids 8) _ field_ids protos.1 in
    let methods = asked_first (table_holds file method_ids 8) _ method_ids fields.1 in
    let classes = asked_last (table_holds file class_defs 32) class_defs methods.1 in
    record {
      strings = few_entries file string_ids 3 strings.0;
      types = few_entries file type_ids 3 ((both (table_holds file type_ids 4) (nat_le (count_at file type_ids) 65535) types.0).0);
      fields = few_entries file field_ids 7 fields.0;
      methods = few_entries file method_ids 7 methods.0;
      classes = few_entries file class_defs 31 classes;
    }
