-- The rules one after the other.
use Rattle.std.proofs.Common.{◌≡◌, ℕ, ◌≤◌, List, length, Option, Some, None, Bool, true, false, refl, arith}
use Rattle.std.specs.Prelude.{nat_le, if◌then◌else◌}
use Rattle.std.proofs.lemmas.Bool.Decides.{nat_tests}
use Rattle.pi_bytes.specs.Numbers.{most_bytes}
use Rattle.pi_format.specs.Tables.{table_holds, count_at, string_ids, type_ids, proto_ids, field_ids, method_ids, class_defs}
use Rattle.pi_format.specs.Rules.{broken_tables_rule}
use Rattle.pi_format.specs.Rules.Header.{counted_table, broken_length, broken_tables}
use Rattle.pi_format.specs.Rules.Strings.{broken_strings}
use Rattle.pi_dexids.specs.Tables.{HasTables}
use Rattle.pi_dexraw.specs.Asked.{header_rules, sum_rules, string_rules, id_rules, class_rules}
use Rattle.pi_format.proofs.Held.{both, tables_hold}

pub all_rules : (file : List ℕ) → broken_tables_rule file ≡ header_rules file (sum_rules file (string_rules file (id_rules file (class_rules file None))))
unfolding broken_tables_rule header_rules sum_rules string_rules id_rules class_rules
all_rules file = refl

pub is_long : (file : List ℕ) → broken_length file ≡ None → 112 ≤ length file
is_long file e = by_test (nat_le 112 (length file)) refl e
  where
    by_test : (b : Bool) → nat_le 112 (length file) ≡ b → (if b then None else Some (length file)) ≡ None → 112 ≤ length file
    by_test true f e = grind (arith, nat_tests)
    by_test false f e = cc

inner : (b : Bool) (at : ℕ) (later : Option ℕ) → (if b then later else Some at) ≡ None → (b ≡ true) × (later ≡ None)
inner true at later e = (refl, e)
inner false at later e = cc

few : (n : ℕ) → nat_le n 65535 ≡ true → n ≤ 65535
few n e = grind (arith, nat_tests)

pub have_tables : (file : List ℕ) → 112 ≤ length file → length file ≤ most_bytes → broken_tables file ≡ None → HasTables file
have_tables file long small e =
    let classes : Option ℕ = if table_holds file class_defs 32 then None else Some class_defs in
    let methods : Option ℕ = if table_holds file method_ids 8 then classes else Some method_ids in
    let fields : Option ℕ = if table_holds file field_ids 8 then methods else Some field_ids in
    let protos : Option ℕ = if counted_table file proto_ids 12 then fields else Some proto_ids in
    let types : Option ℕ = if counted_table file type_ids 4 then protos else Some type_ids in
    let a = inner (table_holds file string_ids 4) string_ids types e in
    let b = inner (counted_table file type_ids 4) type_ids protos a.1 in
    let c = inner (counted_table file proto_ids 12) proto_ids fields b.1 in
    let d = inner (table_holds file field_ids 8) field_ids methods c.1 in
    let f = inner (table_holds file method_ids 8) method_ids classes d.1 in
    let g = inner (table_holds file class_defs 32) class_defs None f.1 in
    let t = both (table_holds file type_ids 4) (nat_le (count_at file type_ids) 65535) b.0 in
    let p = both (table_holds file proto_ids 12) (nat_le (count_at file proto_ids) 65535) c.0 in
    record {
      header = long;
      small = small;
      strings = a.0;
      types = t.0;
      protos = p.0;
      fields = d.0;
      methods = f.0;
      classes = g.0;
      few_types = few (count_at file type_ids) t.1;
      few_protos = few (count_at file proto_ids) p.1;
    }

-- a file of which the rules hold has its tables, and its strings have texts
pub raw_tables : (file : List ℕ) → length file ≤ most_bytes → broken_tables_rule file ≡ None → HasTables file
raw_tables file small kept =
    let hold = tables_hold file kept in
    have_tables file (is_long file hold.length) small hold.tables

pub strings_hold : (file : List ℕ) → broken_tables_rule file ≡ None → broken_strings file ≡ None
strings_hold file kept = (tables_hold file kept).strings
