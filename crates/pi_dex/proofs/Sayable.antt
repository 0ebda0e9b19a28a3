-- The members of classes are there, and classes whose rules hold can be said.
use Rattle.std.proofs.Common.{◌≡◌, ◌≢◌, ℕ, ◌^◌, ◌<◌, ◌≤◌, List, length, Option, Some, None, Bool, true, false, refl, sym, subst, arith}
use Rattle.std.specs.Prelude.{◌==◌}
use Rattle.std.specs.List.{All}
use Rattle.std.proofs.lemmas.Bool.Decides.{nat_tests}
use Rattle.pi_bytes.specs.Numbers.{most_bytes}
use Rattle.pi_format.specs.Tables.{count_at, field_ids, method_ids, class_defs}
use Rattle.pi_format.specs.Rules.Classes.{class_entry}
use Rattle.pi_format.specs.Rules.Rows.{MemberRow}
use Rattle.pi_format.specs.Rules.ClassData.{ClassRows, class_rows, rows_in, rows_of, methods_in}
use Rattle.pi_format.specs.Rules.CodeItems.{broken_code}
use Rattle.pi_format.specs.Rules.Pieces.{broken_index}
use Rattle.pi_classdata.specs.There.{IsMember, AreMembers}
use Rattle.pi_dex.specs.Judged.{AreBytes, IsField, IsMethod, AreThere, SaysCode, SaysMethod}
use Rattle.pi_dex.specs.Ready.{SaysClass, SaysClasses}
use Rattle.pi_format.proofs.Every.{all_nothing, all_weaker, all_both, all_joined, all_left, all_right}
use Rattle.pi_dex.proofs.Codes.{rows_say}
use Rattle.pi_dex.proofs.Values.{inits_there}
use Rattle.pi_codeitem.proofs.Items.{code_in_file}

abbrev pub MembersLaw : Type 0
MembersLaw = (file : List ℕ) (i : ℕ) (rows : ClassRows) → class_rows file i ≡ Some rows → AreMembers file (class_entry file i).class rows

pub rows_there : (file : List ℕ) (i : ℕ) → MembersLaw → AreThere file (rows_of file i)
rows_there file i law = by_rows (class_rows file i) refl
  where
    by_rows : (o : Option ClassRows) → class_rows file i ≡ o → AreThere file (rows_in o)
    by_rows None e = record {
      statics = all_nothing (IsField file);
      instances = all_nothing (IsField file);
      directs = all_nothing (IsMethod file);
      virtuals = all_nothing (IsMethod file);
    }
    by_rows (Some rows) e =
        let class : ℕ = (class_entry file i).class in
        let are = law file i rows e in
        record {
          statics = all_weaker (IsMember file field_ids class) (IsField file) rows.statics (λ r m. m.there) are.statics;
          instances = all_weaker (IsMember file field_ids class) (IsField file) rows.instances (λ r m. m.there) are.instances;
          directs = all_weaker (IsMember file method_ids class) (IsMethod file) rows.directs (λ r m. m.there) are.directs;
          virtuals = all_weaker (IsMember file method_ids class) (IsMethod file) rows.virtuals (λ r m. m.there) are.virtuals;
        }

code_small : (file : List ℕ) (row : MemberRow) → length file ≤ most_bytes → (row.code ≢ 0 → SaysCode file row.code) → row.code < 2 ^ 32
code_small file row few says = by_test (row.code == 0) refl
  where
    by_test : (b : Bool) → (row.code == 0) ≡ b → row.code < 2 ^ 32
    by_test true e = let none : row.code ≡ 0 = grind (arith, nat_tests) in omega (arith, none)
    by_test false e =
        let some : row.code ≢ 0 = grind (arith, nat_tests) in
        omega (arith, few, code_in_file file row.code (says some).lies)

pub says_class : (file : List ℕ) (i : ℕ) → MembersLaw → AreBytes file → length file ≤ most_bytes → broken_code file ≡ None → broken_index file ≡ None
    → i < count_at file class_defs → SaysClass file i
says_class file i law bytes few code index lt =
    let there = rows_there file i law in
    let rows = rows_of file i in
    let says = rows_say file i code index lt in
    record {
      statics = there.statics;
      instances = there.instances;
      methods = all_both (IsMethod file) (λ (r : MemberRow). r.code ≢ 0 → SaysCode file r.code) (SaysMethod file) (methods_in rows)
          (λ r m s. record { there = m; small = code_small file r few s; code = s })
          (all_joined (IsMethod file) rows.directs rows.virtuals there.directs there.virtuals) says;
      values = inits_there file i bytes;
    }

pub says_classes : (file : List ℕ) → MembersLaw → AreBytes file → length file ≤ most_bytes → broken_code file ≡ None → broken_index file ≡ None → SaysClasses file
says_classes file law bytes few code index = record { each = λ i lt. says_class file i law bytes few code index lt }

-- the same of rows that are those of the class
pub record SaysRows (file : List ℕ) (rows : ClassRows) : Type 0 where
  pub statics : All (IsField file) rows.statics
  pub instances : All (IsField file) rows.instances
  pub directs : All (SaysMethod file) rows.directs
  pub virtuals : All (SaysMethod file) rows.virtuals

pub says_rows : (file : List ℕ) (i : ℕ) (rows : ClassRows) → rows ≡ rows_of file i → SaysClass file i → SaysRows file rows
says_rows file i rows is says = subst (SaysRows file) (sym is) (record {
  statics = says.statics;
  instances = says.instances;
  directs = all_left (SaysMethod file) (rows_of file i).directs (rows_of file i).virtuals says.methods;
  virtuals = all_right (SaysMethod file) (rows_of file i).directs (rows_of file i).virtuals says.methods;
})
