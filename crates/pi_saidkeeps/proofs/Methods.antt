-- What holds of each row of methods holds of the methods of all classes that a file says.
use Rattle.std.proofs.Common.{◌≡◌, ℕ, ◌<◌, List, [], ◌∷◌, map, Option, Some, None, Bool, true, false, refl, ◌∙◌, arith}
use Rattle.std.specs.Prelude.{◌==◌, nat_lt, option_map, if◌then◌else◌}
use Rattle.std.specs.List.{list_all}
use Rattle.std.proofs.lemmas.Bool.{and_from, and_parts}
use Rattle.std.proofs.lemmas.List.Folds.{list_all-map}
use Rattle.pi_model.specs.declared.numbers.NameNo.{NameNo}
use Rattle.pi_model.specs.declared.describe.ClassDesc.{ClassDesc}
use Rattle.pi_model.specs.Program.{Program}
use Rattle.pi_format.specs.Tables.{count_at, method_ids, class_defs}
use Rattle.pi_format.specs.Rules.Lowest.{lowest_of}
use Rattle.pi_format.specs.Rules.Rows.{MemberRow}
use Rattle.pi_format.specs.Rules.Members.{member_entry}
use Rattle.pi_format.specs.Rules.Classes.{class_entry}
use Rattle.pi_format.specs.Rules.ClassData.{is_method_of, rows_of, methods_in}
use Rattle.pi_format.specs.Rules.CodeItems.{of_code, lowest_in_code}
use Rattle.pi_format.specs.Says.{named_file, with_said}
use Rattle.pi_format.specs.Says.Names.{Named}
use Rattle.pi_format.specs.Says.Codes.{code_at, code_of}
use Rattle.pi_format.specs.Says.Classes.{class_desc, classes_said, method_desc}
use Rattle.pi_format.proofs.Held.{below}
use Rattle.pi_said.proofs.Lists.{listed_all}
use Rattle.pi_said.proofs.Members.{rows_fit}
use Rattle.pi_contents.specs.Contents.{CodeContent, MethodContent, ClassContent}
use Rattle.pi_contents.specs.Named.{code_content, method_content, text_in, content_in}
use Rattle.pi_saidkeeps.proofs.Each.{none_lower, none_at}

-- rows of a kind that all have no place
each_row : (kind : MemberRow → Bool) (place : MemberRow → Option ℕ) (fits : MemberRow → Bool) (rows : List MemberRow)
    → list_all kind rows ≡ true → lowest_of place rows ≡ None
    → ((row : MemberRow) → kind row ≡ true → place row ≡ None → fits row ≡ true) → list_all fits rows ≡ true
each_row kind place fits [] all none each = refl
each_row kind place fits (row ∷ rows) all none each =
    let kinds = and_parts (kind row) (list_all kind rows) all in
    let places = none_lower (place row) (lowest_of place rows) none in
    and_from (fits row) (list_all fits rows) (each row kinds.0 places.0) (each_row kind place fits rows kinds.1 places.1 each)

mapped_twice : {A B C : Type 0} (fits : C → Bool) (f : B → C) (g : A → B) (xs : List A)
    → list_all (λ x. fits (f (g x))) xs ≡ true → list_all fits (map f (map g xs)) ≡ true
mapped_twice fits f g xs all = list_all-map fits f (map g xs) ∙ (list_all-map (λ y. fits (f y)) g xs ∙ all)

-- what a test asks of the methods of a class
abbrev pub of_methods : (MethodContent → Bool) → ClassContent → Bool
of_methods fits c = list_all fits c.methods

-- a method row of which a rule on codes holds
pub record RowKept (file : List ℕ) (place : MemberRow → Option ℕ) (row : MemberRow) : Type 0 where
  pub id : row.id < count_at file method_ids
  pub code : of_code place row ≡ None

class_methods : (text : NameNo → List ℕ) (n : Named) (number i : ℕ) (place : MemberRow → Option ℕ) (fits : MethodContent → Bool)
    → lowest_of (of_code place) (methods_in (rows_of n.file i)) ≡ None
    → ((row : MemberRow) → RowKept n.file place row → fits (method_content text (method_desc n row)) ≡ true)
    → list_all fits (map (method_content text) (class_desc n number i).methods) ≡ true
unfolding class_desc
class_methods text n number i place fits none each =
    let rows : List MemberRow = methods_in (rows_of n.file i) in
    let class : ℕ = (class_entry n.file i).class in
    mapped_twice fits (method_content text) (method_desc n) rows
    (each_row (λ row. is_method_of n.file class row.id) (of_code place) (λ row. fits (method_content text (method_desc n row))) rows
    (rows_fit n.file i).own_methods none
    (λ row own code. each row (record {
      id = below row.id (count_at n.file method_ids) ((and_parts (nat_lt row.id (count_at n.file method_ids)) ((member_entry n.file method_ids row.id).class == class) own).0);
      code = code;
    })))

pub each_method : (p : Program) (file : List ℕ) (number : ℕ) (place : MemberRow → Option ℕ) (fits : MethodContent → Bool)
    → lowest_in_code file place ≡ None
    → ((row : MemberRow) → RowKept file place row → fits (method_content (text_in (with_said p file)) (method_desc (named_file p file) row)) ≡ true)
    → list_all (of_methods fits) (map (content_in (with_said p file)) (classes_said (named_file p file) number)) ≡ true
each_method p file number place fits none each =
    let n : Named = named_file p file in
    list_all-map (of_methods fits) (content_in (with_said p file)) (classes_said n number)
    ∙ listed_all (λ (d : ClassDesc). of_methods fits (content_in (with_said p file) d)) (class_desc n number) 0 (count_at file class_defs)
    (λ k lt. class_methods (text_in (with_said p file)) n number k place fits
    (none_at (λ i. lowest_of (of_code place) (methods_in (rows_of file i))) 0 (count_at file class_defs) none k (omega arith) lt) each)

-- what holds where there is no code holds of a method without code, and else what its code item gives
pub with_code : (text : NameNo → List ℕ) (n : Named) (fits : Option CodeContent → Bool) (place : MemberRow → Option ℕ) (row : MemberRow)
    → of_code place row ≡ None → fits None ≡ true → (place row ≡ None → fits (Some (code_content text (code_at n row.code))) ≡ true)
    → fits (option_map (code_content text) (code_of n row.code)) ≡ true
with_code text n fits place row none without there = by_place (row.code == 0) none
  where
    by_place : (b : Bool) → (if b then None else place row) ≡ None
        → fits (option_map (code_content text) (if b then None else Some (code_at n row.code))) ≡ true
    by_place true e = without
    by_place false e = there e
