-- The row of a method by the numbers of what it names.
use Rattle.std.proofs.Common.{◌≡◌, ℕ, List, ◌++◌, map, Option, Some, None, option_map, refl, ap, ◌∙◌}
use Rattle.pi_model.specs.declared.describe.MethodDesc.{MethodDesc}
use Rattle.pi_model.specs.declared.numbers.NameNo.{NameNo}
use Rattle.pi_dextables.specs.declared.tables.Body.{Body}
use Rattle.pi_dextables.specs.declared.tables.MethodRow.{MethodRow}
use Rattle.pi_contents.specs.Named.{code_content, method_content}
use Rattle.pi_contents.specs.Naming.{own_method, named_by_code, named_by_method}
use Rattle.pi_classtables.specs.Numbers.{Pools, index_of, method_no}
use Rattle.pi_classtables.specs.Whole.{Method, method_row, optional_body}
use Rattle.pi_dexrows.specs.Taken.{first_no, behind_first}

abbrev pub row_with : ℕ → ℕ → Option Body → MethodRow
row_with id flags code = record { id = id; flags = flags; code = code }

by_body : (p : Pools) (class : List ℕ) (m : Method) (o : Option (Option Body)) → optional_body p m.sparse m.content.code ≡ o
    → option_map (row_with (method_no p (own_method class m.content)) m.content.flags) o ≡ method_row p class m
by_body p class m None e = rw e refl
by_body p class m (Some code) e = rw e refl

pub row_made : (p : Pools) (text : NameNo → List ℕ) (class : List ℕ) (m : MethodDesc) (listed ns behind rest : List ℕ) (id : ℕ) (code : Option (Option Body))
    → id ≡ first_no ns → behind ≡ behind_first ns → ns ≡ map (index_of p) (named_by_method class (method_content text m)) ++ rest
    → (behind ≡ map (index_of p) (named_by_code (option_map (code_content text) m.code)) ++ rest → code ≡ optional_body p listed (option_map (code_content text) m.code))
    → option_map (row_with id m.flags) code ≡ method_row p class (record { content = method_content text m; sparse = listed })
row_made p text class m listed ns behind rest id code first others are says =
    let own : id ≡ method_no p (own_method class (method_content text m)) = first ∙ ap first_no are in
    let left : behind ≡ map (index_of p) (named_by_code (option_map (code_content text) m.code)) ++ rest = others ∙ ap behind_first are in
    (λ i. option_map (row_with (own i) m.flags) (says left i)) ∙ by_body p class (record { content = method_content text m; sparse = listed }) (optional_body p listed (option_map (code_content text) m.code)) refl
