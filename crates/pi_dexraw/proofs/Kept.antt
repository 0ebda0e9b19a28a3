-- What entries name is there.
use Rattle.std.proofs.Common.{◌≡◌, ◌≢◌, ℕ, ◌<◌, List, [], ◌∷◌, None, true}
use Rattle.std.specs.Prelude.{nat_lt}
use Rattle.std.specs.List.{list_all, All}
use Rattle.std.specs.Prelude.{Result, Ok, Err, IfOk}
use Rattle.pi_bytes.specs.Numbers.{no_index}
use Rattle.pi_format.specs.Tables.{count_at, string_ids, type_ids, proto_ids, field_ids, method_ids, class_defs}
use Rattle.pi_format.specs.Rules.{broken_tables_rule}
use Rattle.pi_format.specs.Rules.Descriptors.{is_class_type}
use Rattle.pi_format.specs.Rules.Entries.{list_fits, list_at}
use Rattle.pi_format.specs.Rules.Strings.{type_string, type_units}
use Rattle.pi_format.specs.Rules.Members.{member_entry, proto_entry, is_value_type}
use Rattle.pi_format.specs.Rules.Classes.{class_entry, is_class_id}
use Rattle.pi_format.proofs.Every.{all_nothing, all_more}
use Rattle.pi_format.proofs.Held.{both, below, tables_hold, type_named, field_kept, FieldFits, method_kept, MethodFits, proto_kept, value_there, class_kept}

pub type_there : (file : List ℕ) (t : ℕ) → broken_tables_rule file ≡ None → t < count_at file type_ids → type_string file t < count_at file string_ids
type_there file t kept lt = type_named file t (tables_hold file kept).types lt

pub field_there : (file : List ℕ) (i : ℕ) → broken_tables_rule file ≡ None → i < count_at file field_ids → FieldFits file (member_entry file field_ids i)
field_there file i kept lt = field_kept file i (tables_hold file kept).fields lt

pub method_there : (file : List ℕ) (i : ℕ) → broken_tables_rule file ≡ None → i < count_at file method_ids → MethodFits file (member_entry file method_ids i)
method_there file i kept lt = method_kept file i (tables_hold file kept).methods lt

pub proto_there : (file : List ℕ) (i : ℕ) → broken_tables_rule file ≡ None → i < count_at file proto_ids → (proto_entry file i).ret < count_at file type_ids
proto_there file i kept lt = (proto_kept file i (tables_hold file kept).protos lt).ret

pub proto_list : (file : List ℕ) (i : ℕ) → broken_tables_rule file ≡ None → i < count_at file proto_ids → list_fits file (proto_entry file i).params ≡ true
proto_list file i kept lt = (proto_kept file i (tables_hold file kept).protos lt).list

values_there : (file ts : List ℕ) → list_all (is_value_type file) ts ≡ true → All (λ t. t < count_at file type_ids) ts
values_there file [] e = all_nothing (λ t. t < count_at file type_ids)
values_there file (t ∷ ts) e =
    let head = both (is_value_type file t) (list_all (is_value_type file) ts) e in
    all_more (λ s. s < count_at file type_ids) t ts (value_there file t head.0) (values_there file ts head.1)

pub params_there : (file : List ℕ) (i : ℕ) → broken_tables_rule file ≡ None → i < count_at file proto_ids
    → All (λ t. t < count_at file type_ids) (list_at file (proto_entry file i).params)
params_there file i kept lt = values_there file (list_at file (proto_entry file i).params) (proto_kept file i (tables_hold file kept).protos lt).params

pub class_there : (file : List ℕ) (i : ℕ) → broken_tables_rule file ≡ None → i < count_at file class_defs → (class_entry file i).class < count_at file type_ids
class_there file i kept lt = (class_kept file i (tables_hold file kept).classes lt).class

pub parent_there : (file : List ℕ) (i : ℕ) → broken_tables_rule file ≡ None → i < count_at file class_defs
    → (class_entry file i).parent ≢ no_index → (class_entry file i).parent < count_at file type_ids
parent_there file i kept lt some = (class_kept file i (tables_hold file kept).classes lt).parent some

pub class_list : (file : List ℕ) (i : ℕ) → broken_tables_rule file ≡ None → i < count_at file class_defs → list_fits file (class_entry file i).faces ≡ true
class_list file i kept lt = (class_kept file i (tables_hold file kept).classes lt).list

ids_there : (file ts : List ℕ) → list_all (is_class_id file) ts ≡ true → All (λ t. t < count_at file type_ids) ts
ids_there file [] e = all_nothing (λ t. t < count_at file type_ids)
ids_there file (t ∷ ts) e =
    let head = both (is_class_id file t) (list_all (is_class_id file) ts) e in
    all_more (λ s. s < count_at file type_ids) t ts
    (below t (count_at file type_ids) ((both (nat_lt t (count_at file type_ids)) (is_class_type (type_units file t)) head.0).0)) (ids_there file ts head.1)

pub faces_there : (file : List ℕ) (i : ℕ) → broken_tables_rule file ≡ None → i < count_at file class_defs
    → All (λ t. t < count_at file type_ids) (list_at file (class_entry file i).faces)
faces_there file i kept lt = ids_there file (list_at file (class_entry file i).faces) (class_kept file i (tables_hold file kept).classes lt).faces

-- what is known of a result, if it is one
pub ok_weaker : {A E : Type 0} {P Q : A → Type 0} (r : Result A E) → ((x : A) → P x → Q x) → IfOk r P → IfOk r Q
ok_weaker (Ok x) f p = f x p
ok_weaker (Err e) f p = _
