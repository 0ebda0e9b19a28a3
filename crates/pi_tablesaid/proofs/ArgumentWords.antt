-- The argument words of a method of a file that says tables are those of the method of the tables.
use Rattle.std.proofs.Common.{◌≡◌, ℕ, ◌<◌, List, length, map, get_or, refl, ap, ◌∙◌}
use Rattle.std.specs.Prelude.{sum_by, All}
use Rattle.pi_format.specs.Rules.Entries.{list_at}
use Rattle.pi_format.specs.Rules.Descriptors.{words_of_type}
use Rattle.pi_format.specs.Rules.Strings.{type_units}
use Rattle.pi_format.specs.Rules.Members.{MemberEntry, proto_entry}
use Rattle.pi_format.specs.Rules.Rows.{MemberRow}
use Rattle.pi_format.specs.Rules.ClassData.{method_proto}
use Rattle.pi_format.specs.Rules.CodeItems.{argument_words}
use Rattle.pi_dextables.specs.declared.tables.MethodRow.{MethodRow}
use Rattle.pi_dextables.specs.declared.tables.Tables.{Tables}
use Rattle.pi_dextables.specs.Said.{MethodSaid, IsSaid}
use Rattle.pi_contents.specs.Asked.{argument_words as words_asked}
use Rattle.pi_tablesaid.specs.Entries.{type_at, no_proto, no_member, member_at}
use Rattle.pi_tablesaid.specs.Content.{method_said}
use Rattle.pi_tablesaid.specs.Closed.{IsType, IsClosed}
use Rattle.pi_tablesaid.proofs.ProtosKept.{types_are, sum_by-map, proto_is}
use Rattle.pi_tablesaid.proofs.MethodsKept.{method_is}

-- the parameters of a method of the tables
abbrev params_at : Tables → ℕ → List ℕ
params_at t id = (get_or t.protos (member_at t.methods id).kind no_proto).params

params_read : (file : List ℕ) (t : Tables) → IsSaid file t → IsClosed t → (id : ℕ) → id < length t.methods
    → list_at file (proto_entry file (method_proto file id)).params ≡ params_at t id
params_read file t said closed id lt =
    let kind : method_proto file id ≡ (member_at t.methods id).kind = ap (λ (e : MemberEntry). e.kind) (method_is file t said id lt) in
    ap (λ (k : ℕ). list_at file (proto_entry file k).params) kind
    ∙ (proto_is file t said (member_at t.methods id).kind (closed.methods id no_member lt).kind).params.is

params_closed : (t : Tables) → IsClosed t → (id : ℕ) → id < length t.methods → All (IsType t) (params_at t id)
params_closed t closed id lt = (closed.protos (member_at t.methods id).kind no_proto (closed.methods id no_member lt).kind).params

words_read : (file : List ℕ) (t : Tables) → IsSaid file t → IsClosed t → (id : ℕ) → id < length t.methods
    → sum_by (λ i. words_of_type (type_units file i)) (list_at file (proto_entry file (method_proto file id)).params)
    ≡ sum_by words_of_type (map (type_at t) (params_at t id))
words_read file t said closed id lt =
    ap (sum_by (λ i. words_of_type (type_units file i))) (params_read file t said closed id lt)
    ∙ sum_by-map words_of_type (type_units file) (params_at t id)
    ∙ ap (sum_by words_of_type) (types_are file t said closed.types (params_at t id) (params_closed t closed id lt))

pub words_are : (file : List ℕ) (t : Tables) → IsSaid file t → IsClosed t → (row : MemberRow) (m : MethodRow) → MethodSaid file row m → m.id < length t.methods
    → argument_words file row ≡ words_asked (method_said t m)
words_are file t said closed row m is lt = rw (is.id, is.flags, words_read file t said closed m.id lt) refl
