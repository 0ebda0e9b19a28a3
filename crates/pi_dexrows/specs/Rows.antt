-- The methods of a class as rows, before they are arranged.
use Rattle.std.specs.Prelude.{ℕ, ◌++◌, not, List, [], ◌∷◌, map, filter, Option, Some, None, Bool, if◌then◌else◌}
use Rattle.std.specs.declared.cmp.Ordering.{Ordering}
use Rattle.std.specs.Ordering.{nat_cmp}
use Rattle.pi_insn.specs.Chain.{◌>>=◌}
use Rattle.pi_model.specs.declared.describe.MethodDesc.{MethodDesc}
use Rattle.pi_model.specs.declared.numbers.NameNo.{NameNo}
use Rattle.pi_dextables.specs.declared.tables.MethodRow.{MethodRow}
use Rattle.pi_contents.specs.Asked.{is_direct}
use Rattle.pi_contents.specs.Named.{method_content}
use Rattle.pi_contents.specs.Naming.{named_by_method}
use Rattle.pi_classtables.specs.Numbers.{Pools, index_of}
use Rattle.pi_classtables.specs.Sorted.{arranged}
use Rattle.pi_classtables.specs.Whole.{Method, for_each, methods_with}
use Rattle.pi_dexrows.specs.declared.rows.MethodLists.{MethodLists}

-- the numbers of what methods name
abbrev pub method_numbers : Pools → (NameNo → List ℕ) → List ℕ → List MethodDesc → List ℕ
method_numbers p text class [] = []
method_numbers p text class (m ∷ ms) = map (index_of p) (named_by_method class (method_content text m)) ++ method_numbers p text class ms

-- methods by their texts, with the addresses of their sparse switches
abbrev pub methods_of : (NameNo → List ℕ) → List MethodDesc → List (List ℕ) → List Method
methods_of text ms sparse = methods_with (map (method_content text) ms) sparse

-- what a function gives for the direct methods and for the others, nothing where it gives nothing for one of them
abbrev pub directs_among : List Method → List Method
directs_among ms = filter (λ (m : Method). is_direct m.content) ms

abbrev pub virtuals_among : List Method → List Method
virtuals_among ms = filter (λ (m : Method). not (is_direct m.content)) ms

abbrev pub method_lists : (Method → Option MethodRow) → List Method → Option MethodLists
method_lists f ms =
    for_each f (directs_among ms) >>= (λ directs. for_each f (virtuals_among ms) >>= (λ virtuals. Some (record { directs = directs; virtuals = virtuals })))

-- lists with a row more, and lists before others
abbrev pub with_row : Bool → MethodRow → MethodLists → MethodLists
with_row direct row lists =
    if direct then record lists { directs = lists.directs ++ row ∷ [] } else record lists { virtuals = lists.virtuals ++ row ∷ [] }

abbrev pub lists_before : MethodLists → Option MethodLists → Option MethodLists
lists_before lists None = None
lists_before lists (Some others) = Some (record { directs = lists.directs ++ others.directs; virtuals = lists.virtuals ++ others.virtuals })

-- methods rise by their numbers
abbrev pub by_method_id : MethodRow → MethodRow → Ordering
by_method_id x y = nat_cmp x.id y.id

abbrev pub arranged_lists : MethodLists → MethodLists
arranged_lists lists = record { directs = arranged by_method_id lists.directs; virtuals = arranged by_method_id lists.virtuals }
