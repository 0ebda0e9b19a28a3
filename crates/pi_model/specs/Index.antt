-- The look-ups that a program keeps beside its lists, and what each of them says of the lists.
use Rattle.std.specs.Prelude.{◌≡◌, ℕ, ◌+◌, List, [], ◌∷◌, length, sum_by, is_some, slice_index_or, slice_set, Option, Some, None, if◌then◌else◌, position}
use Rattle.pi_model.specs.declared.numbers.NameNo.{NameNo}
use Rattle.pi_model.specs.declared.describe.ClassDesc.{ClassDesc}
use Rattle.pi_model.specs.Program.{Program, same_name, method_count, field_count}
use Rattle.pi_model.specs.Valid.{IsProgram}
use Rattle.pi_model.specs.Order.{AreOrders}

-- each slot has the place of the first thing of the name of that number, and None where nothing has the name
pub record IsFirsts {X : Type 0} (name : X → NameNo) (slots : List (Option ℕ)) (xs : List X) : Type 0 where
  pub at : (n : NameNo) → slice_index_or slots n.0 None ≡ position (λ (x : X). same_name (name x) n) xs

-- the slots with a place in a slot that had none
abbrev pub first_set : List (Option ℕ) → ℕ → ℕ → List (Option ℕ)
first_set slots n place = if is_some (slice_index_or slots n None) then slots else slice_set slots n (Some place)

abbrev pub class_name : ClassDesc → NameNo
class_name d = d.name

abbrev pub type_name : NameNo → NameNo
type_name t = t

-- for each class the number of its first member, where so many members stand before
abbrev pub starts_from : (ClassDesc → ℕ) → ℕ → List ClassDesc → List ℕ
starts_from count before [] = []
starts_from count before (d ∷ ds) = before ∷ starts_from count (before + count d) ds

-- the look-ups: for each name the first type and the first class that have it, for each class the numbers of its
-- first method and field, and how many methods and fields there are, and for each file the order of its names
pub record Lookups : Type 0 where
  pub type_slots : List (Option ℕ)
  pub class_slots : List (Option ℕ)
  pub method_starts : List ℕ
  pub field_starts : List ℕ
  pub methods : ℕ
  pub fields : ℕ
  pub orders : List (List ℕ)

-- the look-ups are those of so many names, the types and the classes
pub record IsIndexed (l : Lookups) (names : ℕ) (ts : List NameNo) (ds : List ClassDesc) : Type 0 where
  pub type_room : length l.type_slots ≡ names
  pub class_room : length l.class_slots ≡ names
  pub types : IsFirsts type_name l.type_slots ts
  pub classes : IsFirsts class_name l.class_slots ds
  pub method_starts : l.method_starts ≡ starts_from method_count 0 ds
  pub field_starts : l.field_starts ≡ starts_from field_count 0 ds
  pub methods : l.methods ≡ sum_by method_count ds
  pub fields : l.fields ≡ sum_by field_count ds

-- what a program keeps, and the look-ups beside it
pub record IsKept (p : Program) (l : Lookups) : Type 0 where
  pub program : IsProgram p
  pub index : IsIndexed l (length p.names) p.types p.classes
  pub ordered : AreOrders p.names 0 l.orders
