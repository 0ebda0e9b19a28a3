-- The fields of instances: in which order an instance lists them, and what they begin with. The order is our own.
use Rattle.std.specs.Prelude.{ℕ, ◌+◌, ◌==◌, List, [], map, filter, flat_map, reverse, drop, take, sum_by, count_by, slice_get, Option, Some, None, Bool, if◌then◌else◌}
use Rattle.std.specs.List.{list_any}
use Rattle.pi_model.specs.declared.describe.ClassDesc.{ClassDesc}
use Rattle.pi_model.specs.declared.describe.FieldDesc.{FieldDesc}
use Rattle.pi_model.specs.Program.{Program}
use Rattle.pi_model.specs.Values.{Value, Word, Long, Object, Instance}
use Rattle.pi_model.specs.Sizes.{of_instances, letter_of}
use Rattle.pi_model.specs.Search.{Member, class_at, lineage}

-- the value that a field begins with: a long 0 for J, else 0 or null
abbrev pub first_value : Program → FieldDesc → Value
first_value p f = if letter_of p f == 74 then Long 0 else Word 0

-- the list of fields of a class
abbrev pub fields_in : Option ClassDesc → List FieldDesc
fields_in None = []
fields_in (Some d) = d.fields

-- the fields that each instance has by a class's own list
abbrev pub own_instance_fields : Program → ℕ → List FieldDesc
own_instance_fields p c = filter of_instances (fields_in (class_at p c))

-- what the fields of a new instance hold, the superclasses' first
abbrev pub first_fields : Program → ℕ → List Value
first_fields p c = map (first_value p) (flat_map (own_instance_fields p) (reverse (lineage p c)))

-- a new instance of a class
abbrev pub new_instance : Program → ℕ → Object
new_instance p c = Instance c (first_fields p c)

-- how many fields a class gives its instances
abbrev pub instance_field_count : Program → ℕ → ℕ
instance_field_count p c = count_by of_instances (fields_in (class_at p c))

-- how many fields the superclasses of a class give its instances
abbrev pub fields_above : Program → ℕ → ℕ
fields_above p c = sum_by (instance_field_count p) (drop 1 (lineage p c))

-- The place of a field in the list of an instance; a static field has none there.
abbrev pub field_place : Program → Member → Option ℕ
field_place p i = placed (slice_get (fields_in (class_at p i.class)) i.place)
  where
    placed : Option FieldDesc → Option ℕ
    placed None = None
    placed (Some f) =
        if of_instances f then Some (fields_above p i.class + count_by of_instances (take i.place (fields_in (class_at p i.class)))) else None

-- a class is another, or below it as a subclass
abbrev pub is_subclass : Program → ℕ → ℕ → Bool
is_subclass p c above = list_any (λ x. x == above) (lineage p c)
