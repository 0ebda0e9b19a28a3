-- The lists of fields by their parts are those of the tables.
use Rattle.std.proofs.Common.{◌≡◌, ℕ, not, Bool, true, false, ◌||◌, List, [], ◌∷◌, map, filter, refl, sym, ap, ◌∙◌}
use Rattle.std.specs.List.{All, list_any}
use Rattle.std.proofs.lemmas.List.Elements.{All-filter}
use Rattle.pi_model.specs.declared.describe.FieldDesc.{FieldDesc}
use Rattle.pi_model.specs.declared.numbers.NameNo.{NameNo}
use Rattle.pi_model.specs.Flags.{is_static}
use Rattle.pi_dextables.specs.declared.tables.FieldRow.{FieldRow}
use Rattle.pi_dextables.specs.declared.tables.Value.{Value}
use Rattle.pi_contents.specs.Asked.{has_init}
use Rattle.pi_contents.specs.Contents.{FieldContent, ClassContent}
use Rattle.pi_contents.specs.Named.{field_content}
use Rattle.pi_classtables.specs.Numbers.{Pools}
use Rattle.pi_classtables.specs.Sorted.{arranged}
use Rattle.pi_classtables.specs.Values.{values_of, value_of}
use Rattle.pi_classtables.specs.Whole.{field_rank, field_row, statics_of, instances_of}
use Rattle.pi_classtables.proofs.PoolsHold.{PoolsRise}
use Rattle.pi_classlaws.proofs.ArrangedKept.{map_arranged, arranged_agrees}
use Rattle.pi_classlaws.proofs.NamingsFiled.{FieldHeld}
use Rattle.pi_dexrows.specs.declared.fields.FieldPart.{FieldPart}
use Rattle.pi_dexrows.specs.Parts.{part_of, parts_of, by_field_id, statics_among, instances_among, set_values, rows_of}
use Rattle.pi_dexrows.proofs.Ranks.{fields_alike}

-- the images that pass a test are those of the things that pass it
module _ {A B : Type 0} (f : A → B) (q : B → Bool) where
  filter_images : (xs : List A) → filter q (map f xs) ≡ map f (filter (λ x. q (f x)) xs)
  filter_images [] = refl
  filter_images (x ∷ xs) = by_test (q (f x)) refl (filter_images xs)
    where
      by_test : (b : Bool) → q (f x) ≡ b → filter q (map f xs) ≡ map f (filter (λ x. q (f x)) xs)
          → filter q (map f (x ∷ xs)) ≡ map f (filter (λ x. q (f x)) (x ∷ xs))
      by_test true e more = rw e (ap (λ (ys : List B). f x ∷ ys) more)
      by_test false e more = rw e more

module _ (p : Pools) (class : List ℕ) where
  abbrev part : FieldContent → FieldPart
  part f = part_of p class f

  pub parts_are : (text : NameNo → List ℕ) (fs : List FieldDesc) → parts_of p text class fs ≡ map part (map (field_content text) fs)
  parts_are text [] = refl
  parts_are text (f ∷ fs) = ap (λ (ps : List FieldPart). part (field_content text f) ∷ ps) (parts_are text fs)

  set_alike : (fs : List FieldContent) → list_any (λ (g : FieldPart). g.is_set) (map part fs) ≡ list_any (λ (g : FieldContent). has_init g.init) fs
  set_alike [] = refl
  set_alike (f ∷ fs) = ap (λ (b : Bool). has_init f.init || b) (set_alike fs)

  values_are : (fs : List FieldContent) → set_values (map part fs) ≡ values_of p fs
  values_are [] = refl
  values_are (f ∷ fs) = by_test (list_any (λ (g : FieldContent). has_init g.init) (f ∷ fs)) refl (values_are fs)
    where
      by_test : (b : Bool) → list_any (λ (g : FieldContent). has_init g.init) (f ∷ fs) ≡ b → set_values (map part fs) ≡ values_of p fs
          → set_values (map part (f ∷ fs)) ≡ values_of p (f ∷ fs)
      by_test true e more = rw (set_alike (f ∷ fs), e) (ap (λ (vs : List Value). value_of p f.ty f.init ∷ vs) more)
      by_test false e more = rw (set_alike (f ∷ fs), e) refl

  rows_are : (fs : List FieldContent) → rows_of (map part fs) ≡ map (field_row p class) fs
  rows_are [] = refl
  rows_are (f ∷ fs) = ap (λ (rs : List FieldRow). field_row p class f ∷ rs) (rows_are fs)

  module _ (rise : PoolsRise p) where
    arranged_alike : (fs : List FieldContent) → All (FieldHeld p class) fs → arranged by_field_id (map part fs) ≡ map part (arranged field_rank fs)
    arranged_alike fs held =
        sym (map_arranged part by_field_id fs)
        ∙ ap (map part) (arranged_agrees (λ (f g : FieldContent). by_field_id (part f) (part g)) field_rank fs (fields_alike p rise class fs held))

    statics_are : (c : ClassContent) → All (FieldHeld p class) c.fields → statics_among (map part c.fields) ≡ map part (statics_of c)
    statics_are c held =
        ap (arranged by_field_id) (filter_images part (λ (f : FieldPart). is_static f.row.flags) c.fields)
        ∙ arranged_alike (filter (λ (f : FieldContent). is_static f.flags) c.fields)
        (All-filter (λ (f : FieldContent). is_static f.flags) (FieldHeld p class) c.fields held)

    instances_are : (c : ClassContent) → All (FieldHeld p class) c.fields → instances_among (map part c.fields) ≡ map part (instances_of c)
    instances_are c held =
        ap (arranged by_field_id) (filter_images part (λ (f : FieldPart). not (is_static f.row.flags)) c.fields)
        ∙ arranged_alike (filter (λ (f : FieldContent). not (is_static f.flags)) c.fields)
        (All-filter (λ (f : FieldContent). not (is_static f.flags)) (FieldHeld p class) c.fields held)

    module _ (c : ClassContent) (held : All (FieldHeld p class) c.fields) where
      pub static_values : set_values (statics_among (map part c.fields)) ≡ values_of p (statics_of c)
      static_values = ap set_values (statics_are c held) ∙ values_are (statics_of c)

      pub static_rows : rows_of (statics_among (map part c.fields)) ≡ map (field_row p class) (statics_of c)
      static_rows = ap rows_of (statics_are c held) ∙ rows_are (statics_of c)

      pub instance_rows : rows_of (instances_among (map part c.fields)) ≡ map (field_row p class) (instances_of c)
      instance_rows = ap rows_of (instances_are c held) ∙ rows_are (instances_of c)
