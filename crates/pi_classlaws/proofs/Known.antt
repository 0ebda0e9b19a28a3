-- That the entries of pools say again what they were made of.
use Rattle.std.proofs.Common.{◌≡◌, ℕ, ◌<◌, List, [], ◌∷◌, map, length, get_or, Ordering, refl, ap, ◌∙◌}
use Rattle.std.specs.List.{All}
use Rattle.std.proofs.lemmas.List.{get_or-map}
use Rattle.std.proofs.lemmas.List.Elements.{All-head, All-tail}
use Rattle.pi_dextables.specs.declared.tables.Class.{Class}
use Rattle.pi_contents.specs.Contents.{FieldName, Prototype, MethodName}
use Rattle.pi_tablesaid.specs.Entries.{text_at, type_at, no_proto, prototype_of, prototype_at, no_member, field_of, field_at, method_of, method_at}
use Rattle.pi_classtables.specs.Sorted.{place_in}
use Rattle.pi_classtables.specs.Numbers.{Pools, string_no, type_no, proto_no, field_no, method_no, proto_entry, field_entry, method_entry}
use Rattle.pi_classtables.specs.Whole.{tables_with}
use Rattle.pi_classtables.proofs.Orders.{IsExactOrder, text_exact, proto_exact, field_exact, method_exact}
use Rattle.pi_classtables.proofs.Sortings.{place_reads}
pub use Rattle.pi_classtables.proofs.Held.{HoldsText, HoldsType, HoldsProto, HoldsField, HoldsMethod, HoldsNaming, all_held}

-- the entry of a thing stands at its number
pub entry_there : {A B : Type 0} {cmp : A → A → Ordering} → IsExactOrder cmp → (f : A → B) (x : A) (xs : List A) (e : B)
    → place_in cmp x xs < length xs → get_or (map f xs) (place_in cmp x xs) e ≡ f x
entry_there {cmp = cmp} o f x xs e lt = get_or-map f xs (place_in cmp x xs) x e lt ∙ ap f (place_reads o x xs x lt)

-- what is made of each thing gives it back
pub each_again : {A B : Type 0} (P : A → Type 0) (say : B → A) (enter : A → B) → ((x : A) → P x → say (enter x) ≡ x)
    → (xs : List A) → All P xs → map say (map enter xs) ≡ xs
each_again P say enter again [] h = refl
each_again P say enter again (x ∷ xs) h =
    let first = again x (All-head P x xs h) in
    let rest = each_again P say enter again xs (All-tail P x xs h) in
    cc

-- and the entries say it again
module _ (p : Pools) (classes : List Class) where
  pub text_again : (s : List ℕ) → HoldsText p s → text_at (tables_with p classes) (string_no p s) ≡ s
  text_again s h = place_reads text_exact s p.strings [] h.number

  pub type_again : (u : List ℕ) → HoldsType p u → type_at (tables_with p classes) (type_no p u) ≡ u
  type_again u h = ap (text_at (tables_with p classes)) (entry_there text_exact (string_no p) u p.types 0 h.number) ∙ text_again u h.text

  pub types_again : (us : List (List ℕ)) → All (HoldsType p) us → map (type_at (tables_with p classes)) (map (type_no p) us) ≡ us
  types_again = each_again (HoldsType p) (type_at (tables_with p classes)) (type_no p) type_again

  -- by the entries themselves, and by their numbers
  pub proto_entry_again : (q : Prototype) → HoldsProto p q → prototype_of (tables_with p classes) (proto_entry p q) ≡ q
  proto_entry_again q h = λ i. record { params = types_again q.params h.params i; ret = type_again q.ret h.ret i }

  pub proto_again : (q : Prototype) → HoldsProto p q → prototype_at (tables_with p classes) (proto_no p q) ≡ q
  proto_again q h =
      ap (prototype_of (tables_with p classes)) (entry_there proto_exact (proto_entry p) q p.protos no_proto h.number) ∙ proto_entry_again q h

  pub field_entry_again : (f : FieldName) → HoldsField p f → field_of (tables_with p classes) (field_entry p f) ≡ f
  field_entry_again f h =
      λ i. record { class = type_again f.class h.class i; name = text_again f.name h.name i; ty = type_again f.ty h.ty i }

  pub field_again : (f : FieldName) → HoldsField p f → field_at (tables_with p classes) (field_no p f) ≡ f
  field_again f h =
      ap (field_of (tables_with p classes)) (entry_there field_exact (field_entry p) f p.fields no_member h.number) ∙ field_entry_again f h

  pub method_entry_again : (m : MethodName) → HoldsMethod p m → method_of (tables_with p classes) (method_entry p m) ≡ m
  method_entry_again m h =
      λ i. record { class = type_again m.class h.class i; name = text_again m.name h.name i; proto = proto_again m.proto h.proto i }

  pub method_again : (m : MethodName) → HoldsMethod p m → method_at (tables_with p classes) (method_no p m) ≡ m
  method_again m h =
      ap (method_of (tables_with p classes)) (entry_there method_exact (method_entry p) m p.methods no_member h.number) ∙ method_entry_again m h
