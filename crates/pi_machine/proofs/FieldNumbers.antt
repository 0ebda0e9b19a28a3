-- Fields by their numbers: that of a class's own list, and that which an instruction names.
use Rattle.std.proofs.Common.{◌≡◌, ℕ, zero, suc, ◌+◌, ◌<◌, List, [], ◌∷◌, take, sum_by, length, slice_get, Option, Some, None, Bool, true, false, IsSomeAnd, option_map, refl, sym, subst, ap, arith}
use Rattle.std.specs.Prelude.{◌&&◌, ◌-◌, nat_lt, if◌then◌else◌, option_and_then, ◌++◌}
use Rattle.std.proofs.lemmas.List.Quantifiers.{position-Some}
use Rattle.pi_model.specs.declared.numbers.NameNo.{NameNo}
use Rattle.pi_model.specs.declared.describe.ClassDesc.{ClassDesc}
use Rattle.pi_model.specs.declared.describe.FieldDesc.{FieldDesc}
use Rattle.pi_model.specs.declared.describe.Init.TheVariants.{Zero}
use Rattle.pi_model.specs.declared.insn.FieldRef.{FieldRef}
use Rattle.pi_model.specs.Program.{Program, same_name, field_count, field_number}
use Rattle.pi_model.specs.Search.{Member, class_at, class_of, in_class, or_else, first_among, parent_list, own_field, field_in, field_from, find_field, field_no_of, member_by}
use Rattle.pi_model.proofs.Members.{below_all, member_back}
use Rattle.pi_machine.specs.StepLaws.{IsFieldOf}
use Rattle.pi_machine.proofs.Truths.{some_same}

-- the field at a place of a class's own list, by its number
pub field_at : (p : Program) (c : ℕ) (d : ClassDesc) → class_at p c ≡ Some d → (place f : ℕ) → f ≡ field_number p c place → place < length d.fields → IsFieldOf p c f
field_at p c d e place f is below =
    let there : IsSomeAnd (slice_get p.classes c) (λ (x : ClassDesc). place < field_count x) =
    subst (λ (o : Option ClassDesc). IsSomeAnd o (λ (x : ClassDesc). place < field_count x)) (sym e) below in
    let least : sum_by field_count (take c p.classes) + place < sum_by field_count p.classes = below_all field_count p.classes c place there in
    record {
      place = place;
      member = member_back field_count p.classes 0 c place f c there is (omega arith);
      below = omega (arith, least, is);
    }

-- what is found, where anything is, is a field of the class that is told
module _ (p : Program) (r : FieldRef) where
  record Finds (o : Option Member) : Type 0 where
    found : (i : Member) → o ≡ Some i → IsFieldOf p i.class (field_no_of p i)

  finds_none : Finds None
  finds_none = record { found = λ i e. cc }

  finds_either : (a b : Option Member) → Finds a → Finds b → Finds (or_else a b)
  finds_either None b x y = y
  finds_either (Some i) b x y = x

  finds_own : (c : ℕ) (d : ClassDesc) (o : Option ℕ) → class_at p c ≡ Some d → own_field d r ≡ o → Finds (option_map (in_class c) o)
  finds_own c d None e is = finds_none
  finds_own c d (Some place) e is =
      let at : (place < length d.fields) × _ × _ =
      position-Some (λ (x : FieldDesc). same_name x.name r.name && same_name x.ty r.ty) d.fields place (record { name = r.name; ty = r.ty; flags = 0; init = Zero }) is in
      record { found = λ i same. subst (λ (j : Member). IsFieldOf p j.class (field_no_of p j)) (some_same (in_class c place) i same) (field_at p c d e place (field_number p c place) refl (at.0)) }

  finds_then : (f : ℕ → Option Member) (o : Option ℕ) → ((c : ℕ) → Finds (f c)) → Finds (option_and_then f o)
  finds_then f None h = finds_none
  finds_then f (Some c) h = h c

  finds_among : (f : ℕ → Option Member) (ns : List NameNo) → ((c : ℕ) → Finds (f c)) → Finds (first_among p f ns)
  finds_among f [] h = finds_none
  finds_among f (n ∷ ns) h = finds_either (option_and_then f (class_of p n)) (first_among p f ns) (finds_then f (class_of p n) h) (finds_among f ns h)

  finds_in : (above : ℕ → Option Member) (c : ℕ) (d : Option ClassDesc) → class_at p c ≡ d → ((c : ℕ) → Finds (above c)) → Finds (field_in p r above c d)
  finds_in above c None e h = finds_none
  finds_in above c (Some d) e h =
      finds_either (option_map (in_class c) (own_field d r)) (first_among p above (d.faces ++ parent_list d.parent))
      (finds_own c d (own_field d r) e refl) (finds_among above (d.faces ++ parent_list d.parent) h)

  finds_from : (n c : ℕ) → Finds (field_from n p r c)
  finds_from zero c = finds_none
  finds_from (suc n) c = finds_in (field_from n p r) c (class_at p c) refl (finds_from n)

  finds_field : Finds (find_field p r)
  finds_field = finds_then (field_from (length p.classes) p r) (class_of p r.class) (finds_from (length p.classes))

-- the field that an instruction names, by its number
pub found_field : (p : Program) (r : FieldRef) (i : Member) → find_field p r ≡ Some i → IsFieldOf p i.class (field_no_of p i)
found_field p r i e = (finds_field p r).found i e

-- the class of a member that a number has is there
pub member_class : (count : ClassDesc → ℕ) (ds : List ClassDesc) (first n : ℕ) (i : Member) → member_by count ds first n ≡ Some i
    → (k : ℕ) × (d : ClassDesc) × (i.class ≡ first + k) × (slice_get ds k ≡ Some d)
member_class count [] first n i e = cc
member_class count (d ∷ ds) first n i e = by_first (nat_lt n (count d)) e (member_class count ds (first + 1) (n - count d) i)
  where
    by_first : (b : Bool) → (if b then Some (in_class first n) else member_by count ds (first + 1) (n - count d)) ≡ Some i
        → (member_by count ds (first + 1) (n - count d) ≡ Some i → (k : ℕ) × (x : ClassDesc) × (i.class ≡ first + 1 + k) × (slice_get ds k ≡ Some x))
        → (k : ℕ) × (x : ClassDesc) × (i.class ≡ first + k) × (slice_get (d ∷ ds) k ≡ Some x)
    by_first true h rest = let here : first ≡ i.class = ap (λ (x : Member). x.class) (some_same (in_class first n) i h) in (0, d, omega (arith, here), refl)
    by_first false h rest = let later : (k : ℕ) × (x : ClassDesc) × (i.class ≡ first + 1 + k) × (slice_get ds k ≡ Some x) = rest h in
        let at : i.class ≡ first + 1 + later.0 = later.2 in (suc (later.0), later.1, omega (arith, at), later.3)
