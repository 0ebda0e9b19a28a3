-- What the machine finds in the program of a small file: its class, the fields that its codes name, the native that
-- they call, and the codes by the numbers of their methods.
use Rattle.std.proofs.Common.{◌≡◌, ℕ, ◌<◌, Bool, true, false, [], ◌∷◌, length, Option, Some, None, refl, sym, ◌∙◌, ap, zero-add}
use Rattle.std.proofs.lemmas.Option.{slice_get_within}
use Rattle.std.specs.Prelude.{nat_lt, slice_get, cond, ◌&&◌, ◌==◌, not, is_some, unwrap_or, option_and_then}
use Rattle.std.specs.List.{list_all, position_or_len}
use Rattle.pi_model.specs.declared.numbers.NameNo.{NameNo}
use Rattle.pi_model.specs.declared.describe.ClassDesc.{ClassDesc}
use Rattle.pi_model.specs.declared.describe.MethodDesc.{MethodDesc}
use Rattle.pi_model.specs.declared.describe.FieldDesc.{FieldDesc}
use Rattle.pi_model.specs.declared.insn.FieldRef.{FieldRef}
use Rattle.pi_model.specs.declared.insn.MethodRef.{MethodRef}
use Rattle.pi_model.specs.Program.{same_name, method_count, method_number}
use Rattle.pi_model.specs.Search.{same_names, field_from, in_class, class_of, own_field, find_field, find_method, field_no_of, method_of, method_at}
use Rattle.pi_model.proofs.Members.{member_back}
use Rattle.pi_format.specs.Core.{core_names, object_name, out_name, print_name, int_name, void_name}
use Rattle.pi_duty.specs.Small.{is_print, names_own, parent_fits, is_empty, field_fits, methods_fit, class_fits}
use Rattle.pi_duty.specs.Shape.{small_chain, Brought}
use Rattle.pi_model.specs.Known.{descriptor_of}
use Rattle.pi_model.specs.declared.insn.How.TheVariants.{Static}
use Rattle.pi_model.specs.declared.insn.Kind.TheVariants as kind
use Rattle.pi_machine.specs.Natives.{PrintInt, native_table}
use Rattle.pi_machine.specs.Codes.{code_in, code_of}
use Rattle.pi_machine.specs.Rows.Calls.{native_at, argument_kinds}
use Rattle.pi_machine.proofs.Truths.{both, not_false, same_self, turned}
use Rattle.pi_top.specs.Row.{place_of}
use Rattle.pi_top.proofs.Roles.{same_name-is, same_names-is}
use Rattle.pi_top.proofs.Words.{lt_of}

-- the parts of the test of a class
pub record ClassIs (d : ClassDesc) : Type 0 where
  pub no_object : (0 == d.name.0) ≡ false
  pub no_out : (1 == d.name.0) ≡ false
  pub parent : d.parent ≡ Some object_name
  pub fields : list_all field_fits d.fields ≡ true
  pub methods : methods_fit d d.methods ≡ true

parent_is : (p : Option NameNo) → parent_fits p ≡ true → p ≡ Some object_name
parent_is None e = cc
parent_is (Some n) e = ap Some (same_name-is n object_name e)

pub class_is : (d : ClassDesc) → class_fits d ≡ true → ClassIs d
class_is d e =
    let members : Bool = list_all field_fits d.fields && methods_fit d d.methods in
    let a : (not (same_name d.name object_name) ≡ true) × ((not (same_name d.name out_name) && (parent_fits d.parent && (is_empty d.faces && members))) ≡ true) = both _ _ e in
    let b : (not (same_name d.name out_name) ≡ true) × ((parent_fits d.parent && (is_empty d.faces && members)) ≡ true) = both _ _ a.1 in
    let c : (parent_fits d.parent ≡ true) × ((is_empty d.faces && members) ≡ true) = both _ _ b.1 in
    let f : (is_empty d.faces ≡ true) × (members ≡ true) = both _ _ c.1 in
    let g : (list_all field_fits d.fields ≡ true) × (methods_fit d d.methods ≡ true) = both _ _ f.1 in
    record {
      no_object = turned d.name.0 0 false (not_false _ a.0);
      no_out = turned d.name.0 1 false (not_false _ b.0);
      parent = parent_is d.parent c.0;
      fields = g.0;
      methods = g.1;
    }

print_ref : MethodRef
print_ref = record { class = out_name; name = print_name; params = int_name ∷ []; ret = void_name }

print_is : (m : MethodRef) → is_print m ≡ true → m ≡ print_ref
unfolding print_ref
print_is m e =
    let a : (same_name m.class out_name ≡ true) × ((same_name m.name print_name && (same_names m.params (int_name ∷ []) && same_name m.ret void_name)) ≡ true) = both _ _ e in
    let b : (same_name m.name print_name ≡ true) × ((same_names m.params (int_name ∷ []) && same_name m.ret void_name) ≡ true) = both _ _ a.1 in
    let c : (same_names m.params (int_name ∷ []) ≡ true) × (same_name m.ret void_name ≡ true) = both _ _ b.1 in
    let h : m.class ≡ out_name = same_name-is _ _ a.0 in
    let i : m.name ≡ print_name = same_name-is _ _ b.0 in
    let j : m.params ≡ int_name ∷ [] = same_names-is _ _ c.0 in
    let k : m.ret ≡ void_name = same_name-is _ _ c.1 in
    rw (← h, ← i, ← j, ← k) refl

some_within : (b : Bool) (n k : ℕ) → nat_lt n k ≡ b → is_some (cond b (Some n) None) ≡ true → unwrap_or (cond b (Some n) None) 0 < k
some_within true n k is e = lt_of n k is
some_within false n k is e = cc

module _ (new : Brought) (d : ClassDesc) (is : ClassIs d) where
  finds_class : class_of (small_chain new d) d.name ≡ Some 2
  finds_class = rw (is.no_object, is.no_out, same_self d.name.0) refl

  own_is : (f : FieldRef) (o : Option ℕ) → own_field d f ≡ o → is_some o ≡ true → own_field d f ≡ Some (place_of d f)
  own_is f None e h = cc
  own_is f (Some i) e h = e ∙ ap Some (sym (ap (λ (o : Option ℕ). unwrap_or o 0) e))

  pub finds_field : (f : FieldRef) → names_own d f ≡ true → find_field (small_chain new d) f ≡ Some (in_class 2 (place_of d f))
  finds_field f e =
      let a : (same_name f.class d.name ≡ true) × (is_some (own_field d f) ≡ true) = both _ _ e in
      let b : f.class ≡ d.name = same_name-is _ _ a.0 in
      let c : own_field d f ≡ Some (place_of d f) = own_is f (own_field d f) refl a.1 in
      let g : field_from 3 (small_chain new d) f 2 ≡ Some (in_class 2 (place_of d f)) = rw c refl in
      ap (option_and_then (field_from 3 (small_chain new d) f)) (ap (class_of (small_chain new d)) b ∙ finds_class) ∙ g

  pub place_within : (f : FieldRef) → names_own d f ≡ true → place_of d f < length d.fields
  place_within f e =
      let a : (same_name f.class d.name ≡ true) × (is_some (own_field d f) ≡ true) = both _ _ e in
      some_within (nat_lt (position_or_len (λ (x : FieldDesc). same_name x.name f.name && same_name x.ty f.ty) d.fields) (length d.fields))
      (position_or_len (λ (x : FieldDesc). same_name x.name f.name && same_name x.ty f.ty) d.fields) (length d.fields) refl a.1

  pub finds_print : (m : MethodRef) → is_print m ≡ true → find_method (small_chain new d) m ≡ Some (in_class 1 0)
  unfolding print_ref
  finds_print m e = rw (print_is m e) refl

  pub print_native : native_at (small_chain new d) (in_class 1 0) ≡ Some PrintInt
  unfolding native_table descriptor_of core_names
  print_native = refl

  pub print_kinds : (m : MethodRef) → is_print m ≡ true → argument_kinds (small_chain new d) Static m ≡ kind.Word ∷ []
  unfolding print_ref core_names
  print_kinds m e = rw (print_is m e) refl

  pub field_number_is : (i : ℕ) → field_no_of (small_chain new d) (in_class 2 i) ≡ i
  field_number_is i = zero-add i

  parent_class : class_of (small_chain new d) object_name ≡ Some 0
  parent_class = refl

  -- the code of the method at a place of the class
  pub finds_method : (place : ℕ) (m : MethodDesc) → slice_get d.methods place ≡ Some m
      → method_of (small_chain new d) (method_number (small_chain new d) 2 place) ≡ Some (in_class 2 place)
  finds_method place m e = member_back method_count (small_chain new d).classes 0 2 place (method_number (small_chain new d) 2 place) 2 (slice_get_within d.methods place m e) refl refl

  pub finds_code : (place : ℕ) (m : MethodDesc) → slice_get d.methods place ≡ Some m
      → code_of (small_chain new d) (method_number (small_chain new d) 2 place) ≡ m.code
  finds_code place m e = ap (λ o. code_in (option_and_then (method_at (small_chain new d)) o)) (finds_method place m e) ∙ ap code_in e
