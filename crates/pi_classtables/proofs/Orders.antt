-- That the orders of what classes name are total, and that nothing is level with a thing but itself.
use Rattle.std.proofs.Common.{◌≡◌, List, [], ◌∷◌, Ordering, Less, Equal, Greater, nat_cmp, refl, ap, ◌∙◌, subst}
use Rattle.std.specs.Cmp.{IsTotalOrder}
use Rattle.std.specs.Cmp.Lexicographic.{slice_cmp}
use Rattle.std.specs.Ordering.{ordering_then, ordering_reverse}
use Rattle.std.proofs.lemmas.Cmp.{tied_itself, nat_cmp_total, on_total, then_total, lists_total}
use Rattle.std.proofs.lemmas.Map.Lookups.{CmpEqualImpliesEq, exact_unsigned}
use Rattle.pi_contents.specs.Contents.{FieldName, Prototype, MethodName}
use Rattle.pi_classtables.specs.Sorted.{text_order, texts_order}
use Rattle.pi_classtables.specs.Numbers.{proto_order, field_order, method_order}

-- what sorting without equal things needs of an order
pub record IsExactOrder {A : Type 0} (cmp : A → A → Ordering) : Type 0 where
  pub total : IsTotalOrder cmp
  pub same : CmpEqualImpliesEq cmp

module _ {A : Type 0} {cmp : A → A → Ordering} (o : IsExactOrder cmp) where
  pub equal_itself : (x : A) → cmp x x ≡ Equal
  equal_itself x = tied_itself o.total x

  pub equal_from_same : (x y : A) → x ≡ y → cmp x y ≡ Equal
  equal_from_same x y e = subst (λ (z : A). cmp x z ≡ Equal) e (equal_itself x)

  pub greater_back : (x y : A) → cmp x y ≡ Greater → cmp y x ≡ Less
  greater_back x y e = o.total.antisymm y x ∙ ap ordering_reverse e

  pub less_back : (x y : A) → cmp x y ≡ Less → cmp y x ≡ Greater
  less_back x y e = o.total.antisymm y x ∙ ap ordering_reverse e

-- two orders, one where the other says equal, say equal only together
pub both_equal : (a b : Ordering) → ordering_then a b ≡ Equal → (a ≡ Equal) × (b ≡ Equal)
both_equal Less b e = cc
both_equal Equal b e = (refl, e)
both_equal Greater b e = cc

pub nats_exact : IsExactOrder nat_cmp
nats_exact = record { total = nat_cmp_total; same = exact_unsigned }

module _ {A : Type 0} {cmp : A → A → Ordering} (o : IsExactOrder cmp) where
  lists_same : (xs ys : List A) → slice_cmp cmp xs ys ≡ Equal → xs ≡ ys
  lists_same [] [] e = refl
  lists_same [] (y ∷ ys) e = cc
  lists_same (x ∷ xs) [] e = cc
  lists_same (x ∷ xs) (y ∷ ys) e =
      let parts = both_equal (cmp x y) (slice_cmp cmp xs ys) e in
      let first = o.same x y parts.0 in
      let rest = lists_same xs ys parts.1 in
      cc

  pub lists_exact : IsExactOrder (slice_cmp cmp)
  lists_exact = record { total = lists_total o.total; same = lists_same }

pub text_exact : IsExactOrder text_order
text_exact = lists_exact nats_exact

pub texts_exact : IsExactOrder texts_order
texts_exact = lists_exact text_exact

protos_same : (p q : Prototype) → proto_order p q ≡ Equal → p ≡ q
protos_same p q e =
    let parts = both_equal (text_order p.ret q.ret) (texts_order p.params q.params) e in
    λ i. record { params = texts_exact.same p.params q.params parts.1 i; ret = text_exact.same p.ret q.ret parts.0 i }

pub proto_exact : IsExactOrder proto_order
proto_exact = record {
  total = then_total (on_total (λ (p : Prototype). p.ret) text_exact.total) (on_total (λ (p : Prototype). p.params) texts_exact.total);
  same = protos_same;
}

fields_same : (f g : FieldName) → field_order f g ≡ Equal → f ≡ g
fields_same f g e =
    let parts = both_equal (text_order f.class g.class) (ordering_then (text_order f.name g.name) (text_order f.ty g.ty)) e in
    let more = both_equal (text_order f.name g.name) (text_order f.ty g.ty) parts.1 in
    λ i. record {
      class = text_exact.same f.class g.class parts.0 i;
      name = text_exact.same f.name g.name more.0 i;
      ty = text_exact.same f.ty g.ty more.1 i;
    }

pub field_exact : IsExactOrder field_order
field_exact = record {
  total = then_total (on_total (λ (f : FieldName). f.class) text_exact.total)
      (then_total (on_total (λ (f : FieldName). f.name) text_exact.total) (on_total (λ (f : FieldName). f.ty) text_exact.total));
  same = fields_same;
}

methods_same : (m n : MethodName) → method_order m n ≡ Equal → m ≡ n
methods_same m n e =
    let parts = both_equal (text_order m.class n.class) (ordering_then (text_order m.name n.name) (proto_order m.proto n.proto)) e in
    let more = both_equal (text_order m.name n.name) (proto_order m.proto n.proto) parts.1 in
    λ i. record {
      class = text_exact.same m.class n.class parts.0 i;
      name = text_exact.same m.name n.name more.0 i;
      proto = proto_exact.same m.proto n.proto more.1 i;
    }

pub method_exact : IsExactOrder method_order
method_exact = record {
  total = then_total (on_total (λ (m : MethodName). m.class) text_exact.total)
      (then_total (on_total (λ (m : MethodName). m.name) text_exact.total) (on_total (λ (m : MethodName). m.proto) proto_exact.total));
  same = methods_same;
}
