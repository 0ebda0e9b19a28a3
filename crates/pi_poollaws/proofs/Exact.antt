-- That the tests by which things are gathered once tell things apart.
use Rattle.std.proofs.Common.{◌≡◌, ℕ, true, ◌&&◌, List, [], ◌∷◌, nat_eq, refl}
use Rattle.std.specs.Prelude.{◌==◌}
use Rattle.std.proofs.lemmas.Bool.{and_parts, and_from, eqb-true, eq-eqb}
use Rattle.pi_model.specs.Texts.{same_text}
use Rattle.pi_said.proofs.Names.{text_equal}
use Rattle.pi_dexpools.specs.declared.gathered.MemberParts.{MemberParts}
use Rattle.pi_dexpools.specs.declared.gathered.ProtoParts.{ProtoParts}
use Rattle.pi_dexpools.specs.Gathered.{same_proto, same_member}
use Rattle.pi_poollaws.proofs.Lists.{IsExact}

pub nats_exact : IsExact nat_eq
nats_exact = record { sound = λ x y e. eqb-true x y e; itself = λ x. eq-eqb x x refl }

text_itself : (s : List ℕ) → same_text s s ≡ true
text_itself [] = refl
text_itself (x ∷ s) = and_from (nat_eq x x) (same_text s s) (eq-eqb x x refl) (text_itself s)

pub texts_exact : IsExact same_text
texts_exact = record { sound = text_equal; itself = text_itself }

protos_sound : (p q : ProtoParts) → same_proto p q ≡ true → p ≡ q
protos_sound p q e =
    let first = and_parts (p.short == q.short) ((p.ret == q.ret) && same_text p.params q.params) e in
    let second = and_parts (p.ret == q.ret) (same_text p.params q.params) first.1 in
    λ i. record {
      short = eqb-true p.short q.short first.0 i;
      ret = eqb-true p.ret q.ret second.0 i;
      params = text_equal p.params q.params second.1 i;
    }

pub protos_exact : IsExact same_proto
protos_exact = record {
  sound = protos_sound;
  itself = λ p. and_from (p.short == p.short) ((p.ret == p.ret) && same_text p.params p.params) (eq-eqb p.short p.short refl)
      (and_from (p.ret == p.ret) (same_text p.params p.params) (eq-eqb p.ret p.ret refl) (text_itself p.params));
}

members_sound : (m n : MemberParts) → same_member m n ≡ true → m ≡ n
members_sound m n e =
    let first = and_parts (m.class == n.class) ((m.name == n.name) && (m.kind == n.kind)) e in
    let second = and_parts (m.name == n.name) (m.kind == n.kind) first.1 in
    λ i. record {
      class = eqb-true m.class n.class first.0 i;
      name = eqb-true m.name n.name second.0 i;
      kind = eqb-true m.kind n.kind second.1 i;
    }

pub members_exact : IsExact same_member
members_exact = record {
  sound = members_sound;
  itself = λ m. and_from (m.class == m.class) ((m.name == m.name) && (m.kind == m.kind)) (eq-eqb m.class m.class refl)
      (and_from (m.name == m.name) (m.kind == m.kind) (eq-eqb m.name m.name refl) (eq-eqb m.kind m.kind refl));
}
