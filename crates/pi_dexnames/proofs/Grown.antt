-- What grows twice has grown.
use Rattle.std.proofs.Common.{◌≡◌, ◌≤◌, List, length, take, ap, sym, ◌∙◌, arith}
use Rattle.std.proofs.lemmas.List.{take-take, length-take}
use Rattle.std.proofs.Math.Seq.{take-length}
use Rattle.pi_dexpools.specs.declared.gathered.Gathered.{Gathered}
use Rattle.pi_dexpools.specs.Gathered.{IsGrown}

-- the first elements of a list are no more than it has
no_longer : {A : Type 0} (a b : List A) → take (length a) b ≡ a → length a ≤ length b
no_longer a b front = omega (arith, length-take (length a) b, ap length front)

front_twice : {A : Type 0} (a b c : List A) → take (length a) b ≡ a → take (length b) c ≡ b → take (length a) c ≡ a
front_twice a b c front longer =
    sym (take-take (length a) (length b) c (no_longer a b front)) ∙ ap (λ z. take (length a) z) longer ∙ front

-- what has the same parts is the same
same_parts : (a b : Gathered) → a.texts ≡ b.texts → a.types ≡ b.types → a.protos ≡ b.protos → a.fields ≡ b.fields
    → a.methods ≡ b.methods → a ≡ b
same_parts a b texts types protos fields methods =
    λ i. record { texts = texts i; types = types i; protos = protos i; fields = fields i; methods = methods i }

pub grown_itself : (a : Gathered) → IsGrown a a
grown_itself a =
    same_parts _ a (take-length a.texts) (take-length a.types) (take-length a.protos) (take-length a.fields)
    (take-length a.methods)

pub grown_twice : (a b c : Gathered) → IsGrown a b → IsGrown b c → IsGrown a c
grown_twice a b c one two =
    same_parts _ a
    (front_twice a.texts b.texts c.texts (ap (λ (g : Gathered). g.texts) one) (ap (λ (g : Gathered). g.texts) two))
    (front_twice a.types b.types c.types (ap (λ (g : Gathered). g.types) one) (ap (λ (g : Gathered). g.types) two))
    (front_twice a.protos b.protos c.protos (ap (λ (g : Gathered). g.protos) one) (ap (λ (g : Gathered). g.protos) two))
    (front_twice a.fields b.fields c.fields (ap (λ (g : Gathered). g.fields) one) (ap (λ (g : Gathered). g.fields) two))
    (front_twice a.methods b.methods c.methods (ap (λ (g : Gathered). g.methods) one) (ap (λ (g : Gathered). g.methods) two))
