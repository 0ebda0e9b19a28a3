-- What is gathered grows at its ends: what stands first stays first through any further growth.
use Rattle.std.proofs.Common.{◌≡◌, ℕ, ◌≤◌, List, length, take, ap, sym, ◌∙◌, arith}
use Rattle.std.proofs.Math.Seq.{take-length}
use Rattle.std.proofs.lemmas.List.{length-take, take-take}
use Rattle.pi_dexpools.specs.declared.gathered.Gathered.{Gathered}
use Rattle.pi_dexpools.specs.declared.gathered.MemberParts.{MemberParts}
use Rattle.pi_dexpools.specs.declared.gathered.ProtoParts.{ProtoParts}
use Rattle.pi_dexpools.specs.Gathered.{IsGrown, counts_of, cut}

-- what is gathered is the same where each of its lists is
pub same_gathered : (a b : Gathered) → a.texts ≡ b.texts → a.types ≡ b.types → a.protos ≡ b.protos → a.fields ≡ b.fields → a.methods ≡ b.methods → a ≡ b
same_gathered a b texts types protos fields methods = λ i. record { texts = texts i; types = types i; protos = protos i; fields = fields i; methods = methods i }

pub starts_trans : {A : Type 0} (a b c : List A) → take (length a) b ≡ a → take (length b) c ≡ b → take (length a) c ≡ a
starts_trans a b c p q =
    let short : length a ≤ length b = omega (arith, ap length p, length-take (length a) b) in
    sym (take-take (length a) (length b) c short) ∙ (ap (take (length a)) q ∙ p)

pub grown_refl : (g : Gathered) → IsGrown g g
grown_refl g = same_gathered (cut (counts_of g) g) g (take-length g.texts) (take-length g.types) (take-length g.protos) (take-length g.fields) (take-length g.methods)

pub grown_trans : (a b c : Gathered) → IsGrown a b → IsGrown b c → IsGrown a c
grown_trans a b c p q =
    same_gathered (cut (counts_of a) c) a
    (starts_trans a.texts b.texts c.texts (ap (λ (g : Gathered). g.texts) p) (ap (λ (g : Gathered). g.texts) q))
    (starts_trans a.types b.types c.types (ap (λ (g : Gathered). g.types) p) (ap (λ (g : Gathered). g.types) q))
    (starts_trans a.protos b.protos c.protos (ap (λ (g : Gathered). g.protos) p) (ap (λ (g : Gathered). g.protos) q))
    (starts_trans a.fields b.fields c.fields (ap (λ (g : Gathered). g.fields) p) (ap (λ (g : Gathered). g.fields) q))
    (starts_trans a.methods b.methods c.methods (ap (λ (g : Gathered). g.methods) p) (ap (λ (g : Gathered). g.methods) q))

-- one list that grows leaves the others as they stand
pub texts_grown : (g : Gathered) (xs : List (List ℕ)) → take (length g.texts) xs ≡ g.texts → IsGrown g (record g { texts = xs })
texts_grown g xs e = same_gathered (cut (counts_of g) (record g { texts = xs })) g e (take-length g.types) (take-length g.protos) (take-length g.fields) (take-length g.methods)

pub types_grown : (g : Gathered) (xs : List ℕ) → take (length g.types) xs ≡ g.types → IsGrown g (record g { types = xs })
types_grown g xs e = same_gathered (cut (counts_of g) (record g { types = xs })) g (take-length g.texts) e (take-length g.protos) (take-length g.fields) (take-length g.methods)

pub protos_grown : (g : Gathered) (xs : List ProtoParts) → take (length g.protos) xs ≡ g.protos → IsGrown g (record g { protos = xs })
protos_grown g xs e = same_gathered (cut (counts_of g) (record g { protos = xs })) g (take-length g.texts) (take-length g.types) e (take-length g.fields) (take-length g.methods)

pub fields_grown : (g : Gathered) (xs : List MemberParts) → take (length g.fields) xs ≡ g.fields → IsGrown g (record g { fields = xs })
fields_grown g xs e = same_gathered (cut (counts_of g) (record g { fields = xs })) g (take-length g.texts) (take-length g.types) (take-length g.protos) e (take-length g.methods)

pub methods_grown : (g : Gathered) (xs : List MemberParts) → take (length g.methods) xs ≡ g.methods → IsGrown g (record g { methods = xs })
methods_grown g xs e = same_gathered (cut (counts_of g) (record g { methods = xs })) g (take-length g.texts) (take-length g.types) (take-length g.protos) (take-length g.fields) e
