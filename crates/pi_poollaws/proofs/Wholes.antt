-- That all places in what is gathered are there.
use Rattle.std.proofs.Common.{ℕ, ◌<◌, List, length, subst}
use Rattle.std.proofs.lemmas.List.Elements.{All-weaker}
use Rattle.pi_contents.specs.Contents.{Naming}
use Rattle.pi_dexpools.specs.declared.gathered.Gathered.{Gathered}
use Rattle.pi_dexpools.specs.declared.gathered.MemberParts.{MemberParts}
use Rattle.pi_dexpools.specs.declared.gathered.ProtoParts.{ProtoParts}
use Rattle.pi_dexpools.specs.Ranked.{ProtoIsWhole, FieldIsWhole, MethodIsWhole, AreWhole}
use Rattle.pi_poollaws.proofs.ReadAgain.{text_within, proto_whole, field_whole, method_whole}
use Rattle.pi_poollaws.proofs.Named.{TypeIsNamed, ProtoIsNamed, FieldIsNamed, MethodIsNamed, AreNamed}

module _ (ns : List Naming) (g : Gathered) where
  type_there : (k : ℕ) → TypeIsNamed ns g k → k < length g.texts
  type_there k e = subst (λ (j : ℕ). j < length g.texts) e.is (text_within g e.text e.has.text)

  proto_there : (p : ProtoParts) → ProtoIsNamed ns g p → ProtoIsWhole g p
  proto_there p e = subst (ProtoIsWhole g) e.is (proto_whole g e.proto e.has)

  field_there : (p : MemberParts) → FieldIsNamed ns g p → FieldIsWhole g p
  field_there p e = subst (FieldIsWhole g) e.is (field_whole g e.field e.has)

  method_there : (p : MemberParts) → MethodIsNamed ns g p → MethodIsWhole g p
  method_there p e = subst (MethodIsWhole g) e.is (method_whole g e.method e.has)

  pub named_are_whole : AreNamed ns g → AreWhole g
  named_are_whole are = record {
    types = All-weaker (TypeIsNamed ns g) (λ k. k < length g.texts) type_there g.types are.types;
    protos = All-weaker (ProtoIsNamed ns g) (ProtoIsWhole g) proto_there g.protos are.protos;
    fields = All-weaker (FieldIsNamed ns g) (FieldIsWhole g) field_there g.fields are.fields;
    methods = All-weaker (MethodIsNamed ns g) (MethodIsWhole g) method_there g.methods are.methods;
  }
