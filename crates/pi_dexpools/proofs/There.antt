-- What is there stays there, at its place, through any growth.
use Rattle.std.proofs.Common.{◌≡◌, ℕ, List, [], ◌∷◌, ◌++◌, append_assoc, length, take, map, ap, sym, ◌∙◌}
use Rattle.std.specs.Prelude.{nat_eq, IsTrue}
use Rattle.std.specs.List.{list_any}
use Rattle.pi_model.specs.Texts.{same_text}
use Rattle.pi_contents.specs.Contents.{FieldName, Prototype, MethodName}
use Rattle.pi_contents.specs.Naming.{short_form}
use Rattle.pi_dexpools.specs.declared.gathered.Gathered.{Gathered}
use Rattle.pi_dexpools.specs.declared.gathered.MemberParts.{MemberParts}
use Rattle.pi_dexpools.specs.declared.gathered.ProtoParts.{ProtoParts}
use Rattle.pi_dexpools.specs.Gathered.{IsGrown, with_new, place_of, text_place, with_text, type_place, with_type, with_types, proto_parts, proto_place, with_proto, same_proto, same_member, field_parts, field_place, with_field, method_parts, method_place, with_method}
use Rattle.pi_dexpools.specs.There.{HasText, HasType}
use Rattle.pi_dexpools.proofs.Places.{place_grown, start_new}
use Rattle.pi_dexpools.proofs.Grown.{grown_refl, grown_trans, texts_grown, types_grown}

texts_start : (a b : Gathered) → IsGrown a b → take (length a.texts) b.texts ≡ a.texts
texts_start a b p = ap (λ (g : Gathered). g.texts) p

types_start : (a b : Gathered) → IsGrown a b → take (length a.types) b.types ≡ a.types
types_start a b p = ap (λ (g : Gathered). g.types) p

pub text_stays : (a b : Gathered) (s : List ℕ) → IsGrown a b → HasText a s → text_place b s ≡ text_place a s
text_stays a b s p h = place_grown (same_text s) a.texts b.texts (texts_start a b p) h.text

pub type_stays : (a b : Gathered) (t : List ℕ) → IsGrown a b → HasType a t → type_place b t ≡ type_place a t
type_stays a b t p h =
    ap (λ k. place_of nat_eq k b.types) (place_grown (same_text t) a.texts b.texts (texts_start a b p) h.text)
    ∙ place_grown (nat_eq (text_place a t)) a.types b.types (types_start a b p) h.type

-- what is added comes behind what was there
pub with_text_grown : (g : Gathered) (s : List ℕ) → IsGrown g (with_text g s)
with_text_grown g s = texts_grown g (with_new same_text g.texts s) (start_new same_text g.texts s)

pub with_type_grown : (g : Gathered) (t : List ℕ) → IsGrown g (with_type g t)
with_type_grown g t =
    grown_trans g (with_text g t) (with_type g t) (with_text_grown g t)
    (types_grown (with_text g t) (with_new nat_eq g.types (text_place (with_text g t) t)) (start_new nat_eq g.types (text_place (with_text g t) t)))

pub with_types_grown : (g : Gathered) (ts : List (List ℕ)) → IsGrown g (with_types g ts)
with_types_grown g [] = grown_refl g
with_types_grown g (t ∷ ts) = grown_trans g (with_type g t) (with_types (with_type g t) ts) (with_type_grown g t) (with_types_grown (with_type g t) ts)

-- a type that is added behind its text is there
pub type_there : (b c : Gathered) (t : List ℕ) (text : ℕ) → text ≡ text_place b t → HasText b t → c ≡ record b { types = with_new nat_eq b.types text } → IsTrue (list_any (nat_eq text) c.types) → HasType c t
type_there b c t text k h f m = record {
  text = ap (λ (g : Gathered). list_any (same_text t) g.texts) f ∙ h.text;
  type = ap (λ n. list_any (nat_eq n) c.types) (ap (λ (g : Gathered). text_place g t) f ∙ sym k) ∙ m;
}

-- a type among several keeps its place to the end
pub type_of_types : (g h all : Gathered) (t : List ℕ) (ts : List (List ℕ)) → h ≡ with_type g t → HasType h t → with_types g (t ∷ ts) ≡ all → type_place all t ≡ type_place h t
type_of_types g h all t ts e there whole =
    ap (λ (k : Gathered). type_place k t) (sym whole ∙ ap (λ k. with_types k ts) (sym e))
    ∙ type_stays h (with_types h ts) t (with_types_grown h ts) there

-- a step along types: the rest of them are added to what the first one gave
pub types_step : (g h all : Gathered) (t : List ℕ) (ts : List (List ℕ)) → h ≡ with_type g t → with_types g (t ∷ ts) ≡ all → with_types h ts ≡ all
types_step g h all t ts e whole = ap (λ k. with_types k ts) e ∙ whole

pub places_step : (g h all : Gathered) (t : List ℕ) (ts : List (List ℕ)) (done more wanted : List ℕ) → h ≡ with_type g t → HasType h t → with_types g (t ∷ ts) ≡ all → more ≡ done ++ type_place h t ∷ [] → done ++ map (type_place all) (t ∷ ts) ≡ wanted → more ++ map (type_place all) ts ≡ wanted
places_step g h all t ts done more wanted e there whole grown before =
    ap (λ l. l ++ map (type_place all) ts) grown
    ∙ (append_assoc done (type_place h t ∷ []) (map (type_place all) ts)
    ∙ (ap (λ k. done ++ k ∷ map (type_place all) ts) (sym (type_of_types g h all t ts e there whole)) ∙ before))

-- what a prototype is added to: its short form, its result, its parameters
pub record ProtoSteps (a b c d : Gathered) (q : Prototype) (parts : ProtoParts) : Type 0 where
  pub text : b ≡ with_text a (short_form q)
  pub short : parts.short ≡ text_place b (short_form q)
  pub text_there : HasText b (short_form q)
  pub result : c ≡ with_type b q.ret
  pub ret : parts.ret ≡ type_place c q.ret
  pub ret_there : HasType c q.ret
  pub ret_grown : IsGrown b c
  pub types : d ≡ with_types c q.params
  pub params : parts.params ≡ map (type_place d) q.params
  pub params_grown : IsGrown c d

proto_parts_are : (a b c d : Gathered) (q : Prototype) (parts : ProtoParts) → ProtoSteps a b c d q parts → parts ≡ proto_parts d q
proto_parts_are a b c d q parts s =
    let short : parts.short ≡ text_place d (short_form q) = s.short ∙ sym (text_stays b d (short_form q) (grown_trans b c d s.ret_grown s.params_grown) s.text_there) in
    let ret : parts.ret ≡ type_place d q.ret = s.ret ∙ sym (type_stays c d q.ret s.params_grown s.ret_there) in
    let params : parts.params ≡ map (type_place d) q.params = s.params in
    λ i. record { short = short i; ret = ret i; params = params i }

pub proto_added : (a b c d e : Gathered) (q : Prototype) (parts : ProtoParts) → ProtoSteps a b c d q parts → e ≡ record d { protos = with_new same_proto d.protos parts } → e ≡ with_proto a q
unfolding with_proto
proto_added a b c d e q parts s f =
    let is : d ≡ with_types (with_type (with_text a (short_form q)) q.ret) q.params =
    s.types ∙ ap (λ g. with_types g q.params) (s.result ∙ ap (λ g. with_type g q.ret) s.text) in
    f ∙ (ap (λ k. record d { protos = with_new same_proto d.protos k }) (proto_parts_are a b c d q parts s)
    ∙ ap (λ (g : Gathered). record g { protos = with_new same_proto g.protos (proto_parts g q) }) is)

pub proto_found : (a b c d e : Gathered) (q : Prototype) (parts : ProtoParts) (place : ℕ) → ProtoSteps a b c d q parts → e ≡ record d { protos = with_new same_proto d.protos parts } → place ≡ place_of same_proto parts e.protos → place ≡ proto_place e q
proto_found a b c d e q parts place s f m =
    m ∙ ap (λ k. place_of same_proto k e.protos)
    (proto_parts_are a b c d q parts s ∙ sym (ap (λ (g : Gathered). proto_parts g q) f))

-- what a field is added to: its class, its name, its type
pub record FieldSteps (a b c d : Gathered) (q : FieldName) (parts : MemberParts) : Type 0 where
  pub owner : b ≡ with_type a q.class
  pub class : parts.class ≡ type_place b q.class
  pub class_there : HasType b q.class
  pub text : c ≡ with_text b q.name
  pub name : parts.name ≡ text_place c q.name
  pub name_there : HasText c q.name
  pub name_grown : IsGrown b c
  pub type : d ≡ with_type c q.ty
  pub kind : parts.kind ≡ type_place d q.ty
  pub kind_grown : IsGrown c d

field_parts_are : (a b c d : Gathered) (q : FieldName) (parts : MemberParts) → FieldSteps a b c d q parts → parts ≡ field_parts d q
field_parts_are a b c d q parts s =
    let class : parts.class ≡ type_place d q.class = s.class ∙ sym (type_stays b d q.class (grown_trans b c d s.name_grown s.kind_grown) s.class_there) in
    let name : parts.name ≡ text_place d q.name = s.name ∙ sym (text_stays c d q.name s.kind_grown s.name_there) in
    let kind : parts.kind ≡ type_place d q.ty = s.kind in
    λ i. record { class = class i; name = name i; kind = kind i }

pub field_added : (a b c d e : Gathered) (q : FieldName) (parts : MemberParts) → FieldSteps a b c d q parts → e ≡ record d { fields = with_new same_member d.fields parts } → e ≡ with_field a q
unfolding with_field
field_added a b c d e q parts s f =
    let is : d ≡ with_type (with_text (with_type a q.class) q.name) q.ty =
    s.type ∙ ap (λ g. with_type g q.ty) (s.text ∙ ap (λ g. with_text g q.name) s.owner) in
    f ∙ (ap (λ k. record d { fields = with_new same_member d.fields k }) (field_parts_are a b c d q parts s)
    ∙ ap (λ (g : Gathered). record g { fields = with_new same_member g.fields (field_parts g q) }) is)

pub field_found : (a b c d e : Gathered) (q : FieldName) (parts : MemberParts) (place : ℕ) → FieldSteps a b c d q parts → e ≡ record d { fields = with_new same_member d.fields parts } → place ≡ place_of same_member parts e.fields → place ≡ field_place e q
field_found a b c d e q parts place s f m =
    m ∙ ap (λ k. place_of same_member k e.fields)
    (field_parts_are a b c d q parts s ∙ sym (ap (λ (g : Gathered). field_parts g q) f))

-- what a method is added to: its class, its name, its prototype
pub record MethodSteps (a b c d : Gathered) (q : MethodName) (parts : MemberParts) : Type 0 where
  pub owner : b ≡ with_type a q.class
  pub class : parts.class ≡ type_place b q.class
  pub class_there : HasType b q.class
  pub text : c ≡ with_text b q.name
  pub name : parts.name ≡ text_place c q.name
  pub name_there : HasText c q.name
  pub name_grown : IsGrown b c
  pub proto : d ≡ with_proto c q.proto
  pub kind : parts.kind ≡ proto_place d q.proto
  pub kind_grown : IsGrown c d

method_parts_are : (a b c d : Gathered) (q : MethodName) (parts : MemberParts) → MethodSteps a b c d q parts → parts ≡ method_parts d q
method_parts_are a b c d q parts s =
    let class : parts.class ≡ type_place d q.class = s.class ∙ sym (type_stays b d q.class (grown_trans b c d s.name_grown s.kind_grown) s.class_there) in
    let name : parts.name ≡ text_place d q.name = s.name ∙ sym (text_stays c d q.name s.kind_grown s.name_there) in
    let kind : parts.kind ≡ proto_place d q.proto = s.kind in
    λ i. record { class = class i; name = name i; kind = kind i }

pub method_added : (a b c d e : Gathered) (q : MethodName) (parts : MemberParts) → MethodSteps a b c d q parts → e ≡ record d { methods = with_new same_member d.methods parts } → e ≡ with_method a q
unfolding with_method
method_added a b c d e q parts s f =
    let is : d ≡ with_proto (with_text (with_type a q.class) q.name) q.proto =
    s.proto ∙ ap (λ g. with_proto g q.proto) (s.text ∙ ap (λ g. with_text g q.name) s.owner) in
    f ∙ (ap (λ k. record d { methods = with_new same_member d.methods k }) (method_parts_are a b c d q parts s)
    ∙ ap (λ (g : Gathered). record g { methods = with_new same_member g.methods (method_parts g q) }) is)

pub method_found : (a b c d e : Gathered) (q : MethodName) (parts : MemberParts) (place : ℕ) → MethodSteps a b c d q parts → e ≡ record d { methods = with_new same_member d.methods parts } → place ≡ place_of same_member parts e.methods → place ≡ method_place e q
method_found a b c d e q parts place s f m =
    m ∙ ap (λ k. place_of same_member k e.methods)
    (method_parts_are a b c d q parts s ∙ sym (ap (λ (g : Gathered). method_parts g q) f))
