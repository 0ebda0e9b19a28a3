-- What is gathered holds what was put in, at a place that stays when more is gathered.
use Rattle.std.proofs.Common.{◌≡◌, ℕ, true, List, [], ◌∷◌, map, nat_eq, refl, sym, ap, ◌∙◌, subst}
use Rattle.std.specs.List.{All, list_any}
use Rattle.std.proofs.lemmas.List.Elements.{All-head, All-tail, All-weaker}
use Rattle.pi_model.specs.Texts.{same_text}
use Rattle.pi_contents.specs.Contents.{FieldName, Prototype, MethodName, Naming, NoName, OfText, OfType, OfField, OfMethod}
use Rattle.pi_contents.specs.Naming.{short_form}
use Rattle.pi_dexpools.specs.declared.gathered.Gathered.{Gathered}
use Rattle.pi_dexpools.specs.declared.gathered.Place.TheVariants.{OfText as AtText, OfType as AtType, OfField as AtField, OfMethod as AtMethod}
use Rattle.pi_dexpools.specs.declared.gathered.MemberParts.{MemberParts}
use Rattle.pi_dexpools.specs.declared.gathered.ProtoParts.{ProtoParts}
use Rattle.pi_dexpools.specs.Gathered.{place_of, text_place, type_place, proto_parts, proto_place, field_parts, field_place, method_parts, method_place, naming_place, same_proto, same_member}
use Rattle.pi_poollaws.proofs.Lists.{place_stays, found_more}
use Rattle.pi_poollaws.proofs.Grown.{Grows}

pub record HasText (g : Gathered) (s : List ℕ) : Type 0 where
  pub here : list_any (same_text s) g.texts ≡ true

pub record HasType (g : Gathered) (t : List ℕ) : Type 0 where
  pub text : HasText g t
  pub here : list_any (nat_eq (text_place g t)) g.types ≡ true

pub record HasProto (g : Gathered) (q : Prototype) : Type 0 where
  pub short : HasText g (short_form q)
  pub ret : HasType g q.ret
  pub params : All (HasType g) q.params
  pub here : list_any (same_proto (proto_parts g q)) g.protos ≡ true

pub record HasField (g : Gathered) (f : FieldName) : Type 0 where
  pub class : HasType g f.class
  pub name : HasText g f.name
  pub ty : HasType g f.ty
  pub here : list_any (same_member (field_parts g f)) g.fields ≡ true

pub record HasMethod (g : Gathered) (m : MethodName) : Type 0 where
  pub class : HasType g m.class
  pub name : HasText g m.name
  pub proto : HasProto g m.proto
  pub here : list_any (same_member (method_parts g m)) g.methods ≡ true

abbrev pub HasNaming : Gathered → Naming → Type 0
HasNaming g NoName = Unit {0}
HasNaming g (OfText s) = HasText g s
HasNaming g (OfType t) = HasType g t
HasNaming g (OfField f) = HasField g f
HasNaming g (OfMethod m) = HasMethod g m

module _ (g h : Gathered) (grows : Grows g h) where
  -- places stay
  pub text_stays : (s : List ℕ) → HasText g s → text_place h s ≡ text_place g s
  text_stays s has = place_stays (same_text s) g.texts h.texts grows.texts has.here

  pub type_stays : (t : List ℕ) → HasType g t → type_place h t ≡ type_place g t
  type_stays t has =
      ap (λ (k : ℕ). place_of nat_eq k h.types) (text_stays t has.text)
      ∙ place_stays (nat_eq (text_place g t)) g.types h.types grows.types has.here

  pub types_stay : (ts : List (List ℕ)) → All (HasType g) ts → map (type_place h) ts ≡ map (type_place g) ts
  types_stay [] all = refl
  types_stay (t ∷ ts) all =
      let first = type_stays t (All-head (HasType g) t ts all) in
      let rest = types_stay ts (All-tail (HasType g) t ts all) in
      λ i. first i ∷ rest i

  pub proto_parts_stay : (q : Prototype) → HasProto g q → proto_parts h q ≡ proto_parts g q
  proto_parts_stay q has = λ i. record {
    short = text_stays (short_form q) has.short i;
    ret = type_stays q.ret has.ret i;
    params = types_stay q.params has.params i;
  }

  pub proto_stays : (q : Prototype) → HasProto g q → proto_place h q ≡ proto_place g q
  proto_stays q has =
      ap (λ (p : ProtoParts). place_of same_proto p h.protos) (proto_parts_stay q has)
      ∙ place_stays (same_proto (proto_parts g q)) g.protos h.protos grows.protos has.here

  pub field_parts_stay : (f : FieldName) → HasField g f → field_parts h f ≡ field_parts g f
  field_parts_stay f has = λ i. record {
    class = type_stays f.class has.class i;
    name = text_stays f.name has.name i;
    kind = type_stays f.ty has.ty i;
  }

  pub field_stays : (f : FieldName) → HasField g f → field_place h f ≡ field_place g f
  field_stays f has =
      ap (λ (p : MemberParts). place_of same_member p h.fields) (field_parts_stay f has)
      ∙ place_stays (same_member (field_parts g f)) g.fields h.fields grows.fields has.here

  pub method_parts_stay : (m : MethodName) → HasMethod g m → method_parts h m ≡ method_parts g m
  method_parts_stay m has = λ i. record {
    class = type_stays m.class has.class i;
    name = text_stays m.name has.name i;
    kind = proto_stays m.proto has.proto i;
  }

  pub method_stays : (m : MethodName) → HasMethod g m → method_place h m ≡ method_place g m
  method_stays m has =
      ap (λ (p : MemberParts). place_of same_member p h.methods) (method_parts_stay m has)
      ∙ place_stays (same_member (method_parts g m)) g.methods h.methods grows.methods has.here

  pub naming_stays : (n : Naming) → HasNaming g n → naming_place h n ≡ naming_place g n
  naming_stays NoName has = refl
  naming_stays (OfText s) has = ap (λ (k : ℕ). AtText k) (text_stays s has)
  naming_stays (OfType t) has = ap (λ (k : ℕ). AtType k) (type_stays t has)
  naming_stays (OfField f) has = ap (λ (k : ℕ). AtField k) (field_stays f has)
  naming_stays (OfMethod m) has = ap (λ (k : ℕ). AtMethod k) (method_stays m has)

  -- what is held is held further
  pub text_kept : (s : List ℕ) → HasText g s → HasText h s
  text_kept s has = record { here = found_more (same_text s) g.texts h.texts grows.texts has.here }

  pub type_kept : (t : List ℕ) → HasType g t → HasType h t
  type_kept t has = record {
    text = text_kept t has.text;
    here = subst (λ (k : ℕ). list_any (nat_eq k) h.types ≡ true) (sym (text_stays t has.text))
        (found_more (nat_eq (text_place g t)) g.types h.types grows.types has.here);
  }

  pub types_kept : (ts : List (List ℕ)) → All (HasType g) ts → All (HasType h) ts
  types_kept ts all = All-weaker (HasType g) (HasType h) type_kept ts all

  pub proto_kept : (q : Prototype) → HasProto g q → HasProto h q
  proto_kept q has = record {
    short = text_kept (short_form q) has.short;
    ret = type_kept q.ret has.ret;
    params = types_kept q.params has.params;
    here = subst (λ (p : ProtoParts). list_any (same_proto p) h.protos ≡ true) (sym (proto_parts_stay q has))
        (found_more (same_proto (proto_parts g q)) g.protos h.protos grows.protos has.here);
  }

  pub field_kept : (f : FieldName) → HasField g f → HasField h f
  field_kept f has = record {
    class = type_kept f.class has.class;
    name = text_kept f.name has.name;
    ty = type_kept f.ty has.ty;
    here = subst (λ (p : MemberParts). list_any (same_member p) h.fields ≡ true) (sym (field_parts_stay f has))
        (found_more (same_member (field_parts g f)) g.fields h.fields grows.fields has.here);
  }

  pub method_kept : (m : MethodName) → HasMethod g m → HasMethod h m
  method_kept m has = record {
    class = type_kept m.class has.class;
    name = text_kept m.name has.name;
    proto = proto_kept m.proto has.proto;
    here = subst (λ (p : MemberParts). list_any (same_member p) h.methods ≡ true) (sym (method_parts_stay m has))
        (found_more (same_member (method_parts g m)) g.methods h.methods grows.methods has.here);
  }

  pub naming_kept : (n : Naming) → HasNaming g n → HasNaming h n
  naming_kept NoName has = tt
  naming_kept (OfText s) has = text_kept s has
  naming_kept (OfType t) has = type_kept t has
  naming_kept (OfField f) has = field_kept f has
  naming_kept (OfMethod m) has = method_kept m has
