-- What pools hold: a thing has a number that names an entry, and so has all that it is made of.
use Rattle.std.proofs.Common.{ℕ, suc, ◌<◌, List, [], length, get_or, arith}
use Rattle.std.specs.List.{All}
use Rattle.pi_contents.specs.Contents.{FieldName, Prototype, MethodName, Naming, NoName, OfText, OfType, OfField, OfMethod}
use Rattle.pi_contents.specs.Naming.{short_form, texts_in, types_in, protos_in, fields_in, methods_in, texts_named, types_named, protos_named, fields_named, methods_named}
use Rattle.pi_classtables.specs.Numbers.{Pools, pools_of, string_no, type_no, proto_no, field_no, method_no}
use Rattle.pi_classtables.proofs.Orders.{text_exact, proto_exact, field_exact, method_exact}
use Rattle.pi_classtables.proofs.Sortings.{all_placed_sorted}
use Rattle.pi_classtables.proofs.Joined.{all_in_pieces}

pub record HoldsText (p : Pools) (s : List ℕ) : Type 0 where
  pub number : string_no p s < length p.strings

pub record HoldsType (p : Pools) (u : List ℕ) : Type 0 where
  pub number : type_no p u < length p.types
  pub text : HoldsText p u

pub record HoldsProto (p : Pools) (q : Prototype) : Type 0 where
  pub number : proto_no p q < length p.protos
  pub short : HoldsText p (short_form q)
  pub ret : HoldsType p q.ret
  pub params : All (HoldsType p) q.params

pub record HoldsField (p : Pools) (f : FieldName) : Type 0 where
  pub number : field_no p f < length p.fields
  pub class : HoldsType p f.class
  pub name : HoldsText p f.name
  pub ty : HoldsType p f.ty

pub record HoldsMethod (p : Pools) (m : MethodName) : Type 0 where
  pub number : method_no p m < length p.methods
  pub class : HoldsType p m.class
  pub name : HoldsText p m.name
  pub proto : HoldsProto p m.proto

abbrev pub HoldsNaming : Pools → Naming → Type 0
HoldsNaming p NoName = Unit {0}
HoldsNaming p (OfText s) = HoldsText p s
HoldsNaming p (OfType u) = HoldsType p u
HoldsNaming p (OfField f) = HoldsField p f
HoldsNaming p (OfMethod m) = HoldsMethod p m

-- pools hold what they were made of
module _ (ns : List Naming) where
  texts_placed : All (HoldsText (pools_of ns)) (texts_named ns)
  unfolding pools_of
  texts_placed k d lt = record { number = all_placed_sorted text_exact (texts_named ns) k d lt }

  types_placed : All (λ u. type_no (pools_of ns) u < length (pools_of ns).types) (types_named ns)
  unfolding pools_of
  types_placed = all_placed_sorted text_exact (types_named ns)

  protos_placed : All (λ q. proto_no (pools_of ns) q < length (pools_of ns).protos) (protos_named ns)
  unfolding pools_of
  protos_placed = all_placed_sorted proto_exact (protos_named ns)

  fields_placed : All (λ f. field_no (pools_of ns) f < length (pools_of ns).fields) (fields_named ns)
  unfolding pools_of
  fields_placed = all_placed_sorted field_exact (fields_named ns)

  methods_placed : All (λ m. method_no (pools_of ns) m < length (pools_of ns).methods) (methods_named ns)
  unfolding pools_of
  methods_placed = all_placed_sorted method_exact (methods_named ns)

-- what is named has what it is made of among the texts and types that are named
module _ (p : Pools) where
  held : (n : Naming) → All (HoldsText p) (texts_in n) → All (λ u. type_no p u < length p.types) (types_in n)
      → All (λ q. proto_no p q < length p.protos) (protos_in n) → All (λ f. field_no p f < length p.fields) (fields_in n)
      → All (λ m. method_no p m < length p.methods) (methods_in n) → HoldsNaming p n
  held NoName texts types protos fields methods = tt
  held (OfText s) texts types protos fields methods = texts 0 s (omega arith)
  held (OfType u) texts types protos fields methods = record { number = types 0 u (omega arith); text = texts 0 u (omega arith) }
  held (OfField f) texts types protos fields methods = record {
    number = fields 0 f (omega arith);
    class = record { number = types 0 [] (omega arith); text = texts 1 [] (omega arith) };
    name = texts 0 [] (omega arith);
    ty = record { number = types 1 [] (omega arith); text = texts 2 [] (omega arith) };
  }
  held (OfMethod m) texts types protos fields methods = record {
    number = methods 0 m (omega arith);
    class = record { number = types 0 [] (omega arith); text = texts 2 [] (omega arith) };
    name = texts 0 [] (omega arith);
    proto = record {
      number = protos 0 m.proto (omega arith);
      short = texts 1 [] (omega arith);
      ret = record { number = types 1 [] (omega arith); text = texts 3 [] (omega arith) };
      params = λ k d lt. record { number = types (suc (suc k)) d (omega (arith, lt)); text = texts (suc (suc (suc (suc k)))) d (omega (arith, lt)) };
    };
  }

pub all_held : (ns : List Naming) → All (HoldsNaming (pools_of ns)) ns
all_held ns k d lt =
    let p = pools_of ns in
    held p (get_or ns k d)
    (all_in_pieces (HoldsText p) texts_in ns (texts_placed ns) k d lt)
    (all_in_pieces (λ u. type_no p u < length p.types) types_in ns (types_placed ns) k d lt)
    (all_in_pieces (λ q. proto_no p q < length p.protos) protos_in ns (protos_placed ns) k d lt)
    (all_in_pieces (λ f. field_no p f < length p.fields) fields_in ns (fields_placed ns) k d lt)
    (all_in_pieces (λ m. method_no p m < length p.methods) methods_in ns (methods_placed ns) k d lt)
