-- What pools hold of the entries of a handler table and of fields, where they hold what these name.
use Rattle.std.proofs.Common.{◌≡◌, List, [], ◌∷◌, ℕ, Option, Some, None, subst}
use Rattle.std.specs.Prelude.{flat_map, IfSome, All}
use Rattle.std.proofs.lemmas.List.Elements.{All-nil, All-cons, All-head, All-tail}
use Rattle.pi_format.proofs.Every.{all_left, all_right}
use Rattle.pi_contents.specs.Contents.{CatchContent, InitContent, NoInit, WordInit, LongInit, TextInit, TypeInit, FieldContent, OfText, OfType, OfField}
use Rattle.pi_contents.specs.Naming.{own_field, named_by_type, named_by_catch, named_by_init, named_by_field}
use Rattle.pi_classtables.specs.Numbers.{Pools}
use Rattle.pi_classlaws.proofs.Known.{HoldsText, HoldsType, HoldsField, HoldsNaming}

-- the type that an entry catches
abbrev pub CatchHeld : Pools → CatchContent → Type 0
CatchHeld p c = IfSome c.ty (HoldsType p)

pub held_type : (p : Pools) (o : Option (List ℕ)) (u : List ℕ) → IfSome o (HoldsType p) → o ≡ Some u → HoldsType p u
held_type p o u held is = subst (λ (x : Option (List ℕ)). IfSome x (HoldsType p)) is held

-- a field, and the text or the type that it is set to
abbrev pub InitHeld : Pools → InitContent → Type 0
InitHeld p NoInit = Unit {0}
InitHeld p (WordInit w) = Unit {0}
InitHeld p (LongInit l) = Unit {0}
InitHeld p (TextInit s) = HoldsText p s
InitHeld p (TypeInit u) = HoldsType p u

pub record FieldHeld (p : Pools) (class : List ℕ) (f : FieldContent) : Type 0 where
  pub field : HoldsField p (own_field class f)
  pub init : InitHeld p f.init

-- pools that hold what these name hold this
pub type_held : (p : Pools) (ty : Option (List ℕ)) → All (HoldsNaming p) (named_by_type ty) → IfSome ty (HoldsType p)
type_held p None all = tt
type_held p (Some u) all = All-head (HoldsNaming p) (OfType u) [] all

pub catches_held : (p : Pools) (cs : List CatchContent) → All (HoldsNaming p) (flat_map named_by_catch cs) → All (CatchHeld p) cs
catches_held p [] all = All-nil (CatchHeld p)
catches_held p (c ∷ cs) all =
    All-cons (CatchHeld p) c cs
    (type_held p c.ty (all_left (HoldsNaming p) (named_by_catch c) (flat_map named_by_catch cs) all))
    (catches_held p cs (all_right (HoldsNaming p) (named_by_catch c) (flat_map named_by_catch cs) all))

init_held : (p : Pools) (init : InitContent) → All (HoldsNaming p) (named_by_init init) → InitHeld p init
init_held p NoInit all = tt
init_held p (WordInit w) all = tt
init_held p (LongInit l) all = tt
init_held p (TextInit s) all = All-head (HoldsNaming p) (OfText s) [] all
init_held p (TypeInit u) all = All-head (HoldsNaming p) (OfType u) [] all

field_held : (p : Pools) (class : List ℕ) (f : FieldContent) → All (HoldsNaming p) (named_by_field class f) → FieldHeld p class f
field_held p class f all = record {
  field = All-head (HoldsNaming p) (OfField (own_field class f)) (named_by_init f.init) all;
  init = init_held p f.init (All-tail (HoldsNaming p) (OfField (own_field class f)) (named_by_init f.init) all);
}

pub fields_held : (p : Pools) (class : List ℕ) (fs : List FieldContent) → All (HoldsNaming p) (flat_map (named_by_field class) fs) → All (FieldHeld p class) fs
fields_held p class [] all = All-nil (FieldHeld p class)
fields_held p class (f ∷ fs) all =
    All-cons (FieldHeld p class) f fs
    (field_held p class f (all_left (HoldsNaming p) (named_by_field class f) (flat_map (named_by_field class) fs) all))
    (fields_held p class fs (all_right (HoldsNaming p) (named_by_field class f) (flat_map (named_by_field class) fs) all))
