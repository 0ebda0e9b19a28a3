-- What is named first and what is named then are named together.
use Rattle.std.proofs.Common.{◌≡◌, ℕ, ◌+◌, ◌<◌, List, [], ◌∷◌, ◌++◌, length, take, get_or, Result, Ok, Err, OnOk, ap, sym, ◌∙◌, refl, append_assoc, append-nil}
use Rattle.std.specs.List.{flat_map}
use Rattle.std.proofs.lemmas.List.{take_more}
use Rattle.std.proofs.lemmas.Grind.{flat_map-append}
use Rattle.pi_contents.specs.Contents.{Naming}
use Rattle.pi_dexpools.specs.declared.gathered.Gathered.{Gathered}
use Rattle.pi_dexpools.specs.declared.gathered.Place.{Place}
use Rattle.pi_dexpools.specs.Gathered.{gathered, places_of, with_naming, naming_place, IsGrown}
use Rattle.pi_dexnames.specs.Named.{Names}
use Rattle.pi_dexnames.proofs.Grown.{grown_itself, grown_twice}

gathered_together : (g : Gathered) (ns ms : List Naming) → gathered g (ns ++ ms) ≡ gathered (gathered g ns) ms
gathered_together g [] ms = refl
gathered_together g (n ∷ ns) ms = gathered_together (with_naming g n) ns ms

places_together : (g : Gathered) (ns ms : List Naming) → places_of g (ns ++ ms) ≡ places_of g ns ++ places_of (gathered g ns) ms
places_together g [] ms = refl
places_together g (n ∷ ns) ms =
    ap (λ ps. naming_place (with_naming g n) n ∷ ps) (places_together (with_naming g n) ns ms)

module _ {A E : Type 0} where
  -- nothing is named
  pub names_nothing : (x : A) (g : Gathered) (ps : List Place) → Names {A = A} {E = E} (Ok x) g ps g ps []
  names_nothing x g ps = record { pools = refl; places = sym (append-nil ps); grown = grown_itself g }

  -- what is refused names any things
  pub names_refused : (e : E) (a b : Gathered) (p q : List Place) (ns : List Naming) → IsGrown a b
      → Names {A = A} {E = E} (Err e) a p b q ns
  names_refused e a b p q ns grown = record { pools = tt; places = tt; grown = grown }

-- one thing is named, and its place is told
pub names_one : {B E : Type 0} (r : Result B E) (n : Naming) (a b : Gathered) (p q : List Place) (place : Place) → b ≡ with_naming a n
    → place ≡ naming_place b n → IsGrown a b → OnOk r (q ≡ p ++ place ∷ []) → Names r a p b q (n ∷ [])
names_one (Ok x) n a b p q place pools is grown told = record {
  pools = pools;
  places = told ∙ ap (λ k. p ++ k ∷ []) is ∙ ap (λ g. p ++ naming_place g n ∷ []) pools;
  grown = grown;
}
names_one (Err e) n a b p q place pools is grown told = record { pools = tt; places = tt; grown = grown }

-- what is named first, and then more
pub names_then : {A B E F : Type 0} {x : A} {r : Result B E} {a b c : Gathered} {p q s : List Place} {ns ms : List Naming}
    → Names {A = A} {E = F} (Ok x) a p b q ns → Names r b q c s ms → Names r a p c s (ns ++ ms)
names_then {r = Ok y} {a = a} {b = b} {c = c} {p = p} {q = q} {s = s} {ns = ns} {ms = ms} one two = record {
  pools = two.pools ∙ ap (λ g. gathered g ms) one.pools ∙ sym (gathered_together a ns ms);
  places = two.places ∙ ap (λ ps. ps ++ places_of b ms) one.places ∙ append_assoc p (places_of a ns) (places_of b ms)
      ∙ ap (λ g. p ++ (places_of a ns ++ places_of g ms)) one.pools
      ∙ ap (λ ps. p ++ ps) (sym (places_together a ns ms));
  grown = grown_twice a b c one.grown two.grown;
}
names_then {r = Err e} {a = a} {b = b} {c = c} one two = record {
  pools = tt;
  places = tt;
  grown = grown_twice a b c one.grown two.grown;
}

-- a refusal says nothing of what was to be named
pub still_refused : {A B E F : Type 0} {e : E} {f : F} {a b : Gathered} {p q : List Place} {ns : List Naming} (ms : List Naming)
    → Names {A = A} {E = E} (Err e) a p b q ns → Names {A = B} {E = F} (Err f) a p b q ms
still_refused ms was = record { pools = tt; places = tt; grown = was.grown }

-- one more element of a list, each of which names some things
pub names_next : {A B X E F : Type 0} (named : A → List Naming) (xs : List A) (i : ℕ) (v d : A) {x : X} {r : Result B E}
    {a b c : Gathered} {p q s : List Place} → i < length xs → v ≡ get_or xs i d
    → Names {A = X} {E = F} (Ok x) a p b q (flat_map named (take i xs)) → Names r b q c s (named v)
    → Names r a p c s (flat_map named (take (i + 1) xs))
names_next named xs i v d {r = r} {a = a} {c = c} {p = p} {s = s} lt is one two =
    rw next (rw (flat_map-append named (take i xs) (v ∷ [])) (rw (append-nil (named v)) (names_then one two)))
  where
    next : take (i + 1) xs ≡ take i xs ++ v ∷ []
    next = rw (← is) at (take_more xs i d lt)
