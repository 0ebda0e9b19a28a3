-- A class more is held.
use Rattle.std.specs.Prelude.{◌≡◌, List, [], ◌∷◌, ◌++◌, length, flat_map, false, IsTrue, refl}
use Rattle.std.specs.List.{All}
use Rattle.std.proofs.Common.{sym, ◌∙◌, ap, subst, arith}
use Rattle.std.proofs.lemmas.Grind.{flat_map-append}
use Rattle.std.proofs.lemmas.List.{append-nil, map-append}
use Rattle.std.proofs.lemmas.List.Elements.{All-append, All-cons}
use Rattle.pi_contents.specs.Contents.{Naming}
use Rattle.pi_contents.specs.Naming.{named_by, named_by_class}
use Rattle.pi_classtables.specs.Numbers.{pools_of}
use Rattle.pi_classtables.specs.Spelled.{IsSpelled}
use Rattle.pi_classtables.specs.Sized.{IsSized}
use Rattle.pi_classtables.specs.Whole.{Added, classes_added, is_counted, pools_for}
use Rattle.pi_dexpools.specs.declared.gathered.Gathered.{Gathered}
use Rattle.pi_dexpools.specs.Gathered.{nothing_gathered, counts_of, gathered, places_of, with_naming}
use Rattle.pi_dexwrite.specs.declared.part.Part.{Part}
use Rattle.pi_dexwrite.specs.Held.{added_by, all_added, are_few, AreHeld, ArePlaced, PartNamed}

pub gathered-append : (g : Gathered) (ms ns : List Naming) → gathered g (ms ++ ns) ≡ gathered (gathered g ms) ns
gathered-append g [] ns = refl
gathered-append g (m ∷ ms) ns = gathered-append (with_naming g m) ms ns

-- what the classes of a list and one more name
pub named_more : (es : List Added) (e : Added) → named_by (classes_added (es ++ e ∷ [])) ≡ named_by (classes_added es) ++ named_by_class e.class
named_more es e =
    ap (flat_map named_by_class) (map-append (λ (x : Added). x.class) es (e ∷ []))
    ∙ flat_map-append named_by_class (classes_added es) (e.class ∷ [])
    ∙ ap (λ (ns : List Naming). named_by (classes_added es) ++ ns) (append-nil (named_by_class e.class))

gathered_more : (g : Gathered) (es : List Added) (e : Added)
    → gathered g (named_by (classes_added (es ++ e ∷ []))) ≡ gathered (gathered g (named_by (classes_added es))) (named_by_class e.class)
gathered_more g es e = ap (gathered g) (named_more es e) ∙ gathered-append g (named_by (classes_added es)) (named_by_class e.class)

placed_more : (g : Gathered) (parts : List Part) (p : Part) → ArePlaced g parts
    → p.places ≡ places_of (gathered g (named_by (classes_added (all_added parts)))) (named_by_class (added_by p).class)
    → ArePlaced g (parts ++ p ∷ [])
placed_more g [] p placed is = (is, tt)
placed_more g (q ∷ qs) p placed is = (
  placed.0,
  placed_more (gathered g (named_by_class (added_by q).class)) qs p placed.1
      (is ∙ ap (λ (h : Gathered). places_of h (named_by_class (added_by p).class))
      (gathered-append g (named_by_class (added_by q).class) (named_by (classes_added (all_added qs))))),
)

module _ (types : (ns : List Naming) → length (gathered nothing_gathered ns).types ≡ length (pools_of ns).types)
    (protos : (ns : List Naming) → length (gathered nothing_gathered ns).protos ≡ length (pools_of ns).protos) where
  pub few_is_counted : (ns : List Naming) → are_few (counts_of (gathered nothing_gathered ns)) ≡ is_counted (pools_of ns)
  few_is_counted ns = rw (types ns, protos ns)

  pub held_counted : (parts : List Part) (g : Gathered) → AreHeld parts g → IsTrue (is_counted (pools_for (all_added parts)))
  held_counted parts g held =
      subst IsTrue (ap (λ (h : Gathered). are_few (counts_of h)) held.whole ∙ few_is_counted (named_by (classes_added (all_added parts)))) held.few

  -- with one class more there are too many types or prototypes
  pub one_too_many : (parts : List Part) (g : Gathered) (e : Added) → AreHeld parts g → are_few (counts_of (gathered g (named_by_class e.class))) ≡ false
      → is_counted (pools_for (all_added parts ++ e ∷ [])) ≡ false
  one_too_many parts g e held many =
      sym (few_is_counted (named_by (classes_added (all_added parts ++ e ∷ []))))
      ∙ ap (λ (h : Gathered). are_few (counts_of h)) (gathered_more nothing_gathered (all_added parts) e)
      ∙ ap (λ (h : Gathered). are_few (counts_of (gathered h (named_by_class e.class)))) (sym held.whole)
      ∙ many

all_one : {X : Type 0} (P : X → Type 0) (x : X) → P x → All P (x ∷ [])
all_one P x h = All-cons P x [] h (λ k d l. absurd (omega arith))

-- a list of parts with one more
pub held_more : (parts : List Part) (g : Gathered) (p : Part) → AreHeld parts g
    → p.places ≡ places_of g (named_by_class (added_by p).class) → PartNamed p → IsSpelled (added_by p) → IsSized (added_by p).class
    → IsTrue (are_few (counts_of (gathered g (named_by_class (added_by p).class))))
    → AreHeld (parts ++ p ∷ []) (gathered g (named_by_class (added_by p).class))
held_more parts g p held places named spelled sized few =
    let added : all_added (parts ++ p ∷ []) ≡ all_added parts ++ added_by p ∷ [] = map-append added_by parts (p ∷ []) in
    let contents : classes_added (all_added (parts ++ p ∷ [])) ≡ classes_added (all_added parts) ++ (added_by p).class ∷ [] =
    ap classes_added added ∙ map-append (λ (x : Added). x.class) (all_added parts) (added_by p ∷ []) in
    record {
      whole = ap (λ (h : Gathered). gathered h (named_by_class (added_by p).class)) held.whole
          ∙ sym (gathered_more nothing_gathered (all_added parts) (added_by p))
          ∙ ap (λ (es : List Added). gathered nothing_gathered (named_by (classes_added es))) (sym added);
      placed = placed_more nothing_gathered parts p held.placed
          (places ∙ ap (λ (h : Gathered). places_of h (named_by_class (added_by p).class)) held.whole);
      named = All-append PartNamed parts (p ∷ []) held.named (all_one PartNamed p named);
      spelled = subst (All IsSpelled) (sym added) (All-append IsSpelled (all_added parts) (added_by p ∷ []) held.spelled (all_one IsSpelled (added_by p) spelled));
      sized = subst (All IsSized) (sym contents)
          (All-append IsSized (classes_added (all_added parts)) ((added_by p).class ∷ []) held.sized (all_one IsSized (added_by p).class sized));
      few = few;
    }
