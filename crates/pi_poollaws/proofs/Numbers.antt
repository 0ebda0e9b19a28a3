-- That the number at the place of a naming is its number among all that is gathered.
use Rattle.std.proofs.Common.{◌≡◌, ℕ, ◌<◌, List, [], ◌∷◌, ◌++◌, length, map, get_or, refl, sym, ap, ◌∙◌, subst}
use Rattle.std.proofs.lemmas.List.{get_or-map, length-map}
use Rattle.pi_contents.specs.Contents.{Naming, NoName, OfText, OfType, OfField, OfMethod}
use Rattle.pi_classtables.specs.Numbers.{Pools, pools_of, index_of, string_no, type_no, field_no, method_no}
use Rattle.pi_dexpools.specs.declared.gathered.Gathered.{Gathered}
use Rattle.pi_dexpools.specs.Gathered.{nothing_gathered, with_naming, gathered, places_of, naming_place, text_place, type_place, field_place, method_place, field_parts, method_parts}
use Rattle.pi_dexpools.specs.Ranked.{text_at, field_of, method_of, numbering, ranks_of, number_of}
use Rattle.pi_poollaws.proofs.Grown.{Grows, grows_further, grows_gathered}
use Rattle.pi_poollaws.proofs.Held.{HasNaming, naming_stays, naming_kept}
use Rattle.pi_poollaws.proofs.PutIn.{has_naming, has_gathered}
use Rattle.pi_poollaws.proofs.ReadAgain.{text_within, text_read, type_within, type_read, field_within, field_read, method_within, method_read}
use Rattle.pi_poollaws.proofs.Named.{gathered_named}
use Rattle.pi_poollaws.proofs.Members.{pools_same}

-- what stands in a list of answers to what is read in a list
read_twice : {A B : Type 0} (r : B → ℕ) (f : A → B) (xs : List A) (k : ℕ) (d : A) (y : B) → k < length xs → f (get_or xs k d) ≡ y → get_or (map r (map f xs)) k 0 ≡ r y
read_twice r f xs k d y lt e = get_or-map r (map f xs) k y 0 (rw (length-map xs f) lt) ∙ ap r (get_or-map f xs k d y lt ∙ e)

number_says : (g : Gathered) (n : Naming) → HasNaming g n → number_of (ranks_of g) (naming_place g n) ≡ index_of (numbering g) n
number_says g NoName has = refl
number_says g (OfText s) has =
    get_or-map (string_no (numbering g)) g.texts (text_place g s) [] 0 (text_within g s has) ∙ ap (string_no (numbering g)) (text_read g s has)
number_says g (OfType t) has = read_twice (type_no (numbering g)) (text_at g) g.types (type_place g t) 0 t (type_within g t has) (type_read g t has)
number_says g (OfField f) has =
    read_twice (field_no (numbering g)) (field_of g) g.fields (field_place g f) (field_parts g f) f (field_within g f has) (field_read g f (field_parts g f) has)
number_says g (OfMethod m) has =
    read_twice (method_no (numbering g)) (method_of g) g.methods (method_place g m) (method_parts g m) m (method_within g m has)
    (method_read g m (method_parts g m) has)

gathered_append : (g : Gathered) (ms ns : List Naming) → gathered g (ms ++ ns) ≡ gathered (gathered g ms) ns
gathered_append g [] ns = refl
gathered_append g (m ∷ ms) ns = gathered_append (with_naming g m) ms ns

-- places that were told while less was gathered have the numbers of the end
module _ (h : Gathered) (p : Pools) (are : numbering h ≡ p) where
  number_ends : (g : Gathered) (n : Naming) → HasNaming g n → Grows g h → number_of (ranks_of h) (naming_place g n) ≡ index_of p n
  number_ends g n has grows =
      ap (number_of (ranks_of h)) (sym (naming_stays g h grows n has))
      ∙ number_says h n (naming_kept g h grows n has)
      ∙ ap (λ (q : Pools). index_of q n) are

  numbers_end : (g : Gathered) (ns : List Naming) → Grows (gathered g ns) h → map (number_of (ranks_of h)) (places_of g ns) ≡ map (index_of p) ns
  numbers_end g [] grows = refl
  numbers_end g (n ∷ ns) grows =
      let k = with_naming g n in
      let first = number_ends k n (has_naming g n) (grows_further k (gathered k ns) h (grows_gathered k ns) grows) in
      let rest = numbers_end k ns grows in
      λ i. first i ∷ rest i

pub numbered : (ns : List Naming) → numbering (gathered nothing_gathered ns) ≡ pools_of ns
numbered ns = pools_same ns (gathered nothing_gathered ns) (gathered_named ns) (has_gathered nothing_gathered ns)

pub places_numbered : (before ns after : List Naming)
    → map (number_of (ranks_of (gathered nothing_gathered (before ++ (ns ++ after))))) (places_of (gathered nothing_gathered before) ns)
    ≡ map (index_of (pools_of (before ++ (ns ++ after)))) ns
places_numbered before ns after =
    let start = gathered nothing_gathered before in
    let all = before ++ (ns ++ after) in
    let way : gathered nothing_gathered all ≡ gathered (gathered start ns) after =
    gathered_append nothing_gathered before (ns ++ after) ∙ gathered_append start ns after in
    let grows : Grows (gathered start ns) (gathered nothing_gathered all) =
    subst (Grows (gathered start ns)) (sym way) (grows_gathered (gathered start ns) after) in
    numbers_end (gathered nothing_gathered all) (pools_of all) (numbered all) start ns grows
