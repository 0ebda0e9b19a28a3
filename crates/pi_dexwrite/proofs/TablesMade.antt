-- The tables of the classes that are held.
use Rattle.std.specs.Prelude.{◌≡◌, List, [], ◌∷◌, ◌++◌, length, map, Option, Some, None, Bool, if◌then◌else◌, IsTrue, slice_index_or, refl}
use Rattle.std.specs.List.{All, Contains}
use Rattle.std.proofs.Common.{sym, ◌∙◌, ap, subst}
use Rattle.std.proofs.lemmas.List.{append_assoc}
use Rattle.std.proofs.lemmas.List.Elements.{All-nil, All-cons, All-head, All-tail, All-contains_itself}
use Rattle.pi_contents.specs.Contents.{Naming}
use Rattle.pi_contents.specs.Naming.{named_by, named_by_class}
use Rattle.pi_insn.specs.Chain.{◌>>=◌}
use Rattle.pi_dextables.specs.declared.tables.Class.{Class}
use Rattle.pi_classtables.specs.Numbers.{Pools, index_of, pools_of, string_no, proto_entry, field_entry, method_entry}
use Rattle.pi_classtables.specs.Spelled.{IsSpelled}
use Rattle.pi_classtables.specs.Whole.{Added, classes_added, class_row, for_each, is_counted, pools_for, tables_of, tables_with}
use Rattle.pi_dexpools.specs.declared.gathered.Gathered.{Gathered}
use Rattle.pi_dexpools.specs.Gathered.{nothing_gathered, gathered, places_of}
use Rattle.pi_dexpools.specs.Ranked.{number_of, numbering, ranks_of}
use Rattle.pi_dexnumbers.specs.declared.tables.Numbered.{Numbered}
use Rattle.pi_dexwrite.specs.declared.part.Part.{Part}
use Rattle.pi_dexwrite.specs.Held.{added_by, all_added, AreHeld, ArePlaced}
use Rattle.pi_dexwrite.specs.Ready.{with_classes, AreNumbered, IsReady, PartSpelled}
use Rattle.pi_dexwrite.proofs.Adding.{gathered-append, held_counted}

-- what holds of the images holds of each thing by its image
unmapped : {A B : Type 0} (P : B → Type 0) (f : A → B) (xs : List A) → All P (map f xs) → All (λ x. P (f x)) xs
unmapped P f [] h = All-nil (λ x. P (f x))
unmapped P f (x ∷ xs) h = All-cons (λ y. P (f y)) x xs (All-head P (f x) (map f xs) h) (unmapped P f xs (All-tail P (f x) (map f xs) h))

pub parts_spelled : (parts : List Part) (g : Gathered) → AreHeld parts g → All PartSpelled parts
parts_spelled parts g held = unmapped IsSpelled added_by parts held.spelled

abbrev PartNumbered : List Naming → Part → Type 0
PartNumbered all p =
    map (number_of (ranks_of (gathered nothing_gathered all))) p.places ≡ map (index_of (pools_of all)) (named_by_class (added_by p).class)

module _ (numbered : (before ns after : List Naming)
    → map (number_of (ranks_of (gathered nothing_gathered (before ++ (ns ++ after))))) (places_of (gathered nothing_gathered before) ns)
    ≡ map (index_of (pools_of (before ++ (ns ++ after)))) ns) where
  parts_numbered : (all before : List Naming) (parts : List Part) → before ++ named_by (classes_added (all_added parts)) ≡ all
      → ArePlaced (gathered nothing_gathered before) parts → All (PartNumbered all) parts
  parts_numbered all before [] e placed = All-nil (PartNumbered all)
  parts_numbered all before (p ∷ ps) e placed =
      let ns : List Naming = named_by_class (added_by p).class in
      let after : List Naming = named_by (classes_added (all_added ps)) in
      let here : map (number_of (ranks_of (gathered nothing_gathered all))) (places_of (gathered nothing_gathered before) ns) ≡ map (index_of (pools_of all)) ns =
      subst (λ (ms : List Naming). map (number_of (ranks_of (gathered nothing_gathered ms))) (places_of (gathered nothing_gathered before) ns) ≡ map (index_of (pools_of ms)) ns)
      e (numbered before ns after) in
      All-cons (PartNumbered all) p ps
      (ap (map (number_of (ranks_of (gathered nothing_gathered all)))) placed.0 ∙ here)
      (parts_numbered all (before ++ ns) ps (append_assoc before ns after ∙ e)
      (subst (λ (g : Gathered). ArePlaced g ps) (sym (gathered-append nothing_gathered before ns)) placed.1))

  module _ (types : (ns : List Naming) → length (gathered nothing_gathered ns).types ≡ length (pools_of ns).types)
      (protos : (ns : List Naming) → length (gathered nothing_gathered ns).protos ≡ length (pools_of ns).protos)
      (parts : List Part) (g : Gathered) (held : AreHeld parts g) where
    -- each part is ready to be made a row
    pub parts_ready : All (IsReady (all_added parts) (ranks_of g)) parts
    parts_ready k d within =
        record {
          counted = held_counted types protos parts g held;
          among = unmapped (Contains (all_added parts)) added_by parts (All-contains_itself (all_added parts)) k d within;
          numbered = subst (λ (h : Gathered). map (number_of (ranks_of h)) (slice_index_or parts k d).places
              ≡ map (index_of (pools_for (all_added parts))) (named_by_class (added_by (slice_index_or parts k d)).class)) (sym held.whole)
              (parts_numbered (named_by (classes_added (all_added parts))) [] parts refl held.placed k d within);
        }

-- the first tables, each by its own equation
pub first_tables : (g : Gathered) (n : Numbered) (classes : List Class) → n.strings ≡ (numbering g).strings
    → n.types ≡ map (string_no (numbering g)) (numbering g).types → n.protos ≡ map (proto_entry (numbering g)) (numbering g).protos
    → n.fields ≡ map (field_entry (numbering g)) (numbering g).fields → n.methods ≡ map (method_entry (numbering g)) (numbering g).methods
    → with_classes n classes ≡ tables_with (numbering g) classes
first_tables g n classes strings types protos fields methods = cc

-- the tables of classes by their rows
pub tables_by_rows : (es : List Added) (rows : List Class) → IsTrue (is_counted (pools_for es)) → for_each (class_row (pools_for es)) es ≡ Some rows
    → tables_of es ≡ Some (tables_with (pools_for es) rows)
unfolding tables_of
tables_by_rows es rows counted made =
    ap (λ (b : Bool). if b then for_each (class_row (pools_for es)) es >>= (λ classes. Some (tables_with (pools_for es) classes)) else None) counted
    ∙ ap (λ (o : Option (List Class)). o >>= (λ classes. Some (tables_with (pools_for es) classes))) made

pub no_tables : (es : List Added) → IsTrue (is_counted (pools_for es)) → for_each (class_row (pools_for es)) es ≡ None → tables_of es ≡ None
unfolding tables_of
no_tables es counted none =
    ap (λ (b : Bool). if b then for_each (class_row (pools_for es)) es >>= (λ classes. Some (tables_with (pools_for es) classes)) else None) counted
    ∙ ap (λ (o : Option (List Class)). o >>= (λ classes. Some (tables_with (pools_for es) classes))) none

-- the tables that were made are those of the classes
pub tables_made : (parts : List Part) (g : Gathered) (n : Numbered) (rows : List Class) → AreHeld parts g → AreNumbered g n
    → ((ns : List Naming) → numbering (gathered nothing_gathered ns) ≡ pools_of ns)
    → IsTrue (is_counted (pools_for (all_added parts))) → for_each (class_row (pools_for (all_added parts))) (all_added parts) ≡ Some rows
    → tables_of (all_added parts) ≡ Some (with_classes n rows)
tables_made parts g n rows held are all counted made =
    tables_by_rows (all_added parts) rows counted made
    ∙ ap (λ (p : Pools). Some (tables_with p rows)) (sym (ap numbering held.whole ∙ all (named_by (classes_added (all_added parts)))))
    ∙ ap Some (sym (are.tables rows))
