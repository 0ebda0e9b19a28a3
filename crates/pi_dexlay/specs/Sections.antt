-- The sections of a file, as they were made.
use Rattle.std.specs.Prelude.{◌≡◌, ℕ, ◌≤◌, List, [], ◌∷◌}
use Rattle.pi_bytes.specs.Numbers.{most_bytes}
use Rattle.pi_parts.specs.Parts.{words, offsets, aligned_offsets}
use Rattle.pi_bytes.specs.Numbers.{no_index}
use Rattle.pi_dextables.specs.Items.{string_item, list_offset, array_offset}
use Rattle.pi_dextables.specs.declared.tables.Class.{Class}
use Rattle.pi_dextables.specs.Rows.{all_bodies, class_data}
use Rattle.pi_dextables.specs.Image.{parent_word, type_lists, value_arrays, kind_counts, positive, lists_begin, lists_part, codes_begin, codes_part, strings_begin, strings_part, members_begin, members_part, listed, arrays_begin, arrays_part, code_offsets, file_end}
use Rattle.pi_dextables.specs.declared.tables.Proto.{Proto}
use Rattle.pi_dextables.specs.declared.tables.Tables.{Tables}
use Rattle.pi_dexlay.specs.declared.made.Made.{Made}
use Rattle.pi_dexlay.specs.declared.made.Places.{Places}
use Rattle.pi_dexlay.specs.declared.made.Pools.{Pools}
use Rattle.pi_dexlay.specs.declared.sections.Codes.{Codes}
use Rattle.pi_dexlay.specs.declared.sections.Section.{Section}
use Rattle.pi_dexlay.specs.Heads.{all_fit}

-- the things of which equal ones stand once
pub record ArePools (t : Tables) (p : Pools) : Type 0 where
  pub lists : p.lists.keys ≡ type_lists t
  pub arrays : p.arrays.keys ≡ value_arrays t
  pub kinds : p.kinds ≡ positive (kind_counts t)
  pub few : p.kinds ≤ 13

-- a section has those bytes and offsets
pub record IsSection (bytes offsets : List ℕ) (s : Section) : Type 0 where
  pub is : s.bytes.items ≡ bytes
  pub at : s.offsets.items ≡ offsets

-- the code items, and whether their ranges reach their lists
pub record AreCodes (t : Tables) (c : Codes) : Type 0 where
  pub is : c.bytes.items ≡ codes_part t
  pub at : c.offsets.items ≡ code_offsets t
  pub fit : c.fit ≡ all_fit (all_bodies t.classes)

-- sections begin there, and the file ends there
pub record ArePlaces (t : Tables) (p : Places) : Type 0 where
  pub lists : p.lists ≡ lists_begin t
  pub codes : p.codes ≡ codes_begin t
  pub strings : p.strings ≡ strings_begin t
  pub members : p.members ≡ members_begin t
  pub arrays : p.arrays ≡ arrays_begin t
  pub end : p.end ≡ file_end t
  pub few : file_end t ≤ most_bytes

pub record AreMade (t : Tables) (m : Made) : Type 0 where
  pub lists : IsSection (lists_part t) (aligned_offsets (λ (x : List ℕ). x) (lists_begin t) (type_lists t)) m.lists
  pub codes : AreCodes t m.codes
  pub strings : IsSection (strings_part t) (offsets string_item (strings_begin t) t.strings) m.strings
  pub members : IsSection (members_part t) (offsets class_data (members_begin t) (listed t)) m.members
  pub arrays : IsSection (arrays_part t) (offsets (λ (x : List ℕ). x) (arrays_begin t) (value_arrays t)) m.arrays
  pub places : ArePlaces t m.places

-- the entry of a prototype, by lists of types and their offsets
unfoldable pub proto_bytes : List (List ℕ) → List ℕ → Proto → List ℕ
proto_bytes keys offsets p = words (p.short ∷ p.ret ∷ list_offset keys offsets p.params ∷ [])

-- the words of a class definition, by what was made
abbrev pub definition : Pools → Made → Class → ℕ → List ℕ
definition pools made c members =
    c.class ∷ c.flags ∷ parent_word c.parent ∷ list_offset pools.lists.keys made.lists.offsets.items c.faces ∷ no_index ∷ 0 ∷ members
    ∷ array_offset pools.arrays.keys made.arrays.offsets.items c.values ∷ []

abbrev pub all_definitions : Pools → Made → List Class → List ℕ → List (List ℕ)
all_definitions pools made [] offsets = []
all_definitions pools made (c ∷ cs) [] = []
all_definitions pools made (c ∷ cs) (o ∷ os) = definition pools made c o ∷ all_definitions pools made cs os
