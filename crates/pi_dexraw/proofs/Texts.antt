-- Texts by their bytes and by their units.
use Rattle.std.proofs.Common.{◌≡◌, ℕ, ◌<◌, ◌≤◌, List, [], ◌∷◌, ◌++◌, None, length, Bool, true, false, refl, ap, ◌∙◌, arith}
use Rattle.std.specs.Prelude.{codes, ◌&&◌, nat_eq, nat_lt}
use Rattle.std.specs.List.{list_all}
use Rattle.std.specs.Cmp.Lexicographic.{pointwise}
use Rattle.std.proofs.lemmas.Bool.Decides.{nat_tests}
use Rattle.pi_model.specs.Texts.{same_text}
use Rattle.pi_bytes.specs.Mutf8.{spelling, spellings}
use Rattle.pi_format.specs.Tables.{count_at, string_ids}
use Rattle.pi_format.specs.Rules.Strings.{string_units, string_bytes, broken_strings}
use Rattle.pi_format.proofs.Held.{both, string_there, bytes_spell}
use Rattle.pi_dexids.proofs.Heads.{other_length}
use Rattle.pi_dexraw.specs.Whole.{known_text}

abbrev is_ascii : ℕ → Bool
is_ascii c = nat_lt 0 c && nat_lt c 128

-- an ASCII text begins a spelling exactly where it begins the units
one_letter : (c u : ℕ) (cs rest us : List ℕ) → is_ascii c ≡ true → pointwise nat_eq cs rest ≡ pointwise nat_eq cs us
    → pointwise nat_eq (c ∷ cs) (spelling u ++ rest) ≡ pointwise nat_eq (c ∷ cs) (u ∷ us)
one_letter c u cs rest us ascii e = grind (arith, nat_tests)

pub same_spelled : (cs us : List ℕ) → list_all is_ascii cs ≡ true → pointwise nat_eq cs (spellings us) ≡ pointwise nat_eq cs us
same_spelled [] [] e = refl
same_spelled [] (u ∷ us) e = grind (arith, nat_tests)
same_spelled (c ∷ cs) [] e = refl
same_spelled (c ∷ cs) (u ∷ us) e =
    let head = both (is_ascii c) (list_all is_ascii cs) e in
    one_letter c u cs (spellings us) us head.0 (same_spelled cs us head.1)

-- a string that has a text, by its bytes
spelled_so : (file : List ℕ) (s : ℕ) → broken_strings file ≡ None → s < count_at file string_ids → string_bytes file s ≡ spellings (string_units file s)
spelled_so file s kept lt = bytes_spell file s (string_there file s kept lt)

-- an ASCII text is the bytes of a string exactly where it is its units
pub same_bytes : (file : List ℕ) (s : ℕ) (cs : List ℕ) → broken_strings file ≡ None → s < count_at file string_ids → list_all is_ascii cs ≡ true
    → same_text cs (string_bytes file s) ≡ same_text cs (string_units file s)
same_bytes file s cs kept lt ascii = ap (same_text cs) (spelled_so file s kept lt) ∙ same_spelled cs (string_units file s) ascii

-- a string that has a text is known by its bytes
pub known_by_bytes : (file : List ℕ) (i : ℕ) → broken_strings file ≡ None → i < count_at file string_ids
    → known_text (string_bytes file i) ≡ known_text (string_units file i)
known_by_bytes file i texts lt =
    rw (
      same_bytes file i (codes "<init>") texts lt refl,
      same_bytes file i (codes "<clinit>") texts lt refl,
      same_bytes file i (codes "Ljava/lang/String;") texts lt refl,
      same_bytes file i (codes "Ljava/lang/Class;") texts lt refl,
    ) refl

-- a text of more units is none of these
other_text : (cs us : List ℕ) → length cs ≤ 18 → 18 < length us → same_text cs us ≡ false
other_text cs us few long = other_length cs us (λ e. absurd (omega (arith, e)))

pub long_text : (us : List ℕ) → 18 < length us
    → record { is_constructor = false; is_initialiser = false; is_string_type = false; is_class_type = false } ≡ known_text us
long_text us long =
    rw (
      other_text (codes "<init>") us (omega arith) long,
      other_text (codes "<clinit>") us (omega arith) long,
      other_text (codes "Ljava/lang/String;") us (omega arith) long,
      other_text (codes "Ljava/lang/Class;") us (omega arith) long,
    ) refl
