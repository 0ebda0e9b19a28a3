-- The code items of the methods of a file, each once: several methods may have the same.
use Rattle.std.specs.Prelude.{ℕ, zero, suc, ◌+◌, ◌==◌, ◌||◌, not, is_some, List, [], ◌∷◌, ◌++◌, Option, if◌then◌else◌}
use Rattle.std.specs.List.{Contains}
use Rattle.std.specs.List.Sorted.{IsStrictlyIncreasing}
use Rattle.pi_format.specs.Tables.{count_at, class_defs}
use Rattle.pi_format.specs.Rules.Header.{unless}
use Rattle.pi_format.specs.Rules.Lowest.{lowest_from, lowest_of}
use Rattle.pi_format.specs.Rules.Rows.{MemberRow}
use Rattle.pi_format.specs.Rules.ClassData.{rows_of, methods_in}
use Rattle.pi_format.specs.Rules.CodeItems.{of_code, code_lies, argument_words}
use Rattle.pi_codeitem.specs.Shared.{item_bytes, takes_words}

-- the offsets of the code items of methods, in the order of these
abbrev pub offsets_in : List MemberRow → List ℕ
offsets_in [] = []
offsets_in (row ∷ rows) = if row.code == 0 then offsets_in rows else row.code ∷ offsets_in rows

-- those of the methods of n classes, from one on
abbrev pub offsets_from : List ℕ → ℕ → ℕ → List ℕ
offsets_from file i zero = []
offsets_from file i (suc n) = offsets_in (methods_in (rows_of file i)) ++ offsets_from file (i + 1) n

-- those of all methods of a file
abbrev pub code_offsets : List ℕ → List ℕ
code_offsets file = offsets_from file 0 (count_at file class_defs)

-- the code items of a file's methods, each once, by their offsets
pub record AreCodes (file codes : List ℕ) : Type 0 where
  pub rise : IsStrictlyIncreasing codes
  pub had : (at : ℕ) → Contains codes at → Contains (code_offsets file) at
  pub all : (at : ℕ) → Contains (code_offsets file) at → Contains codes at

-- the place of a code item that does not hold, whatever method has it
abbrev pub item_place : List ℕ → ℕ → Option ℕ
item_place file at = unless (is_some (item_bytes file at)) at

-- the place of a method's code item, where that is in the file and has other argument words than the method
abbrev pub words_place : List ℕ → MemberRow → Option ℕ
words_place file row =
    of_code (λ (r : MemberRow). unless (not (code_lies file r.code) || takes_words file (argument_words file r) r.code) r.code) row

-- the lowest place of these
abbrev pub lowest_words : List ℕ → Option ℕ
lowest_words file = lowest_from (λ i. lowest_of (words_place file) (methods_in (rows_of file i))) 0 (count_at file class_defs)
