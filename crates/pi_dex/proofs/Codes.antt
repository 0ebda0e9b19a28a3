-- Methods of files of which the rules on code hold.
use Rattle.std.proofs.Common.{◌≡◌, ◌≢◌, ℕ, ◌<◌, List, Option, Some, None, Bool, true, false, refl, sym, ap, ◌∙◌, arith}
use Rattle.std.specs.Prelude.{◌==◌, ◌&&◌, nat_lt, nat_le, is_some, if◌then◌else◌}
use Rattle.std.specs.List.{All}
use Rattle.std.proofs.lemmas.Bool.Decides.{nat_tests}
use Rattle.pi_format.specs.Tables.{count_at, class_defs}
use Rattle.pi_format.specs.Rules.Header.{unless}
use Rattle.pi_format.specs.Rules.Lowest.{lowest_of}
use Rattle.pi_format.specs.Rules.Rows.{MemberRow}
use Rattle.pi_format.specs.Rules.ClassData.{rows_of, methods_in}
use Rattle.pi_format.specs.Rules.CodeItems.{of_code, code_head, code_lies, code_lists, code_holds, argument_words, broken_code}
use Rattle.pi_format.specs.Rules.Pieces.{unit_of, code_walk, first_insn, index_holds, broken_index}
use Rattle.pi_dex.specs.Judged.{code_place, index_place, CodeLies, SaysCode}
use Rattle.pi_dex.specs.Shared.{AreCodes}
use Rattle.pi_format.proofs.Held.{both}
use Rattle.pi_format.proofs.Every.{all_weaker, all_both}
use Rattle.pi_dex.proofs.Lowest.{none_from, none_of}
use Rattle.pi_dex.proofs.Shared.{codes_all}

-- with code, a place is the one of the code
with_code : (place : MemberRow → Option ℕ) (row : MemberRow) → row.code ≢ 0 → of_code place row ≡ None → place row ≡ None
with_code place row some e =
    let no : (row.code == 0) ≡ false = grind (arith, nat_tests) in
    sym (ap (λ (b : Bool). if b then None else place row) no) ∙ e

unless_none : (b : Bool) (at : ℕ) → unless b at ≡ None → b ≡ true
unless_none true at e = refl
unless_none false at e = cc

-- a code item that holds lies in the file, and its lists hold
pub record ItemHolds (file : List ℕ) (at : ℕ) : Type 0 where
  pub lies : code_lies file at ≡ true
  pub lists : is_some (code_lists file at) ≡ true

item_holds : (file : List ℕ) (words at : ℕ) → code_holds file words at ≡ true → ItemHolds file at
unfolding code_holds
item_holds file words at e =
    let head = code_head file at in
    let some : Bool = nat_lt 0 head.units && is_some (code_lists file at) in
    let fits : Bool = nat_le words head.registers && some in
    let a = both (code_lies file at) ((head.ins == words) && fits) e in
    let b = both (head.ins == words) fits a.1 in
    let c = both (nat_le words head.registers) some b.1 in
    let d = both (nat_lt 0 head.units) (is_some (code_lists file at)) c.1 in
    record { lies = a.0; lists = d.1 }

pub row_item : (file : List ℕ) (row : MemberRow) → code_place file row ≡ None → row.code ≢ 0 → ItemHolds file row.code
row_item file row e some =
    item_holds file (argument_words file row) row.code
    (unless_none (code_holds file (argument_words file row) row.code) row.code
    (with_code (λ r. unless (code_holds file (argument_words file r) r.code) r.code) row some e))

-- the methods of each class have code items that lie in the file
pub rows_lie : (file : List ℕ) (i : ℕ) → broken_code file ≡ None → i < count_at file class_defs → All (CodeLies file) (methods_in (rows_of file i))
rows_lie file i e lt =
    let rows = methods_in (rows_of file i) in
    let none : lowest_of (code_place file) rows ≡ None = none_from (λ k. lowest_of (code_place file) (methods_in (rows_of file k))) (count_at file class_defs) e i lt in
    all_weaker (λ r. code_place file r ≡ None) (CodeLies file) rows (λ r f some. (row_item file r f some).lies) (none_of (code_place file) rows none)

-- where the index of an instruction of a method is out of range
abbrev of_index : List ℕ → MemberRow → Option ℕ
of_index file row = of_code (λ (r : MemberRow). index_place file r.code) row

unit_none : (at : ℕ) (unit : Option ℕ) → unit_of at unit ≡ None → unit ≡ None
unit_none at None e = refl
unit_none at (Some u) e = cc

-- and say codes
pub rows_say : (file : List ℕ) (i : ℕ) → broken_code file ≡ None → broken_index file ≡ None → i < count_at file class_defs
    → All (λ (r : MemberRow). r.code ≢ 0 → SaysCode file r.code) (methods_in (rows_of file i))
rows_say file i code index lt =
    let rows = methods_in (rows_of file i) in
    let items : lowest_of (code_place file) rows ≡ None = none_from (λ k. lowest_of (code_place file) (methods_in (rows_of file k))) (count_at file class_defs) code i lt in
    let indices : lowest_of (of_index file) rows ≡ None = none_from (λ k. lowest_of (of_index file) (methods_in (rows_of file k))) (count_at file class_defs) index i lt in
    all_both (λ r. code_place file r ≡ None) (λ r. of_index file r ≡ None) (λ (r : MemberRow). r.code ≢ 0 → SaysCode file r.code) rows
    (λ r e f some. record {
      lies = (row_item file r e some).lies;
      lists = (row_item file r e some).lists;
      indices = unit_none r.code (first_insn (λ at j. index_holds file j.body) (code_walk file r.code).pieces)
          (with_code (λ s. unit_of s.code (first_insn (λ at j. index_holds file j.body) (code_walk file s.code).pieces)) r some f);
    })
    (none_of (code_place file) rows items) (none_of (of_index file) rows indices)

-- so does each code item of the file
pub codes_lie : (file codes : List ℕ) → AreCodes file codes → broken_code file ≡ None → All (λ at. code_lies file at ≡ true) codes
codes_lie file codes are e = codes_all (λ at. code_lies file at ≡ true) file codes are (λ i lt. rows_lie file i e lt)

pub codes_say : (file codes : List ℕ) → AreCodes file codes → broken_code file ≡ None → broken_index file ≡ None → All (SaysCode file) codes
codes_say file codes are code index = codes_all (SaysCode file) file codes are (λ i lt. rows_say file i code index lt)
