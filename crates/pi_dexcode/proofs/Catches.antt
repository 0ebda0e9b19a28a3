-- The entries of handler tables, and where the ranges with their lists lie.
use Rattle.std.proofs.Common.{◌≡◌, ℕ, ◌+◌, ◌*◌, ◌<◌, ◌≤◌, List, [], ◌∷◌, ◌++◌, length, map, Option, Some, None, Bool, true, false, refl, sym, ap, ◌∙◌, subst, arith, zero-add, cond}
use Rattle.std.specs.Prelude.{◌==◌, nat_le, find, if◌then◌else◌}
use Rattle.std.specs.List.{All}
use Rattle.std.proofs.lemmas.Bool.Decides.{nat_tests}
use Rattle.std.proofs.lemmas.List.Elements.{All-head, All-tail}
use Rattle.pi_model.specs.declared.describe.Catch.{Catch}
use Rattle.pi_bytes.specs.Numbers.{word_at, most_bytes, word_end}
use Rattle.pi_format.specs.Rules.Entries.{each_from}
use Rattle.pi_format.specs.Rules.CodeItems.{HandlerList, TryRange, CodeHead, code_head, code_lies, tries_at, lists_at, try_range, range_holds, ranges_hold}
use Rattle.pi_format.specs.Says.Names.{Named}
use Rattle.pi_format.specs.Says.Codes.{typed_catch, last_catch, range_catches, catches_at}
use Rattle.pi_format.proofs.Held.{both}
use Rattle.pi_codeitem.proofs.Items.{code_in_file}
use Rattle.pi_codeitem.proofs.Served.{each_holds}

-- the entries of a range by the list that was found
abbrev pub found_catches : Named → TryRange → Option HandlerList → List Catch
found_catches n r None = []
found_catches n r (Some l) = map (typed_catch n r) l.typed ++ last_catch r l.last

pub catches_by_find : (n : Named) (r : TryRange) (lists : List HandlerList) (place : ℕ)
    → range_catches n r lists place ≡ found_catches n r (find (λ (l : HandlerList). l.at == place) lists)
catches_by_find n r [] place = refl
catches_by_find n r (l ∷ ls) place =
    elim (l.at == place) as (λ b. (if b then map (typed_catch n r) l.typed ++ last_catch r l.last else range_catches n r ls place) ≡ found_catches n r (cond b (Some l) (find (λ (l : HandlerList). l.at == place) ls)))
    [ true ↦ refl | false ↦ catches_by_find n r ls place ]

-- the same for a range by its number
pub catches_found : (n : Named) (at : ℕ) (head : CodeHead) (lists : List HandlerList) (k place : ℕ) (r : TryRange) (o : Option HandlerList)
    → r ≡ try_range n.file (tries_at at head) k → place ≡ lists_at at head + r.handlers → o ≡ find (λ (l : HandlerList). l.at == place) lists
    → catches_at n at head lists k ≡ found_catches n r o
catches_found n at head lists k place r o is there found =
    ap (λ (r : TryRange). range_catches n r lists (lists_at at head + r.handlers)) (sym is)
    ∙ ap (range_catches n r lists) (sym there)
    ∙ catches_by_find n r lists place
    ∙ ap (found_catches n r) (sym found)

le_true : (a b : ℕ) → nat_le a b ≡ true → a ≤ b
le_true a b e = grind (arith, nat_tests)

-- a range ends in the code
pub range_ends : (file : List ℕ) (at : ℕ) (head : CodeHead) (k : ℕ) → ranges_hold file at head ≡ true → k < head.tries
    → (try_range file (tries_at at head) k).from + (try_range file (tries_at at head) k).size ≤ head.units
range_ends file at head k hold lt =
    let each = (both (nat_le (tries_at at head + 8 * head.tries) (length file)) (each_from (range_holds file (tries_at at head) head.units) 0 head.tries) hold).1 in
    let this = subst (λ (j : ℕ). range_holds file (tries_at at head) head.units j ≡ true) (zero-add k) (each_holds (range_holds file (tries_at at head) head.units) 0 head.tries each k lt) in
    le_true ((try_range file (tries_at at head) k).from + (try_range file (tries_at at head) k).size) head.units (both (nat_le ((try_range file (tries_at at head) k).from + (try_range file (tries_at at head) k).size) head.units) _ this).0

pub range_small : (file : List ℕ) (at : ℕ) (head : CodeHead) (k : ℕ) → length file ≤ most_bytes → code_lies file at ≡ true → head ≡ code_head file at → ranges_hold file at head ≡ true
    → k < head.tries → (try_range file (tries_at at head) k).from + (try_range file (tries_at at head) k).size < word_end
range_small file at head k few lies is hold lt =
    let units : head.units ≡ word_at file (at + 12) = ap (λ (h : CodeHead). h.units) is in
    below ((try_range file (tries_at at head) k).from + (try_range file (tries_at at head) k).size) head.units (word_at file (at + 12)) at (length file)
    (range_ends file at head k hold lt) units (code_in_file file at lies) few
  where
    below : (end units word at n : ℕ) → end ≤ units → units ≡ word → at + 16 + 2 * word ≤ n → n ≤ most_bytes → end < word_end
    below end units word at n le is inside few = omega arith

-- the same range by an equal file and head
pub whole_range : (file file' : List ℕ) (at : ℕ) (head : CodeHead) (k : ℕ) (r : TryRange) → file' ≡ file → head ≡ code_head file at
    → r ≡ try_range file' (tries_at at (code_head file' at)) k → r ≡ try_range file (tries_at at head) k
whole_range file file' at head k r same is e =
    e ∙ ap (λ (f : List ℕ). try_range f (tries_at at (code_head f at)) k) same ∙ ap (λ (h : CodeHead). try_range file (tries_at at h) k) (sym is)

-- what is true of all is true of what was found
pub found_holds : {A : Type 0} (P : A → Type 0) (test : A → Bool) (xs : List A) (x : A) → All P xs → find test xs ≡ Some x → P x
found_holds P test [] x all e = cc
found_holds P test (a ∷ others) x all e = by_test (test a) e (found_holds P test others x (All-tail P a others all))
  where
    by_test : (b : Bool) → cond b (Some a) (find test others) ≡ Some x → (find test others ≡ Some x → P x) → P x
    by_test true e later =
        let same : a ≡ x = cc in
        subst P same (All-head P a others all)
    by_test false e later = later e
