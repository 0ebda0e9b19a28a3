-- The numbers of a code: how many there are, and that they stand first.
use Rattle.std.proofs.Common.{◌≡◌, ℕ, suc, cond, ◌+◌, List, [], ◌∷◌, ◌++◌, length, map, take, drop, Option, Some, None, option_map, refl, sym, ap, ◌∙◌, arith}
use Rattle.std.specs.Prelude.{count_by, is_some, flat_map}
use Rattle.std.proofs.lemmas.List.Recursion.{is_count_by}
use Rattle.std.proofs.Math.Seq.{take-append_seam, drop-append_seam}
use Rattle.std.proofs.Math.ListN.{length-append}
use Rattle.pi_model.specs.declared.describe.Catch.{Catch}
use Rattle.pi_model.specs.declared.describe.Code.{Code}
use Rattle.pi_model.specs.declared.describe.Line.{Line}
use Rattle.pi_model.specs.declared.numbers.NameNo.{NameNo}
use Rattle.pi_dextables.specs.declared.tables.Body.{Body}
use Rattle.pi_contents.specs.Named.{line_content, catch_content, code_content}
use Rattle.pi_contents.specs.Naming.{named_by_line, named_by_catch, named_by_code}
use Rattle.pi_classtables.specs.Numbers.{Pools, index_of}
use Rattle.pi_classtables.specs.Whole.{body_of, optional_body}
use Rattle.pi_dexrows.specs.Taken.{code_names, optional_names}

lines_counted : (text : NameNo → List ℕ) (ls : List Line) → length (flat_map named_by_line (map (line_content text) ls)) ≡ length ls
lines_counted text [] = refl
lines_counted text (l ∷ ls) = ap suc (lines_counted text ls)

typed_counted : (text : NameNo → List ℕ) (cs : List Catch) → length (flat_map named_by_catch (map (catch_content text) cs)) ≡ count_by (λ (t : Catch). is_some t.ty) cs
typed_counted text cs = is_count_by (λ (ts : List Catch). length (flat_map named_by_catch (map (catch_content text) ts))) (λ (t : Catch). is_some t.ty) refl (λ c ts. by_type c ts c.ty refl) cs
  where
    by_type : (c : Catch) (ts : List Catch) (t : Option NameNo) → c.ty ≡ t → length (flat_map named_by_catch (map (catch_content text) (c ∷ ts)))
        ≡ cond (is_some c.ty) (1 + length (flat_map named_by_catch (map (catch_content text) ts))) (length (flat_map named_by_catch (map (catch_content text) ts)))
    by_type c ts None e = rw e refl
    by_type c ts (Some t) e = rw e (omega arith)

names_counted : (text : NameNo → List ℕ) (c : Code) → length (named_by_code (Some (code_content text c))) ≡ code_names c
names_counted text c =
    length-append (flat_map named_by_line (map (line_content text) c.insns)) (flat_map named_by_catch (map (catch_content text) c.tries))
    ∙ (λ i. lines_counted text c.insns i + typed_counted text c.tries i)

length_mapped : {A B : Type 0} (f : A → B) (xs : List A) → length (map f xs) ≡ length xs
length_mapped f [] = refl
length_mapped f (x ∷ xs) = grind (arith, length_mapped f xs)

optional_counted : (p : Pools) (text : NameNo → List ℕ) (c : Option Code) → length (map (index_of p) (named_by_code (option_map (code_content text) c))) ≡ optional_names c
optional_counted p text None = refl
optional_counted p text (Some c) = length_mapped (index_of p) (named_by_code (Some (code_content text c))) ∙ names_counted text c

-- so they are taken, and the rest is left
pub own_numbers : (p : Pools) (text : NameNo → List ℕ) (c : Code) (rest : List ℕ)
    → take (code_names c) (map (index_of p) (named_by_code (Some (code_content text c))) ++ rest) ≡ map (index_of p) (named_by_code (Some (code_content text c)))
own_numbers p text c rest =
    let ns : List ℕ = map (index_of p) (named_by_code (Some (code_content text c))) in
    ap (λ (n : ℕ). take n (ns ++ rest)) (sym (optional_counted p text (Some c))) ∙ take-append_seam ns rest

pub other_numbers : (p : Pools) (text : NameNo → List ℕ) (c : Option Code) (rest : List ℕ)
    → drop (optional_names c) (map (index_of p) (named_by_code (option_map (code_content text) c)) ++ rest) ≡ rest
other_numbers p text c rest =
    let ns : List ℕ = map (index_of p) (named_by_code (option_map (code_content text) c)) in
    ap (λ (n : ℕ). drop n (ns ++ rest)) (sym (optional_counted p text c)) ∙ drop-append_seam ns rest

-- what is made of a code by the numbers that stand first is what its body is
pub body_made : (p : Pools) (text : NameNo → List ℕ) (listed ns own rest : List ℕ) (c : Code) (code : Option Code) (made : Option Body)
    → code ≡ Some c → own ≡ take (code_names c) ns → ns ≡ map (index_of p) (named_by_code (option_map (code_content text) code)) ++ rest
    → (own ≡ map (index_of p) (named_by_code (Some (code_content text c))) → made ≡ body_of p listed (code_content text c))
    → option_map Some made ≡ optional_body p listed (option_map (code_content text) code)
body_made p text listed ns own rest c code made is front are says =
    let here : ns ≡ map (index_of p) (named_by_code (Some (code_content text c))) ++ rest = rw is at are in
    let found = front ∙ ap (take (code_names c)) here ∙ own_numbers p text c rest in
    rw is (ap (option_map Some) (says found))
