-- The numbers behind those of what instructions name are those of the types that handlers catch.
use Rattle.std.proofs.Common.{◌≡◌, ℕ, ◌<◌, ◌≤◌, List, [], ◌∷◌, ◌++◌, length, drop, map, Option, Some, None, option_map, refl, ap, ap₂, ◌∙◌, arith}
use Rattle.std.specs.Prelude.{if◌then◌else◌}
use Rattle.std.specs.List.{flat_map}
use Rattle.std.specs.declared.cmp.Ordering.{Ordering}
use Rattle.std.specs.declared.cmp.Ordering.TheVariants.{Less, Equal, Greater}
use Rattle.std.proofs.lemmas.Bool.{lt-ltb}
use Rattle.pi_model.specs.declared.describe.Catch.{Catch}
use Rattle.pi_model.specs.declared.describe.Line.{Line}
use Rattle.pi_model.specs.declared.numbers.NameNo.{NameNo}
use Rattle.pi_contents.specs.Contents.{Naming}
use Rattle.pi_contents.specs.Named.{line_content, catch_content}
use Rattle.pi_contents.specs.Naming.{named_by_line, named_by_catch, named_by_type}
use Rattle.pi_classtables.specs.Numbers.{Pools, index_of, type_no}
use Rattle.pi_classtables.specs.Sorted.{place_in, text_order}
use Rattle.pi_dexdata.specs.Numbers.{caught, with_caught}
use Rattle.pi_dexcodes.specs.Caught.{narrow, type_numbers}

place_within : (t : List ℕ) (types : List (List ℕ)) → place_in text_order t types ≤ length types
place_within t [] = omega arith
place_within t (u ∷ us) = by_order (text_order t u) refl (place_within t us)
  where
    by_order : (r : Ordering) → text_order t u ≡ r → place_in text_order t us ≤ length us → place_in text_order t (u ∷ us) ≤ length (u ∷ us)
    by_order Less e within = rw e (omega arith)
    by_order Equal e within = rw e (omega arith)
    by_order Greater e within = rw e (omega arith)

narrow_is : (n : ℕ) → n < 65536 → narrow n ≡ n
narrow_is n less = ap (λ b. if b then n else 0) (lt-ltb n 65536 less)

-- numbers of types fit 16 bits
all_narrow : (p : Pools) → length p.types ≤ 65535 → (types : List (List ℕ)) → map narrow (map (type_no p) types) ≡ map (type_no p) types
all_narrow p few [] = refl
all_narrow p few (t ∷ ts) =
    ap₂ (λ n ns. n ∷ ns) (narrow_is (type_no p t) (omega (arith, place_within t p.types))) (all_narrow p few ts)

caught_are : (p : Pools) (text : NameNo → List ℕ) (tries : List Catch)
    → map (index_of p) (flat_map named_by_catch (map (catch_content text) tries)) ≡ map (type_no p) (caught (map (catch_content text) tries))
caught_are p text [] = refl
caught_are p text (c ∷ cs) = by_type c.ty (caught_are p text cs)
  where
    by_type : (ty : Option NameNo) → map (index_of p) (flat_map named_by_catch (map (catch_content text) cs)) ≡ map (type_no p) (caught (map (catch_content text) cs))
        → map (index_of p) (named_by_type (option_map text ty) ++ flat_map named_by_catch (map (catch_content text) cs))
        ≡ map (type_no p) (with_caught (option_map text ty) (caught (map (catch_content text) cs)))
    by_type None later = later
    by_type (Some t) later = ap (λ ns. type_no p (text t) ∷ ns) later

behind_lines : (f : Naming → ℕ) (text : NameNo → List ℕ) (lines : List Line) (more : List ℕ)
    → drop (length lines) (map f (flat_map named_by_line (map (line_content text) lines)) ++ more) ≡ more
behind_lines f text [] more = refl
behind_lines f text (l ∷ ls) more = behind_lines f text ls more

pub types_are : (p : Pools) (text : NameNo → List ℕ) → length p.types ≤ 65535 → (lines : List Line) (tries : List Catch)
    → type_numbers (length lines) (map (index_of p) (flat_map named_by_line (map (line_content text) lines))
    ++ map (index_of p) (flat_map named_by_catch (map (catch_content text) tries))) ≡ map (type_no p) (caught (map (catch_content text) tries))
types_are p text few lines tries =
    let kept = map (index_of p) (flat_map named_by_catch (map (catch_content text) tries)) in
    ap (map narrow) (behind_lines (index_of p) text lines kept ∙ caught_are p text tries)
    ∙ all_narrow p few (caught (map (catch_content text) tries))
