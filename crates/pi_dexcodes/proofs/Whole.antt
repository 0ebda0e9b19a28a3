-- A code by numbers is the code by the pools that these are of.
use Rattle.std.proofs.Common.{◌≡◌, ℕ, ◌≤◌, List, ◌++◌, length, map, Option, Some, None, sym, ap, ap₂, ◌∙◌}
use Rattle.std.specs.List.{flat_map}
use Rattle.std.proofs.lemmas.List.{map-append}
use Rattle.pi_insn.specs.Chain.{◌>>=◌}
use Rattle.pi_model.specs.declared.describe.Code.{Code}
use Rattle.pi_model.specs.declared.numbers.NameNo.{NameNo}
use Rattle.pi_contents.specs.Named.{line_content, catch_content, code_content}
use Rattle.pi_contents.specs.Naming.{named_by_line, named_by_catch, named_by_code}
use Rattle.pi_dextables.specs.declared.tables.Body.{Body}
use Rattle.pi_dextables.specs.declared.tables.Catches.{Catches}
use Rattle.pi_dextables.specs.declared.tables.Range.{Range}
use Rattle.pi_classtables.specs.Layout.{code_units, front}
use Rattle.pi_classtables.specs.Numbers.{Pools, index_of, type_no}
use Rattle.pi_classtables.specs.Ranges.{groups_of, lists_of, ranges_of}
use Rattle.pi_classtables.specs.Whole.{body_of}
use Rattle.pi_dexdata.specs.Numbers.{caught}
use Rattle.pi_dexcodes.specs.Caught.{type_numbers}
use Rattle.pi_dexcodes.specs.Laying.{laid_code}
use Rattle.pi_dexcodes.proofs.UnitsAre.{units_are}
use Rattle.pi_dexcodes.proofs.TypesAre.{types_are}

-- the numbers of instructions, and those of handlers behind them
parted : (p : Pools) (text : NameNo → List ℕ) (c : Code) (numbers : List ℕ) → numbers ≡ map (index_of p) (named_by_code (Some (code_content text c)))
    → numbers ≡ map (index_of p) (flat_map named_by_line (map (line_content text) c.insns))
    ++ map (index_of p) (flat_map named_by_catch (map (catch_content text) c.tries))
parted p text c numbers are =
    are ∙ map-append (index_of p) (flat_map named_by_line (map (line_content text) c.insns)) (flat_map named_by_catch (map (catch_content text) c.tries))

code_is : (p : Pools) (text : NameNo → List ℕ) (listed : List ℕ) (c : Code) (numbers : List ℕ)
    → numbers ≡ map (index_of p) (named_by_code (Some (code_content text c)))
    → laid_code listed numbers c.insns ≡ code_units p listed (front 0 (map (line_content text) c.insns))
code_is p text listed c numbers are =
    ap (λ ns. laid_code listed ns c.insns) (parted p text c numbers are)
    ∙ units_are p text listed (map (index_of p) (flat_map named_by_catch (map (catch_content text) c.tries))) c.insns

pub caught_is : (p : Pools) (text : NameNo → List ℕ) (c : Code) (numbers types : List ℕ) → length p.types ≤ 65535
    → numbers ≡ map (index_of p) (named_by_code (Some (code_content text c))) → types ≡ type_numbers (length c.insns) numbers
    → map (type_no p) (caught (map (catch_content text) c.tries)) ≡ types
caught_is p text c numbers types few are made =
    sym (made ∙ ap (type_numbers (length c.insns)) (parted p text c numbers are) ∙ types_are p text few c.insns c.tries)

-- a code with handlers
abbrev with_handlers : Code → List Range → List Catches → Option (List ℕ) → Option Body
with_handlers c ranges lists units = units >>= (λ us. Some (record {
  registers = c.regs;
  ins = c.ins;
  outs = c.outs;
  units = us;
  ranges = ranges;
  lists = lists;
}))

pub no_body : (p : Pools) (text : NameNo → List ℕ) (listed : List ℕ) (c : Code) (numbers : List ℕ)
    → numbers ≡ map (index_of p) (named_by_code (Some (code_content text c)))
    → None ≡ laid_code listed numbers c.insns → None ≡ body_of p listed (code_content text c)
unfolding body_of
no_body p text listed c numbers are none =
    let groups = groups_of p (map (catch_content text) c.tries) in
    ap (with_handlers c (ranges_of groups) (lists_of groups)) (none ∙ code_is p text listed c numbers are)

pub body_is : (p : Pools) (text : NameNo → List ℕ) (listed : List ℕ) (c : Code) (numbers units : List ℕ) (ranges : List Range) (lists : List Catches)
    → numbers ≡ map (index_of p) (named_by_code (Some (code_content text c)))
    → Some units ≡ laid_code listed numbers c.insns
    → ranges ≡ ranges_of (groups_of p (map (catch_content text) c.tries)) → lists ≡ lists_of (groups_of p (map (catch_content text) c.tries))
    → with_handlers c ranges lists (Some units) ≡ body_of p listed (code_content text c)
unfolding body_of
body_is p text listed c numbers units ranges lists are some ranged listed_as =
    let groups = groups_of p (map (catch_content text) c.tries) in
    ap₂ (λ rs ls. with_handlers c rs ls (Some units)) ranged listed_as
    ∙ ap (with_handlers c (ranges_of groups) (lists_of groups)) (some ∙ code_is p text listed c numbers are)
