-- The numbers in a code, a method and a class, from those in the things that it lists.
use Rattle.std.proofs.Common.{ℕ, List, map, Option, Some, None}
use Rattle.std.specs.Prelude.{IfSome, option_map}
use Rattle.std.specs.List.{All}
use Rattle.std.proofs.lemmas.List.Elements.{All-map, All-weaker}
use Rattle.pi_model.specs.declared.numbers.NameNo.{NameNo}
use Rattle.pi_model.specs.declared.describe.Code.{Code}
use Rattle.pi_model.specs.declared.describe.Line.{Line}
use Rattle.pi_contents.specs.Named.{bare, line_content, code_content}
use Rattle.pi_classtables.specs.Sized.{InsnSized, LineSized, CodeSized}
use Rattle.pi_dexsizes.proofs.Bare.{bare_again, named_alike}

-- a line, from the numbers in its instruction
pub line_sized : (l : Line) → InsnSized (bare l.insn) → (text : NameNo → List ℕ) → LineSized (line_content text l)
line_sized l h text = record { insn = h; bare = bare_again l.insn; naming = named_alike text l.insn }

-- what holds of things by any texts holds of all that they are by one
pub all_by : {X Y : Type 0} (P : Y → Type 0) (content : (NameNo → List ℕ) → X → Y) (xs : List X)
    → All (λ (x : X). (text : NameNo → List ℕ) → P (content text x)) xs → (text : NameNo → List ℕ) → All P (map (content text) xs)
all_by {X} P content xs h text =
    All-map P (content text) xs (All-weaker (λ (x : X). (t : NameNo → List ℕ) → P (content t x)) (λ x. P (content text x)) (λ x all. all text) xs h)

-- and of one that may be there
pub some_by : (o : Option Code) → IfSome o (λ c. (text : NameNo → List ℕ) → CodeSized (code_content text c))
    → (text : NameNo → List ℕ) → IfSome (option_map (code_content text) o) CodeSized
some_by None h text = tt
some_by (Some c) h text = h text
