-- The lines that tell how a command ended. Each ends with a newline.
use Rattle.std.specs.Prelude.{ℕ, List, [], ◌∷◌, ◌++◌, codes, decimal}

abbrev pub line : List ℕ → List ℕ
line text = text ++ 10 ∷ []

abbrev pub usage_line : List ℕ
usage_line = codes "usage\n"

abbrev pub missing_line : List ℕ → List ℕ
missing_line name = codes "missing " ++ line name

abbrev pub read_fault_line : List ℕ → List ℕ
read_fault_line name = codes "read fault " ++ line name

abbrev pub write_fault_line : List ℕ → List ℕ
write_fault_line name = codes "write fault " ++ line name

-- a file breaks the rule of that number, at that offset
abbrev pub place_line : ℕ → List ℕ
place_line at = codes " at " ++ decimal at ++ codes "\n"

abbrev pub rule_line : ℕ → ℕ → List ℕ
rule_line rule at = codes ": rule " ++ decimal rule ++ place_line at

abbrev pub dex_line : List ℕ → ℕ → ℕ → List ℕ
dex_line name rule at = codes "dex " ++ name ++ rule_line rule at

abbrev pub too_large_line : List ℕ → List ℕ
too_large_line name = codes "too large " ++ line name

abbrev pub out_fault_line : List ℕ
out_fault_line = codes "output fault\n"

abbrev pub memory_line : List ℕ
memory_line = codes "out of memory\n"

abbrev pub not_built_line : List ℕ
not_built_line = codes "not built\n"

abbrev pub step_limit_line : List ℕ
step_limit_line = codes "limit steps\n"

abbrev pub heap_limit_line : List ℕ
heap_limit_line = codes "limit heap\n"

abbrev pub frame_limit_line : List ℕ
frame_limit_line = codes "limit frames\n"

abbrev pub uncaught_line : List ℕ → List ℕ
uncaught_line descriptor = codes "uncaught " ++ line descriptor

-- the last line after a run: the steps that were counted
abbrev pub made_line : ℕ → List ℕ
made_line steps = codes "made " ++ decimal steps ++ codes " steps\n"
