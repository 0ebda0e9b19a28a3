-- The instructions once more, in the order of the published table of opcodes, and the table of the code is that.
use Rattle.std.proofs.Common.{◌≡◌, ℕ, List, [], ◌∷◌, ◌++◌, refl}
use Rattle.std.specs.Prelude.{map, codes}
use Rattle.pi_asmtext.specs.declared.forms.Word.TheVariants as word
use Rattle.pi_asmtext.specs.declared.forms.Item.TheVariants as item
use Rattle.pi_asmtext.specs.declared.forms.Kind.{Kind}
use Rattle.pi_asmtext.specs.declared.forms.Kind.TheVariants as kind
use Rattle.pi_asmtext.specs.declared.forms.Form.{Form}
use Rattle.pi_asmtext.specs.declared.forms.Form.TheVariants.{Nothing, One, Two, Three}
use Rattle.pi_asmtext.specs.declared.table.TheConstants.{INSTRUCTIONS}

abbrev reg : Kind
reg = kind.Word word.Register

abbrev num : Kind
num = kind.Word word.Number

abbrev ref : Kind
ref = kind.Word word.Desc

abbrev target : Kind
target = kind.Word word.Label

abbrev member : Kind
member = kind.Word word.Field

abbrev callee : Kind
callee = kind.Word word.Method

abbrev registers : Kind
registers = kind.List (item.One word.Register)

-- widths of a copy
abbrev sizes : List (List ℕ)
sizes = codes "" ∷ codes "/from16" ∷ codes "/16" ∷ []

-- kinds of a value
abbrev kinds : List (List ℕ)
kinds = codes "" ∷ codes "-wide" ∷ codes "-object" ∷ []

-- comparisons
abbrev tests : List (List ℕ)
tests = codes "-eq" ∷ codes "-ne" ∷ codes "-lt" ∷ codes "-ge" ∷ codes "-gt" ∷ codes "-le" ∷ []

-- kinds of an access
abbrev accesses : List (List ℕ)
accesses = codes "" ∷ codes "-wide" ∷ codes "-object" ∷ codes "-boolean" ∷ codes "-byte" ∷ codes "-char" ∷ codes "-short" ∷ []

-- kinds of a call
abbrev calls : List (List ℕ)
calls = codes "-virtual" ∷ codes "-super" ∷ codes "-direct" ∷ codes "-static" ∷ codes "-interface" ∷ []

-- operations
abbrev operations : List (List ℕ)
operations = codes "add" ∷ codes "sub" ∷ codes "mul" ∷ codes "div" ∷ codes "rem" ∷ codes "and" ∷ codes "or" ∷ codes "xor" ∷ codes "shl" ∷ codes "shr" ∷ codes "ushr" ∷ []

abbrev stems : List ℕ → List (List ℕ) → List (List ℕ)
stems stem suffixes = map (λ s. stem ++ s) suffixes

abbrev each : List (List ℕ) → List ℕ → List (List ℕ)
each names suffix = map (λ n. n ++ suffix) names

abbrev all : Form → List (List ℕ) → List (List ℕ × Form)
all f names = map (λ n. (n, f)) names

abbrev published : List (List ℕ × Form)
published =
    all Nothing (codes "nop" ∷ [])
    ++ all (Two reg reg) (stems (codes "move") sizes)
    ++ all (Two reg reg) (stems (codes "move-wide") sizes)
    ++ all (Two reg reg) (stems (codes "move-object") sizes)
    ++ all (One reg) (stems (codes "move-result") kinds)
    ++ all (One reg) (codes "move-exception" ∷ [])
    ++ all Nothing (codes "return-void" ∷ [])
    ++ all (One reg) (stems (codes "return") kinds)
    ++ all (Two reg num) (codes "const/4" ∷ codes "const/16" ∷ codes "const" ∷ codes "const/high16" ∷ [])
    ++ all (Two reg num) (codes "const-wide/16" ∷ codes "const-wide/32" ∷ codes "const-wide" ∷ codes "const-wide/high16" ∷ [])
    ++ all (Two reg (kind.Word word.Text)) (codes "const-string" ∷ codes "const-string/jumbo" ∷ [])
    ++ all (Two reg ref) (codes "const-class" ∷ [])
    ++ all (One reg) (codes "monitor-enter" ∷ codes "monitor-exit" ∷ [])
    ++ all (Two reg ref) (codes "check-cast" ∷ [])
    ++ all (Three reg reg ref) (codes "instance-of" ∷ [])
    ++ all (Two reg reg) (codes "array-length" ∷ [])
    ++ all (Two reg ref) (codes "new-instance" ∷ [])
    ++ all (Three reg reg ref) (codes "new-array" ∷ [])
    ++ all (Two registers ref) (codes "filled-new-array" ∷ [])
    ++ all (Two kind.Range ref) (codes "filled-new-array/range" ∷ [])
    ++ all (Three reg num (kind.List (item.One word.Number))) (codes "fill-array-data" ∷ [])
    ++ all (One reg) (codes "throw" ∷ [])
    ++ all (One target) (codes "goto" ∷ codes "goto/16" ∷ codes "goto/32" ∷ [])
    ++ all (Three reg num (kind.List (item.One word.Label))) (codes "packed-switch" ∷ [])
    ++ all (Two reg (kind.List item.Pair)) (codes "sparse-switch" ∷ [])
    ++ all (Three reg reg reg) (codes "cmp-long" ∷ [])
    ++ all (Three reg reg target) (stems (codes "if") tests)
    ++ all (Two reg target) (map (λ n. n ++ codes "z") (stems (codes "if") tests))
    ++ all (Three reg reg reg) (stems (codes "aget") accesses)
    ++ all (Three reg reg reg) (stems (codes "aput") accesses)
    ++ all (Three reg reg member) (stems (codes "iget") accesses)
    ++ all (Three reg reg member) (stems (codes "iput") accesses)
    ++ all (Two reg member) (stems (codes "sget") accesses)
    ++ all (Two reg member) (stems (codes "sput") accesses)
    ++ all (Two registers callee) (stems (codes "invoke") calls)
    ++ all (Two kind.Range callee) (map (λ n. n ++ codes "/range") (stems (codes "invoke") calls))
    ++ all (Two reg reg) (codes "neg-int" ∷ codes "not-int" ∷ codes "neg-long" ∷ codes "not-long" ∷ [])
    ++ all (Two reg reg) (codes "int-to-long" ∷ codes "long-to-int" ∷ codes "int-to-byte" ∷ codes "int-to-char" ∷ codes "int-to-short" ∷ [])
    ++ all (Three reg reg reg) (each operations (codes "-int")) ++ all (Three reg reg reg) (each operations (codes "-long"))
    ++ all (Two reg reg) (each operations (codes "-int/2addr")) ++ all (Two reg reg) (each operations (codes "-long/2addr"))
    ++ all (Three reg reg num) (codes "add-int/lit16" ∷ codes "rsub-int" ∷ [])
    ++ all (Three reg reg num) (each (codes "mul" ∷ codes "div" ∷ codes "rem" ∷ codes "and" ∷ codes "or" ∷ codes "xor" ∷ []) (codes "-int/lit16"))
    ++ all (Three reg reg num) (each (codes "add" ∷ codes "rsub" ∷ codes "mul" ∷ codes "div" ∷ codes "rem" ∷ codes "and" ∷ codes "or" ∷ codes "xor" ∷ codes "shl" ∷ codes "shr" ∷ codes "ushr" ∷ []) (codes "-int/lit8"))

table_is : map (λ r. (r.0.now, r.1)) INSTRUCTIONS ≡ published
table_is = refl
