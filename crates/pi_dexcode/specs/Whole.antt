-- Payloads that stand whole, and the cases of switches.
use Rattle.std.specs.Prelude.{◌≡◌, ◌<◌, ◌≤◌, ◌⊎◌, true, ℕ, ℤ, pos, ◌+ℤ◌, ◌*◌, List, length}
use Rattle.pi_model.specs.declared.insn.Case.{Case}
use Rattle.pi_insn.specs.Numbers.{word}
use Rattle.pi_insn.specs.Payloads.{Data, PackedData, SparseData, ArrayData}
use Rattle.std.specs.List.{All}
use Rattle.pi_bytes.specs.Numbers.{most_bytes}
use Rattle.pi_format.specs.Rules.CodeItems.{Handler, HandlerList}
use Rattle.pi_format.specs.Rules.Pieces.{Piece, What, Instruction, Payload, index_holds}
use Rattle.pi_format.specs.Says.Insns.{word_of, case_target}

-- there are units for so many items of a width
pub record IsItems (width size : ℕ) (units : List ℕ) : Type 0 where
  pub known : (width ≡ 1) ⊎ ((width ≡ 2) ⊎ ((width ≡ 4) ⊎ (width ≡ 8)))
  pub whole : width * size ≤ 2 * length units

pub record IsPacked (targets : List ℕ) : Type 0 where
  pub few : length targets ≤ most_bytes

pub record IsSparse (keys targets : List ℕ) : Type 0 where
  pub same : length keys ≡ length targets

-- a payload has what its size says
abbrev pub IsWhole : Data → Type 0
IsWhole (PackedData first targets) = IsPacked targets
IsWhole (SparseData keys targets) = IsSparse keys targets
IsWhole (ArrayData width size items) = IsItems width size items

-- a case of a packed switch, and of a sparse one
abbrev pub packed_case : ℕ → ℤ → List ℕ → ℕ → Case
packed_case at first targets k = record { key = word_of (first +ℤ pos k); to = case_target at targets k }

abbrev pub sparse_case : ℕ → List ℕ → List ℕ → ℕ → Case
sparse_case at keys targets k = record { key = word keys (2 * k); to = case_target at targets k }

-- payloads among pieces stand whole
abbrev pub WhatIsWhole : What → Type 0
WhatIsWhole (Instruction i) = Unit {0}
WhatIsWhole (Payload d) = IsWhole d

abbrev pub AreWhole : List Piece → Type 0
AreWhole pieces = All (λ (p : Piece). WhatIsWhole p.what) pieces

-- the types that a list of handlers catches are there, and those of all lists
abbrev pub NamesTypes : ℕ → HandlerList → Type 0
NamesTypes count l = All (λ (h : Handler). h.ty < count) l.typed

abbrev pub AllNameTypes : ℕ → List HandlerList → Type 0
AllNameTypes count lists = All (NamesTypes count) lists

-- the index of an instruction is there
abbrev pub WhatIsThere : List ℕ → What → Type 0
WhatIsThere file (Payload d) = Unit {0}
WhatIsThere file (Instruction i) = index_holds file i.body ≡ true

abbrev pub NamesIndex : List ℕ → Piece → Type 0
NamesIndex file p = WhatIsThere file p.what
