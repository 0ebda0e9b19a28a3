-- What a file brings to a program, counted so that one in which nothing is shared brings no more than it has bytes.
use Rattle.std.specs.Prelude.{ℕ, ◌+◌, ◌/◌, ◌==◌, List, length, find, sum_by, Option, Some, None, if◌then◌else◌}
use Rattle.pi_insn.specs.declared.raw.RawBody.{RawBody}
use Rattle.pi_insn.specs.declared.raw.RawBody.TheVariants.{FillArray, Switch, Invoke}
use Rattle.pi_insn.specs.Payloads.{Data}
use Rattle.pi_format.specs.Tables.{count_at, class_defs}
use Rattle.pi_format.specs.Rules.Entries.{list_at}
use Rattle.pi_format.specs.Rules.Lowest.{tabulation}
use Rattle.pi_format.specs.Rules.Members.{proto_entry}
use Rattle.pi_format.specs.Rules.Classes.{class_entry}
use Rattle.pi_format.specs.Rules.Rows.{MemberRow}
use Rattle.pi_format.specs.Rules.ClassData.{method_proto, rows_of, methods_in}
use Rattle.pi_format.specs.Rules.CodeItems.{HandlerList, CodeHead, code_head, code_lists, lists_at, tries_at, try_range}
use Rattle.pi_format.specs.Rules.Pieces.{Piece, What, Instruction, Payload, payload_units, payload_of, code_walk}
use Rattle.pi_codeitem.specs.Shared.{item_bytes}

-- how many parameters a method has
abbrev pub param_count : List ℕ → ℕ → ℕ
param_count file m = length (list_at file (proto_entry file (method_proto file m)).params)

-- the units of a payload, where there is one
abbrev pub data_units : Option Data → ℕ
data_units None = 0
data_units (Some d) = payload_units d

-- what an instruction brings: itself, and the parameters of the method that it calls or the data at which it points
abbrev pub insn_weight : List ℕ → List Piece → ℕ → RawBody → ℕ
insn_weight file pieces at (Invoke how m regs) = 1 + param_count file m
insn_weight file pieces at (FillArray a dist) = 1 + data_units (payload_of pieces at dist)
insn_weight file pieces at (Switch a dist) = 1 + data_units (payload_of pieces at dist)
insn_weight file pieces at _ = 1

abbrev pub piece_weight : List ℕ → List Piece → Piece → ℕ
piece_weight file pieces p = by_what p.what p.at file pieces
  where
    by_what : What → ℕ → List ℕ → List Piece → ℕ
    by_what (Payload d) at file pieces = 0
    by_what (Instruction i) at file pieces = insn_weight file pieces at i.body

-- the handlers of a list, with the last one
abbrev pub handlers_of : Option HandlerList → ℕ
handlers_of None = 0
handlers_of (Some l) = length l.typed + 1

-- those of the list of a range
abbrev pub range_handlers : List ℕ → ℕ → CodeHead → List HandlerList → ℕ → ℕ
range_handlers file at head lists k =
    handlers_of (find (λ (l : HandlerList). l.at == lists_at at head + (try_range file (tries_at at head) k).handlers) lists)

-- and of all ranges of a code item
abbrev pub all_handlers : List ℕ → ℕ → CodeHead → Option (List HandlerList) → ℕ
all_handlers file at head None = 0
all_handlers file at head (Some lists) = sum_by (range_handlers file at head lists) (tabulation (λ k. k) 0 head.tries)

abbrev pub half_of : Option ℕ → ℕ
half_of None = 0
half_of (Some n) = n / 2

-- what a code item brings: half of its bytes, its instructions, and the handlers of its ranges
unfoldable pub code_weight : List ℕ → ℕ → ℕ
code_weight file at =
    half_of (item_bytes file at) + sum_by (piece_weight file (code_walk file at).pieces) (code_walk file at).pieces
    + all_handlers file at (code_head file at) (code_lists file at)

-- what a method brings: its parameters, and its code
abbrev pub method_weight : List ℕ → MemberRow → ℕ
method_weight file row = param_count file row.id + (if row.code == 0 then 0 else code_weight file row.code)

-- what a class brings: its interfaces, and its methods
abbrev pub class_weight : List ℕ → ℕ → ℕ
class_weight file i = length (list_at file (class_entry file i).faces) + sum_by (method_weight file) (methods_in (rows_of file i))

abbrev pub weight : List ℕ → ℕ
weight file = sum_by (class_weight file) (tabulation (λ i. i) 0 (count_at file class_defs))
