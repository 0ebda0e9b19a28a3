-- The code that a code item says: its instructions with their addresses, and its handlers in the order of search.
use Rattle.std.specs.Prelude.{ℕ, ◌+◌, ◌==◌, List, [], ◌∷◌, ◌++◌, map, flat_map, Option, Some, None, if◌then◌else◌}
use Rattle.pi_model.specs.declared.describe.Code.{Code}
use Rattle.pi_model.specs.declared.describe.Line.{Line}
use Rattle.pi_model.specs.declared.describe.Catch.{Catch}
use Rattle.pi_format.specs.Rules.Lowest.{tabulation}
use Rattle.pi_format.specs.Rules.CodeItems.{Handler, HandlerList, TryRange, CodeHead, code_head, try_range, tries_at, lists_at, code_lists}
use Rattle.pi_format.specs.Rules.Pieces.{Piece, What, Instruction, Payload, code_walk}
use Rattle.pi_format.specs.Says.Names.{Named, type_name}
use Rattle.pi_format.specs.Says.Insns.{insn_of}

-- the line of a piece; payloads are no lines
abbrev pub line_of : Named → List Piece → Piece → List Line
line_of n pieces p = by_what n pieces p p.what
  where
    by_what : Named → List Piece → Piece → What → List Line
    by_what n pieces p (Payload d) = []
    by_what n pieces p (Instruction i) = record { at = p.at; units = p.units; insn = insn_of n pieces p.at i.body } ∷ []

abbrev pub lines_of : Named → List Piece → List Line
lines_of n pieces = flat_map (line_of n pieces) pieces

-- the entry of a range for a typed handler, and for the last one
abbrev pub typed_catch : Named → TryRange → Handler → Catch
typed_catch n r h = record { from = r.from; to = r.from + r.size; ty = Some (type_name n h.ty); at = h.to }

abbrev pub last_catch : TryRange → Option ℕ → List Catch
last_catch r None = []
last_catch r (Some to) = record { from = r.from; to = r.from + r.size; ty = None; at = to } ∷ []

-- the entries of a range by the list that stands at a place: the typed ones, then the last one
abbrev pub range_catches : Named → TryRange → List HandlerList → ℕ → List Catch
range_catches n r [] place = []
range_catches n r (l ∷ ls) place =
    if l.at == place then map (typed_catch n r) l.typed ++ last_catch r l.last else range_catches n r ls place

abbrev pub catches_at : Named → ℕ → CodeHead → List HandlerList → ℕ → List Catch
catches_at n at head lists k =
    let r = try_range n.file (tries_at at head) k in range_catches n r lists (lists_at at head + r.handlers)

-- the entries of all ranges, in the order of search
abbrev pub catches_of : Named → ℕ → CodeHead → Option (List HandlerList) → List Catch
catches_of n at head None = []
catches_of n at head (Some lists) = flat_map (catches_at n at head lists) (tabulation (λ k. k) 0 head.tries)

-- the code of the code item at an offset
unfoldable pub code_at : Named → ℕ → Code
code_at n at = record {
  regs = (code_head n.file at).registers;
  ins = (code_head n.file at).ins;
  outs = (code_head n.file at).outs;
  units = (code_head n.file at).units;
  insns = lines_of n (code_walk n.file at).pieces;
  tries = catches_of n at (code_head n.file at) (code_lists n.file at);
}

-- the code of a row of class data, none where it has none
abbrev pub code_of : Named → ℕ → Option Code
code_of n at = if at == 0 then None else Some (code_at n at)
