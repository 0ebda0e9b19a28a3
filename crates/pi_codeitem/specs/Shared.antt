-- What is asked of a code item whichever method has it, and what a method asks of it besides.
use Rattle.std.specs.Prelude.{ℕ, ◌+◌, ◌*◌, ◌==◌, ◌&&◌, nat_lt, nat_le, List, length, sum_by, Option, None, option_map, Bool, if◌then◌else◌}
use Rattle.pi_format.specs.Rules.CodeItems.{CodeHead, HandlerList, code_head, code_lies, code_lists}

-- the bytes of a list of handlers at least: one for its size, and two for each typed handler
abbrev pub list_bytes : HandlerList → ℕ
list_bytes l = 2 * length l.typed + 1

-- the bytes of a head, of its units and its ranges, and of lists of handlers at least
abbrev pub bytes_with : CodeHead → List HandlerList → ℕ
bytes_with head lists = 16 + 2 * head.units + 8 * head.tries + sum_by list_bytes lists

-- the bytes that a code item takes of a file at least; nothing where it holds for no method
unfoldable pub item_bytes : List ℕ → ℕ → Option ℕ
item_bytes file at =
    if code_lies file at && nat_lt 0 (code_head file at).units then option_map (bytes_with (code_head file at)) (code_lists file at) else None

-- a code item takes so many argument words, for which it has registers
abbrev pub takes_words : List ℕ → ℕ → ℕ → Bool
takes_words file words at = ((code_head file at).ins == words) && nat_le words (code_head file at).registers
