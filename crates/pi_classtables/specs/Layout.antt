-- The units of a code: its instructions from address 0 on, and behind them their payloads in the order of the instructions,
-- each at an even address, with a nop before it where it would stand at an odd one.
use Rattle.std.specs.Prelude.{ℕ, ◌+◌, ◌*◌, ◌/◌, ◌%◌, ◌^◌, ◌==◌, ◌&&◌, ◌||◌, not, nat_lt, List, [], ◌∷◌, ◌++◌, length, Option, Some, Bool, true, false, if◌then◌else◌}
use Rattle.std.specs.List.{flat_map, list_all, list_any}
use Rattle.pi_model.specs.declared.insn.Case.{Case}
use Rattle.pi_model.specs.declared.insn.Insn.{Insn}
use Rattle.pi_model.specs.declared.insn.Insn.TheVariants.{Nop, FillArray, Switch}
use Rattle.pi_insn.specs.Chain.{◌>>=◌}
use Rattle.pi_insn.specs.Payloads.{is_width}
use Rattle.pi_contents.specs.Contents.{NoName, LineContent}
use Rattle.pi_contents.specs.Asked.{follow_on}
use Rattle.pi_classtables.specs.Numbers.{Pools, index_of}
use Rattle.pi_classtables.specs.Forms.{distance_bits, raw_bodies, first_form}

-- a number of 32 bits, the low unit first
abbrev pub word_units : ℕ → List ℕ
word_units n = n % 65536 ∷ n / 65536 ∷ []

-- the keys and the targets of a switch at an address
abbrev pub key_units : List Case → List ℕ
key_units cases = flat_map (λ (c : Case). word_units c.key) cases

abbrev pub target_units : ℕ → List Case → List ℕ
target_units at cases = flat_map (λ (c : Case). word_units (distance_bits at c.to)) cases

abbrev pub first_key : List Case → ℕ
first_key [] = 0
first_key (c ∷ cs) = c.key

unfoldable pub packed_units : ℕ → List Case → List ℕ
packed_units at cases = 0x0100 ∷ length cases ∷ (word_units (first_key cases) ++ target_units at cases)

unfoldable pub sparse_units : ℕ → List Case → List ℕ
sparse_units at cases = 0x0200 ∷ length cases ∷ (key_units cases ++ target_units at cases)

-- items of one byte, two to a unit; of two, four and eight bytes
abbrev pub byte_units : List ℕ → List ℕ
byte_units [] = []
byte_units (x ∷ []) = x ∷ []
byte_units (x ∷ y ∷ items) = (x + 256 * y) ∷ byte_units items

abbrev pub long_units : ℕ → List ℕ
long_units n = word_units (n % 4294967296) ++ word_units (n / 4294967296)

abbrev pub item_units : ℕ → List ℕ → List ℕ
item_units width items =
    if width == 1 then byte_units items else
    if width == 2 then items else
    if width == 4 then flat_map word_units items else flat_map long_units items

unfoldable pub array_units : ℕ → List ℕ → List ℕ
array_units width items = 0x0300 ∷ width ∷ (word_units (length items) ++ item_units width items)

-- the payload of an instruction at an address, none for most
unfoldable pub payload_units : Bool → ℕ → Insn → List ℕ
payload_units sparse at (Switch a cases) = if sparse then sparse_units at cases else packed_units at cases
payload_units sparse at (FillArray a width items) = array_units width items
payload_units sparse at _ = []

-- a switch has a sparse payload where its address is listed, or where its keys do not follow each other
abbrev pub is_scattered : Insn → Bool
is_scattered (Switch a cases) = not (follow_on cases)
is_scattered _ = false

abbrev pub is_sparse : List ℕ → LineContent → Bool
is_sparse listed l = list_any (λ at. at == l.at) listed || is_scattered l.insn

abbrev pub data_of : List ℕ → LineContent → List ℕ
data_of listed l = payload_units (is_sparse listed l) l.at l.insn

-- a payload at the first even address from one on, and the address behind it
abbrev pub data_place : ℕ → ℕ
data_place at = at + at % 2

abbrev pub padded : ℕ → List ℕ → List ℕ
padded at units = if at % 2 == 0 then units else 0 ∷ units

abbrev pub laid_data : ℕ → List ℕ → List ℕ
laid_data at [] = []
laid_data at (u ∷ us) = padded at (u ∷ us)

abbrev pub next_data : ℕ → List ℕ → ℕ
next_data at [] = at
next_data at (u ∷ us) = data_place at + length (u ∷ us)

-- the payloads of instructions from an address on, and the address behind them
abbrev pub all_data : List ℕ → ℕ → List LineContent → List ℕ
all_data listed at [] = []
all_data listed at (l ∷ ls) = laid_data at (data_of listed l) ++ all_data listed (next_data at (data_of listed l)) ls

abbrev pub data_end : List ℕ → ℕ → List LineContent → ℕ
data_end listed at [] = at
data_end listed at (l ∷ ls) = data_end listed (next_data at (data_of listed l)) ls

-- the address behind instructions
abbrev pub lines_end : ℕ → List LineContent → ℕ
lines_end at [] = at
lines_end at (l ∷ ls) = lines_end (at + l.units) ls

-- the units of instructions whose payloads begin at an address, nothing where one has no form of its length that it fits
abbrev pub line_units : Pools → List ℕ → ℕ → LineContent → Option (List ℕ)
line_units p listed payload l = first_form l.units (is_sparse listed l) (raw_bodies (index_of p l.naming) l.at (data_place payload) l.insn)

abbrev pub lines_units : Pools → List ℕ → ℕ → List LineContent → Option (List ℕ)
lines_units p listed payload [] = Some []
lines_units p listed payload (l ∷ ls) =
    line_units p listed payload l >>= (λ units. lines_units p listed (next_data payload (data_of listed l)) ls >>= (λ rest. Some (units ++ rest)))

unfoldable pub code_units : Pools → List ℕ → List LineContent → Option (List ℕ)
code_units p listed lines =
    lines_units p listed (lines_end 0 lines) lines >>= (λ units. Some (units ++ all_data listed (lines_end 0 lines) lines))

-- each instruction begins where the one before it ends, and none is empty
abbrev pub lines_follow : ℕ → List LineContent → Bool
lines_follow at [] = true
lines_follow at (l ∷ ls) = (l.at == at) && (nat_lt 0 l.units && lines_follow (at + l.units) ls)

-- the instructions of a code that follow each other from an address on: those before its payloads
abbrev pub front : ℕ → List LineContent → List LineContent
front at [] = []
front at (l ∷ ls) = if (l.at == at) && nat_lt 0 l.units then l ∷ front (at + l.units) ls else []

-- the nops before payloads, which are instructions like others
abbrev pub nop_line : ℕ → LineContent
nop_line at = record { at = at; units = 1; insn = Nop; naming = NoName }

abbrev pub pad_line : ℕ → List ℕ → List LineContent
pad_line at [] = []
pad_line at (u ∷ us) = if at % 2 == 0 then [] else nop_line at ∷ []

abbrev pub pad_lines : List ℕ → ℕ → List LineContent → List LineContent
pad_lines listed at [] = []
pad_lines listed at (l ∷ ls) = pad_line at (data_of listed l) ++ pad_lines listed (next_data at (data_of listed l)) ls

-- a payload can be laid: cases are counted by 16 bits, items by 32, and an item has its width
abbrev pub data_fits : Insn → Bool
data_fits (Switch a cases) = nat_lt (length cases) 65536
data_fits (FillArray a width items) =
    is_width width && (nat_lt (length items) (2 ^ 32) && list_all (λ x. nat_lt x (256 ^ width)) items)
data_fits _ = true
