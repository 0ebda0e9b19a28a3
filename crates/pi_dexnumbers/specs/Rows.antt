-- What is gathered as rows of numbers that rise as the things do, and the entries that such rows are.
use Rattle.std.specs.Prelude.{ℕ, ◌<◌, ◌^◌, List, [], ◌∷◌, drop, length, map, slice_index_or}
use Rattle.std.specs.List.{All}
use Rattle.pi_dextables.specs.declared.tables.Member.{Member}
use Rattle.pi_dextables.specs.declared.tables.Proto.{Proto}
use Rattle.pi_classtables.specs.Sorted.{sorted, place_in, text_order}
use Rattle.pi_dexpools.specs.declared.gathered.MemberParts.{MemberParts}
use Rattle.pi_dexpools.specs.declared.gathered.ProtoParts.{ProtoParts}

-- the number of what stands at a place
abbrev pub rank_at : List ℕ → ℕ → ℕ
rank_at ranks k = slice_index_or ranks k 0

-- the place of each row where they stand in rising order
abbrev pub row_places : List (List ℕ) → List ℕ
row_places rows = map (λ row. place_in text_order row (sorted text_order rows)) rows

-- a type by its text, a prototype by its result and its parameters, a member by its class, its name and its type or prototype
abbrev pub type_row : List ℕ → ℕ → List ℕ
type_row texts t = rank_at texts t ∷ []

abbrev pub proto_row : List ℕ → ProtoParts → List ℕ
proto_row types q = rank_at types q.ret ∷ map (rank_at types) q.params

abbrev pub member_row : List ℕ → List ℕ → List ℕ → MemberParts → List ℕ
member_row classes names kinds m = rank_at classes m.class ∷ rank_at names m.name ∷ rank_at kinds m.kind ∷ []

-- a prototype by its own number, with its short form behind it
abbrev pub proto_line : List ℕ → List ℕ → ℕ → ProtoParts → List ℕ
proto_line texts types number q = number ∷ rank_at texts q.short ∷ proto_row types q

abbrev pub proto_lines : List ℕ → List ℕ → List ℕ → List ProtoParts → List (List ℕ)
proto_lines texts types [] qs = []
proto_lines texts types (n ∷ ns) [] = []
proto_lines texts types (n ∷ ns) (q ∷ qs) = proto_line texts types n q ∷ proto_lines texts types ns qs

-- the entries that rows are
abbrev pub type_of_row : List ℕ → ℕ
type_of_row row = slice_index_or row 0 0

abbrev pub proto_of_line : List ℕ → Proto
proto_of_line line = record { short = slice_index_or line 1 0; ret = slice_index_or line 2 0; params = drop 3 line }

abbrev pub member_of_row : List ℕ → Member
member_of_row row = record { class = slice_index_or row 0 0; kind = slice_index_or row 2 0; name = slice_index_or row 1 0 }

-- they have the numbers of an entry, and those of types and prototypes have 16 bits
pub record ProtoLineFits (line : List ℕ) : Type 0 where
  pub long : 2 < length line
  pub ret : slice_index_or line 2 0 < 2 ^ 16
  pub params : All (λ n. n < 2 ^ 16) (drop 3 line)

pub record MemberRowFits (row : List ℕ) : Type 0 where
  pub long : 2 < length row
  pub class : slice_index_or row 0 0 < 2 ^ 16
  pub kind : slice_index_or row 2 0 < 2 ^ 16
