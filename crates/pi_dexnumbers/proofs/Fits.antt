-- That rows of small numbers are those of entries.
use Rattle.std.proofs.Common.{ℕ, zero, suc, ◌<◌, ◌^◌, List, [], ◌∷◌, map, arith}
use Rattle.std.specs.List.{All}
use Rattle.std.proofs.lemmas.List.Elements.{All-nil, All-cons}
use Rattle.pi_classtables.specs.Sorted.{sorted, text_order}
use Rattle.pi_classtables.proofs.Sortings.{all_sorted}
use Rattle.pi_dexpools.specs.declared.gathered.MemberParts.{MemberParts}
use Rattle.pi_dexpools.specs.declared.gathered.ProtoParts.{ProtoParts}
use Rattle.pi_dexnumbers.specs.Rows.{rank_at, member_row, proto_line, proto_lines, MemberRowFits, ProtoLineFits}

rank_fits : (ranks : List ℕ) → All (λ n. n < 2 ^ 16) ranks → (k : ℕ) → rank_at ranks k < 2 ^ 16
rank_fits [] all k = omega arith
rank_fits (r ∷ rs) all zero = all 0 0 (omega arith)
rank_fits (r ∷ rs) all (suc k) = rank_fits rs (λ j d lt. all (suc j) d (omega arith)) k

ranks_fit : (ranks : List ℕ) → All (λ n. n < 2 ^ 16) ranks → (ks : List ℕ) → All (λ n. n < 2 ^ 16) (map (rank_at ranks) ks)
ranks_fit ranks all [] = All-nil (λ n. n < 2 ^ 16)
ranks_fit ranks all (k ∷ ks) =
    All-cons (λ n. n < 2 ^ 16) (rank_at ranks k) (map (rank_at ranks) ks) (rank_fits ranks all k) (ranks_fit ranks all ks)

module _ (classes names kinds : List ℕ) (class : All (λ n. n < 2 ^ 16) classes) (kind : All (λ n. n < 2 ^ 16) kinds) where
  rows_fit : (ms : List MemberParts) → All MemberRowFits (map (member_row classes names kinds) ms)
  rows_fit [] = All-nil MemberRowFits
  rows_fit (m ∷ ms) =
      All-cons MemberRowFits (member_row classes names kinds m) (map (member_row classes names kinds) ms)
      (record { long = omega arith; class = rank_fits classes class m.class; kind = rank_fits kinds kind m.kind })
      (rows_fit ms)

  pub member_rows_fit : (ms : List MemberParts) → All MemberRowFits (sorted text_order (map (member_row classes names kinds) ms))
  member_rows_fit ms = all_sorted text_order MemberRowFits (map (member_row classes names kinds) ms) (rows_fit ms)

module _ (texts types : List ℕ) (small : All (λ n. n < 2 ^ 16) types) where
  lines_fit : (ns : List ℕ) (qs : List ProtoParts) → All ProtoLineFits (proto_lines texts types ns qs)
  lines_fit [] qs = All-nil ProtoLineFits
  lines_fit (n ∷ ns) [] = All-nil ProtoLineFits
  lines_fit (n ∷ ns) (q ∷ qs) =
      All-cons ProtoLineFits (proto_line texts types n q) (proto_lines texts types ns qs)
      (record { long = omega arith; ret = rank_fits types small q.ret; params = ranks_fit types small q.params })
      (lines_fit ns qs)

  pub proto_lines_fit : (ns : List ℕ) (qs : List ProtoParts) → All ProtoLineFits (sorted text_order (proto_lines texts types ns qs))
  proto_lines_fit ns qs = all_sorted text_order ProtoLineFits (proto_lines texts types ns qs) (lines_fit ns qs)
