-- Prototypes behind their numbers, as far as they are written.
use Rattle.std.proofs.Common.{◌≡◌, ℕ, zero, suc, ◌<◌, min, List, [], ◌∷◌, ◌++◌, length, take, get_or, refl, sym, ap, ◌∙◌, arith}
use Rattle.pi_dexpools.specs.declared.gathered.ProtoParts.{ProtoParts}
use Rattle.pi_dexnumbers.specs.Rows.{proto_line, proto_lines}

module _ (texts types : List ℕ) where
  one_more : (ns : List ℕ) (qs : List ProtoParts) (i n : ℕ) (q : ProtoParts) → i < length ns → i < length qs → n ≡ get_or ns i n → q ≡ get_or qs i q
      → proto_lines texts types (take (suc i) ns) qs ≡ proto_lines texts types (take i ns) qs ++ proto_line texts types n q ∷ []
  one_more [] qs i n q left right e f = absurd (omega arith)
  one_more (m ∷ ns) [] i n q left right e f = absurd (omega arith)
  one_more (m ∷ ns) (p ∷ qs) zero n q left right e f = λ i. proto_line texts types (sym e i) (sym f i) ∷ []
  one_more (m ∷ ns) (p ∷ qs) (suc i) n q left right e f =
      ap (λ lines. proto_line texts types m p ∷ lines) (one_more ns qs i n q (omega arith) (omega arith) e f)

  pub lines_step : (ns : List ℕ) (qs : List ProtoParts) (done more n : ℕ) (q : ProtoParts) (lines now : List (List ℕ)) (line : List ℕ)
      → more ≡ suc done → done < length ns → done < length qs → n ≡ get_or ns done n → q ≡ get_or qs done q
      → lines ≡ proto_lines texts types (take done ns) qs → line ≡ proto_line texts types n q → now ≡ lines ++ line ∷ []
      → now ≡ proto_lines texts types (take more ns) qs
  lines_step ns qs done more n q lines now line count left right e f were this all =
      let step = one_more ns qs done n q left right e f in
      rw count (all ∙ (λ i. were i ++ this i ∷ []) ∙ sym step)

  pub lines_end : (ns : List ℕ) (qs : List ProtoParts) (done : ℕ) (lines : List (List ℕ)) → done ≡ min (length ns) (length qs)
      → lines ≡ proto_lines texts types (take done ns) qs → lines ≡ proto_lines texts types ns qs
  lines_end ns qs done lines count all = all ∙ whole ns qs done count
    where
      whole : (ns : List ℕ) (qs : List ProtoParts) (done : ℕ) → done ≡ min (length ns) (length qs)
          → proto_lines texts types (take done ns) qs ≡ proto_lines texts types ns qs
      whole [] qs zero count = refl
      whole [] qs (suc done) count = refl
      whole (n ∷ ns) [] zero count = refl
      whole (n ∷ ns) [] (suc done) count = refl
      whole (n ∷ ns) (q ∷ qs) zero count = absurd (omega arith)
      whole (n ∷ ns) (q ∷ qs) (suc done) count = ap (λ lines. proto_line texts types n q ∷ lines) (whole ns qs done (omega arith))
