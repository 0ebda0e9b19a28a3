-- How many units a payload takes.
use Rattle.std.proofs.Common.{◌≡◌, ℕ, ◌+◌, ◌<◌, ◌≤◌, List, [], ◌∷◌, length, drop, Some, None, true, false, arith, length-drop, length-take}
use Rattle.std.specs.Prelude.{◌==◌, Bool, if◌then◌else◌}
use Rattle.std.proofs.lemmas.Bool.Decides.{nat_tests}
use Rattle.pi_insn.specs.Payloads.{Data, packed_data, sparse, array, payload, payload_at}
use Rattle.pi_format.specs.Rules.Pieces.{payload_units}

packed_front : (size : ℕ) (rest : List ℕ) (d : Data) → packed_data size rest ≡ Some d → (1 ≤ payload_units d) × (payload_units d ≤ length rest + 2)
packed_front size rest d e = grind (arith, nat_tests, length-take, length-drop)

sparse_front : (size : ℕ) (rest : List ℕ) (d : Data) → sparse size rest ≡ Some d → (1 ≤ payload_units d) × (payload_units d ≤ length rest + 2)
sparse_front size rest d e = grind (arith, nat_tests, length-take, length-drop)

array_front : (width : ℕ) (rest : List ℕ) (d : Data) → array width rest ≡ Some d → (1 ≤ payload_units d) × (payload_units d ≤ length rest + 2)
array_front width rest d e = grind (arith, nat_tests, length-take, length-drop)

pub payload_front : (units : List ℕ) (d : Data) → payload units ≡ Some d → (1 ≤ payload_units d) × (payload_units d ≤ length units)
unfolding payload
payload_front [] d e = cc
payload_front (kind ∷ []) d e = cc
payload_front (kind ∷ second ∷ rest) d e = by_kind (kind == 0x0100) (kind == 0x0200) (kind == 0x0300) e
  where
    by_kind : (a b c : Bool) → (if a then packed_data second rest else if b then sparse second rest else if c then array second rest else None) ≡ Some d
        → (1 ≤ payload_units d) × (payload_units d ≤ length (kind ∷ second ∷ rest))
    by_kind true b c e = let f = packed_front second rest d e in (f.0, omega (arith, f.1))
    by_kind false true c e = let f = sparse_front second rest d e in (f.0, omega (arith, f.1))
    by_kind false false true e = let f = array_front second rest d e in (f.0, omega (arith, f.1))
    by_kind false false false e = cc

pub payload_inside : (units : List ℕ) (at : ℕ) (d : Data) → at < length units → payload_at units at ≡ Some d → (1 ≤ payload_units d) × (at + payload_units d ≤ length units)
payload_inside units at d lt e =
    let f = payload_front (drop at units) d e in
    (f.0, omega (arith, f.1, length-drop at units))
