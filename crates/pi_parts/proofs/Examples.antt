-- Worked examples of the definitions.
use Rattle.std.proofs.Common.{◌≡◌, [], ◌∷◌, Ok, refl}
use Rattle.std.specs.Prelude.{pos, negsuc}
use Rattle.pi_bytes.specs.Leb.{sleb_by}
use Rattle.pi_parts.specs.Parts.{halves, padding, offsets, aligned, aligned_offsets}
use Rattle.pi_parts.specs.Lebs.{uleb_in, sleb_in, negative_in}

two_halves : halves (1 ∷ 0x203 ∷ []) ≡ 1 ∷ 0 ∷ 3 ∷ 2 ∷ []
two_halves = refl

to_four : padding 5 ≡ 3
to_four = refl

none_to_go : padding 8 ≡ 0
none_to_go = refl

laid_at : offsets (λ n. halves n) 10 ((7 ∷ []) ∷ [] ∷ (7 ∷ 8 ∷ []) ∷ (9 ∷ []) ∷ []) ≡ 10 ∷ 0 ∷ 12 ∷ 16 ∷ []
laid_at = refl

laid_by_four : aligned halves 4 ((7 ∷ []) ∷ (8 ∷ []) ∷ []) ≡ 7 ∷ 0 ∷ 0 ∷ 0 ∷ 8 ∷ 0 ∷ []
laid_by_four = refl

places_by_four : aligned_offsets halves 4 ((7 ∷ []) ∷ (8 ∷ []) ∷ []) ≡ 4 ∷ 8 ∷ []
places_by_four = refl

-- 624485 is e5 8e 26
known_uleb : uleb_in 4 624485 ≡ 0xe5 ∷ 0x8e ∷ 0x26 ∷ []
known_uleb = refl

-- -123456 is c0 bb 78
known_sleb : negative_in 4 123456 ≡ 0xc0 ∷ 0xbb ∷ 0x78 ∷ []
known_sleb = refl

minus_one : negative_in 4 1 ≡ 0x7f ∷ []
minus_one = refl

minus_64 : negative_in 4 64 ≡ 0x40 ∷ []
minus_64 = refl

minus_65 : sleb_by 4 (negative_in 4 65) ≡ Ok (negsuc 64, 2)
minus_65 = refl

minus_128 : sleb_by 4 (negative_in 4 128) ≡ Ok (negsuc 127, 2)
minus_128 = refl

minus_65535 : sleb_by 4 (negative_in 4 65535) ≡ Ok (negsuc 65534, 3)
minus_65535 = refl

plus_64 : sleb_by 4 (sleb_in 4 64) ≡ Ok (pos 64, 2)
plus_64 = refl

plus_63 : sleb_in 4 63 ≡ 63 ∷ []
plus_63 = refl
