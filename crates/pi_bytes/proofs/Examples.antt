-- Known values, read by the definitions.
use Rattle.std.proofs.Common.{◌≡◌, [], ◌∷◌, Ok, Err, refl}
use Rattle.std.specs.Prelude.{pos, neg_ℤ}
use Rattle.pi_bytes.specs.declared.fault.ReadFault.TheVariants.{LongLeb}
use Rattle.pi_bytes.specs.Leb.{uleb_by, sleb_by}
use Rattle.pi_bytes.specs.Mutf8.{spellings, units_from}

pub unsigned : uleb_by 4 (0xe5 ∷ 0x8e ∷ 0x26 ∷ []) ≡ Ok (624485, 3)
unsigned = refl

pub negative : sleb_by 4 (0xc0 ∷ 0xbb ∷ 0x78 ∷ []) ≡ Ok (neg_ℤ (pos 123456), 3)
negative = refl

pub too_long : uleb_by 4 (0x80 ∷ 0x80 ∷ 0x80 ∷ 0x80 ∷ 0x10 ∷ []) ≡ Err LongLeb
too_long = refl

pub written : spellings (0 ∷ 0x61 ∷ 0xe9 ∷ 0xd800 ∷ []) ≡ 0xc0 ∷ 0x80 ∷ 0x61 ∷ 0xc3 ∷ 0xa9 ∷ 0xed ∷ 0xa0 ∷ 0x80 ∷ []
written = refl

pub read : units_from 2 0 (0xc0 ∷ 0x80 ∷ 0xed ∷ 0xa0 ∷ 0x80 ∷ 0 ∷ []) ≡ Ok (0 ∷ 0xd800 ∷ [], 5)
read = refl

pub longer_spelling : units_from 2 0 (0x61 ∷ 0xc1 ∷ 0xbf ∷ 0 ∷ []) ≡ Err 1
longer_spelling = refl
