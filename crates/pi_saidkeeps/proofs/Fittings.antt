-- Which types a value of each kind fits.
use Rattle.std.proofs.Common.{◌≡◌, ℕ, ◌<◌, List, [], ◌∷◌, Bool, true, false, refl}
use Rattle.std.specs.Prelude.{◌==◌, ◌&&◌, nat_lt, codes, if◌then◌else◌}
use Rattle.std.proofs.lemmas.Bool.{and_parts, eqb-true, ltb-true}
use Rattle.pi_model.specs.Texts.{same_text}
use Rattle.pi_format.specs.Tables.{count_at, string_ids}
use Rattle.pi_format.specs.Rules.Descriptors.{begins_with}
use Rattle.pi_format.specs.Rules.Values.{EncodedValue, is_reference, names_reference, value_fits}

-- a value of each kind, by the type that it fits
pub data Fitting (file ty : List ℕ) (kind arg number : ℕ) : Type 0 where
  OfByte : kind ≡ 0x00 → begins_with 66 ty ≡ true → arg < 1 → Fitting file ty kind arg number
  OfShort : kind ≡ 0x02 → begins_with 83 ty ≡ true → arg < 2 → Fitting file ty kind arg number
  OfChar : kind ≡ 0x03 → begins_with 67 ty ≡ true → arg < 2 → Fitting file ty kind arg number
  OfInt : kind ≡ 0x04 → begins_with 73 ty ≡ true → arg < 4 → Fitting file ty kind arg number
  OfLong : kind ≡ 0x06 → begins_with 74 ty ≡ true → arg < 8 → Fitting file ty kind arg number
  OfBoolean : kind ≡ 0x1f → begins_with 90 ty ≡ true → arg < 2 → Fitting file ty kind arg number
  OfString : kind ≡ 0x17 → same_text (codes "Ljava/lang/String;") ty ≡ true → Fitting file ty kind arg number
  OfClass : kind ≡ 0x18 → same_text (codes "Ljava/lang/Class;") ty ≡ true → names_reference file number ≡ true → Fitting file ty kind arg number
  OfNull : kind ≡ 0x1e → is_reference ty ≡ true → Fitting file ty kind arg number

number_fits : (b : Bool) (arg limit : ℕ) → (b && nat_lt arg limit) ≡ true → (b ≡ true) × (arg < limit)
number_fits b arg limit e = let parts = and_parts b (nat_lt arg limit) e in (parts.0, ltb-true arg limit parts.1)

pub fitting : (file ty : List ℕ) (v : EncodedValue) → value_fits file ty v ≡ true → Fitting file ty v.kind v.arg v.number
unfolding value_fits
fitting file ty v e = by_kind (v.kind == 0x00) (v.kind == 0x02) (v.kind == 0x03) (v.kind == 0x04) (v.kind == 0x06) (v.kind == 0x1f) (v.kind == 0x17) (v.kind == 0x18) (v.kind == 0x1e)
    (eqb-true v.kind 0x00) (eqb-true v.kind 0x02) (eqb-true v.kind 0x03) (eqb-true v.kind 0x04) (eqb-true v.kind 0x06) (eqb-true v.kind 0x1f) (eqb-true v.kind 0x17) (eqb-true v.kind 0x18) (eqb-true v.kind 0x1e) e
  where
    by_kind : (b s c i j z t u n : Bool)
        → (b ≡ true → v.kind ≡ 0x00) → (s ≡ true → v.kind ≡ 0x02) → (c ≡ true → v.kind ≡ 0x03) → (i ≡ true → v.kind ≡ 0x04) → (j ≡ true → v.kind ≡ 0x06)
        → (z ≡ true → v.kind ≡ 0x1f) → (t ≡ true → v.kind ≡ 0x17) → (u ≡ true → v.kind ≡ 0x18) → (n ≡ true → v.kind ≡ 0x1e)
        → (if b then begins_with 66 ty && nat_lt v.arg 1 else
        if s then begins_with 83 ty && nat_lt v.arg 2 else
        if c then begins_with 67 ty && nat_lt v.arg 2 else
        if i then begins_with 73 ty && nat_lt v.arg 4 else
        if j then begins_with 74 ty && nat_lt v.arg 8 else
        if z then begins_with 90 ty && nat_lt v.arg 2 else
        if t then same_text (codes "Ljava/lang/String;") ty && (nat_lt v.arg 4 && nat_lt v.number (count_at file string_ids)) else
        if u then same_text (codes "Ljava/lang/Class;") ty && (nat_lt v.arg 4 && names_reference file v.number) else
        if n then is_reference ty && (v.arg == 0) else false) ≡ true
        → Fitting file ty v.kind v.arg v.number
    by_kind true s c i j z t u n kb ks kc ki kj kz kt ku kn e = let f = number_fits (begins_with 66 ty) v.arg 1 e in OfByte (kb refl) f.0 f.1
    by_kind false true c i j z t u n kb ks kc ki kj kz kt ku kn e = let f = number_fits (begins_with 83 ty) v.arg 2 e in OfShort (ks refl) f.0 f.1
    by_kind false false true i j z t u n kb ks kc ki kj kz kt ku kn e = let f = number_fits (begins_with 67 ty) v.arg 2 e in OfChar (kc refl) f.0 f.1
    by_kind false false false true j z t u n kb ks kc ki kj kz kt ku kn e = let f = number_fits (begins_with 73 ty) v.arg 4 e in OfInt (ki refl) f.0 f.1
    by_kind false false false false true z t u n kb ks kc ki kj kz kt ku kn e = let f = number_fits (begins_with 74 ty) v.arg 8 e in OfLong (kj refl) f.0 f.1
    by_kind false false false false false true t u n kb ks kc ki kj kz kt ku kn e = let f = number_fits (begins_with 90 ty) v.arg 2 e in OfBoolean (kz refl) f.0 f.1
    by_kind false false false false false false true u n kb ks kc ki kj kz kt ku kn e =
        OfString (kt refl) ((and_parts (same_text (codes "Ljava/lang/String;") ty) (nat_lt v.arg 4 && nat_lt v.number (count_at file string_ids)) e).0)
    by_kind false false false false false false false true n kb ks kc ki kj kz kt ku kn e =
        let f = and_parts (same_text (codes "Ljava/lang/Class;") ty) (nat_lt v.arg 4 && names_reference file v.number) e in
        OfClass (ku refl) f.0 ((and_parts (nat_lt v.arg 4) (names_reference file v.number) f.1).1)
    by_kind false false false false false false false false true kb ks kc ki kj kz kt ku kn e = OfNull (kn refl) ((and_parts (is_reference ty) (v.arg == 0) e).0)
    by_kind false false false false false false false false false kb ks kc ki kj kz kt ku kn e = cc

-- a type that begins with a letter
pub letter_first : (c : ℕ) (ty : List ℕ) → begins_with c ty ≡ true → (rest : List ℕ) × (ty ≡ c ∷ rest)
letter_first c [] e = cc
letter_first c (u ∷ units) e = let same = eqb-true c u e in (units, cc)
