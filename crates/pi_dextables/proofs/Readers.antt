-- What readers that may fail, or that also test, give of a part that stands somewhere.
use Rattle.std.proofs.Common.{◌≡◌, ℕ, ◌+◌, ◌<◌, ◌^◌, Bool, true, false, List, ◌++◌, length, Option, Some, None, refl, ap, length-append, arith}
use Rattle.std.specs.Prelude.{◌&&◌, if◌then◌else◌}
use Rattle.pi_bytes.specs.Place.{Place}
use Rattle.pi_bytes.specs.Leb.{uleb_at}
use Rattle.pi_insn.specs.Chain.{◌>>=◌}
use Rattle.pi_format.specs.Rules.Rows.{readable}
use Rattle.pi_parts.specs.Lebs.{uleb_bytes}
use Rattle.pi_parts.proofs.Stands.{Stands}
use Rattle.pi_parts.proofs.ReadBack.{place, uleb_reads}
use Rattle.pi_dextables.specs.Said.{held}

-- wherever the part stands, the reader gives x and the place behind it
abbrev pub ReadsSome : {X : Type 0} → (Place → Option (X × Place)) → List ℕ → X → Type 0
ReadsSome reader part x =
    (file : List ℕ) (at : ℕ) → Stands file at part → reader (place file at) ≡ Some (x, place file (at + length part))

-- the same if a test holds, and else nothing
abbrev pub ReadsIf : {X : Type 0} → (Place → Option (X × Place)) → List ℕ → Bool → X → Type 0
ReadsIf reader part holds x =
    (file : List ℕ) (at : ℕ) → Stands file at part → reader (place file at) ≡ held holds (x, place file (at + length part))

-- one step after another: where both tests hold there is the second thing, and else nothing
pub held_then : {X Y : Type 0} (a b : Bool) (x : X) (y : Y) (reading : Option X) (next : X → Option Y)
    → reading ≡ held a x → next x ≡ held b y → (reading >>= next) ≡ held (a && b) y
held_then true b x y reading next first second = rw first second
held_then false b x y reading next first second = rw first refl

-- a last step that tests nothing
pub held_map : {X Y : Type 0} (a : Bool) (x : X) (reading : Option X) (f : X → Y)
    → reading ≡ held a x → (reading >>= (λ z. Some (f z))) ≡ held a (f x)
held_map true x reading f first = rw first refl
held_map false x reading f first = rw first refl

-- a test and then a reading
pub held_if : {X : Type 0} (a b : Bool) (x : X) (reading : Option X)
    → reading ≡ held b x → (if a then reading else None) ≡ held (a && b) x
held_if true b x reading e = e
held_if false b x reading e = refl

-- a test alone
pub held_test : {X : Type 0} (a : Bool) (x : X) → (if a then Some x else None) ≡ held a x
held_test true x = refl
held_test false x = refl

-- the number that stands there, for a reader of Option
pub uleb_readable : (x : ℕ) → x < 2 ^ 32 → ReadsSome (λ p. readable (uleb_at p)) (uleb_bytes x) x
uleb_readable x lt file at h = ap readable (uleb_reads x lt file at h)

-- the place behind two parts
pub behind_both : (a b : List ℕ) (at : ℕ) → at + length a + length b ≡ at + length (a ++ b)
behind_both a b at = simp length-append (omega arith)
