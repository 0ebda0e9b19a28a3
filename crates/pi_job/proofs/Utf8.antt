-- The units of bytes that are UTF-8, and of bytes that are not.
use Rattle.std.proofs.Common.{◌≡◌, ℕ, List, Some, None, false, ap, ◌∙◌, refl}
use Rattle.std.specs.Str.{is_utf8, IsUtf8}
use Rattle.std.proofs.lemmas.Bool.{false_from_ne_true}
use Rattle.std.proofs.lemmas.Str.{IsUtf8-from_is_utf8, is_utf8-from_IsUtf8}
use Rattle.pi_job.specs.Units.{units_of, text_units}

pub is_text : (bytes text units : List ℕ) → text ≡ bytes → IsUtf8 bytes → units ≡ units_of text → Some units ≡ text_units bytes
is_text bytes text units same utf8 e = rw (is_utf8-from_IsUtf8 bytes utf8) (ap (λ (us : List ℕ). Some us) (e ∙ ap units_of same))

pub no_utf8 : (bytes : List ℕ) → ¬ (IsUtf8 bytes) → is_utf8 bytes ≡ false
no_utf8 bytes not = false_from_ne_true (is_utf8 bytes) (λ e. not (IsUtf8-from_is_utf8 bytes e))

pub is_no_text : (bytes : List ℕ) → ¬ (IsUtf8 bytes) → None ≡ text_units bytes
is_no_text bytes not = rw (no_utf8 bytes not) refl
