-- One byte of a leb128 number, and those behind it.
use Rattle.std.proofs.Common.{◌≡◌, ◌≢◌, ℕ, zero, suc, ◌+◌, ◌-◌, ◌/◌, ◌%◌, ◌≤◌, List, [], ◌∷◌, ◌++◌, refl, sym, ap, ◌∙◌, arith, append_assoc}
use Rattle.std.proofs.lemmas.Bool.Decides.{nat_tests}
use Rattle.pi_parts.specs.Lebs.{uleb_in, sleb_in, negative_in}

uleb_next : (more x : ℕ) → more ≢ 0 → 128 ≤ x → uleb_in more x ≡ (x % 128 + 128) ∷ uleb_in (more - 1) (x / 128)
uleb_next zero x some le = absurd (some refl)
uleb_next (suc more) x some le = grind (arith, nat_tests)

sleb_next : (more x : ℕ) → more ≢ 0 → 64 ≤ x → sleb_in more x ≡ (x % 128 + 128) ∷ sleb_in (more - 1) (x / 128)
sleb_next zero x some le = absurd (some refl)
sleb_next (suc more) x some le = grind (arith, nat_tests)

rounded : (x : ℕ) → (x + 127) / 128 ≡ x / 128 + (x % 128 + 127) / 128
rounded x = omega arith

negative_next : (more x : ℕ) → more ≢ 0 → 65 ≤ x
    → negative_in more x ≡ ((128 - x % 128) % 128 + 128) ∷ negative_in (more - 1) (x / 128 + (x % 128 + 127) / 128)
negative_next zero x some le = absurd (some refl)
negative_next (suc more) x some le = let same = rounded x in grind (arith, nat_tests, same)

pub uleb_put : (old mid new : List ℕ) (more x : ℕ) → more ≢ 0 → 128 ≤ x → mid ≡ old ++ (x % 128 + 128) ∷ []
    → new ≡ mid ++ uleb_in (more - 1) (x / 128) → new ≡ old ++ uleb_in more x
uleb_put old mid new more x some le first rest =
    rest ∙ ap (λ z. z ++ uleb_in (more - 1) (x / 128)) first ∙ append_assoc old ((x % 128 + 128) ∷ []) (uleb_in (more - 1) (x / 128))
    ∙ ap (λ z. old ++ z) (sym (uleb_next more x some le))

pub sleb_put : (old mid new : List ℕ) (more x : ℕ) → more ≢ 0 → 64 ≤ x → mid ≡ old ++ (x % 128 + 128) ∷ []
    → new ≡ mid ++ sleb_in (more - 1) (x / 128) → new ≡ old ++ sleb_in more x
sleb_put old mid new more x some le first rest =
    rest ∙ ap (λ z. z ++ sleb_in (more - 1) (x / 128)) first ∙ append_assoc old ((x % 128 + 128) ∷ []) (sleb_in (more - 1) (x / 128))
    ∙ ap (λ z. old ++ z) (sym (sleb_next more x some le))

pub negative_put : (old mid new : List ℕ) (more x : ℕ) → more ≢ 0 → 65 ≤ x → mid ≡ old ++ ((128 - x % 128) % 128 + 128) ∷ []
    → new ≡ mid ++ negative_in (more - 1) (x / 128 + (x % 128 + 127) / 128) → new ≡ old ++ negative_in more x
negative_put old mid new more x some le first rest =
    rest ∙ ap (λ z. z ++ negative_in (more - 1) (x / 128 + (x % 128 + 127) / 128)) first
    ∙ append_assoc old (((128 - x % 128) % 128 + 128) ∷ []) (negative_in (more - 1) (x / 128 + (x % 128 + 127) / 128))
    ∙ ap (λ z. old ++ z) (sym (negative_next more x some le))
