-- Pieces that a sink took, one after another.
use Rattle.std.proofs.Common.{◌≡◌, ℕ, ◌≤◌, List, [], ◌++◌, Option, Some, None, Result, Ok, Err, inl, inr, refl, ap, sym, ◌∙◌, append_assoc, append-nil, arith}
use Rattle.std.specs.Prelude.{IsErr, is_some}
use Rattle.pi_base.specs.Views.{SinkView}
use Rattle.pi_base.specs.Outside.{Begins, BrokeOff, Puts, Refused, Rose, Told, Took, grown}

-- two pieces, one after the other, are one piece
pub grown-grown : (told : Option (List ℕ)) (xs ys : List ℕ) → grown (grown told xs) ys ≡ grown told (xs ++ ys)
grown-grown None xs ys = refl
grown-grown (Some told) xs ys = ap (λ (bytes : List ℕ). Some bytes) (append_assoc told xs ys)

pub grown-nil : (told : Option (List ℕ)) → told ≡ grown told []
grown-nil None = refl
grown-nil (Some bytes) = ap (λ (b : List ℕ). Some b) (sym (append-nil bytes))

-- a sink that took a piece tells its bytes where it told them before
pub tells_stands : (told : Option (List ℕ)) (piece : List ℕ) → is_some (grown told piece) ≡ is_some told
tells_stands None piece = refl
tells_stands (Some bytes) piece = refl

pub took_nothing : (view : SinkView) → Took [] view view
took_nothing view = record { bytes = grown-nil view.bytes; faults = refl }

pub took_more : (xs ys : List ℕ) (before now last : SinkView) → Took xs before now → Took ys now last → Took (xs ++ ys) before last
took_more xs ys before now last a b = record {
  bytes = b.bytes ∙ (ap (λ t. grown t ys) a.bytes ∙ grown-grown before.bytes xs ys);
  faults = b.faults ∙ a.faults;
}

begins_more : (xs ys : List ℕ) (before now : Option (List ℕ)) → Begins xs before now → Begins (xs ++ ys) before now
begins_more xs ys before now h = (h.0, h.1 ++ ys, sym (append_assoc h.0 h.1 ys) ∙ ap (λ zs. zs ++ ys) h.2, h.3)

begins_after : (xs ys : List ℕ) (before now last : Option (List ℕ)) → now ≡ grown before xs → Begins ys now last → Begins (xs ++ ys) before last
begins_after xs ys before now last e h =
    (xs ++ h.0, h.1, append_assoc xs h.0 h.1 ∙ ap (λ zs. xs ++ zs) h.2, h.3 ∙ (ap (λ t. grown t h.0) e ∙ grown-grown before xs h.0))

-- a fault behind a time without one
pub rose_after : (m n k : ℕ) → n ≡ m → (n ≤ k) × Rose n k → (m ≤ k) × Rose m k
rose_after m n k e h = (omega (arith, h.0), omega (arith, h.1))

-- a sink that broke off in the first piece got nothing of the second
pub broke_off_more : (xs ys : List ℕ) (before now : SinkView) → BrokeOff xs before now → BrokeOff (xs ++ ys) before now
broke_off_more xs ys before now h = record { bytes = begins_more xs ys before.bytes now.bytes h.bytes; faults = h.faults }

-- a sink took the first piece, and broke off in the second
pub broke_off_after : (xs ys : List ℕ) (before now last : SinkView) → Took xs before now → BrokeOff ys now last → BrokeOff (xs ++ ys) before last
broke_off_after xs ys before now last a h = record {
  bytes = begins_after xs ys before.bytes now.bytes last.bytes a.bytes h.bytes;
  faults = rose_after before.faults now.faults last.faults a.faults h.faults;
}

-- a sink took a front of a piece, and then refused the rest
pub broke_off_refused : (xs ys : List ℕ) (before now last : SinkView) → Took xs before now → Refused now last → BrokeOff (xs ++ ys) before last
broke_off_refused xs ys before now last a h = record {
  bytes = (xs, ys, refl, h.bytes ∙ a.bytes);
  faults = rose_after before.faults now.faults last.faults a.faults h.faults;
}

module _ {A E : Type 0} where
  pub told_of_puts : (piece : List ℕ) (r : Result A E) (before now : SinkView) → Puts piece r before now → Told piece before now
  told_of_puts piece (Ok _) before now h = inl h
  told_of_puts piece (Err _) before now h = inr h

module _ {A B E F : Type 0} where
  -- the first piece was put in part, so nothing of the second
  pub puts_stops : (a b : List ℕ) (r : Result A E) (e : E) (s : Result B F) (before now : SinkView) → r ≡ Err e → IsErr s → Puts a r before now → Puts (a ++ b) s before now
  puts_stops a b (Ok x) e s before now is err h = absurd (cc)
  puts_stops a b (Err x) e (Ok y) before now is err h = absurd (cc)
  puts_stops a b (Err x) e (Err y) before now is err h = broke_off_more a b before now h

  -- the first piece was put whole, and then the second
  pub puts_then : (a b : List ℕ) (r : Result A E) (x : A) (s : Result B F) (before now last : SinkView) → r ≡ Ok x → Puts a r before now → Puts b s now last → Puts (a ++ b) s before last
  puts_then a b (Err y) x s before now last is h next = absurd (cc)
  puts_then a b (Ok y) x (Ok z) before now last is h next = took_more a b before now last h next
  puts_then a b (Ok y) x (Err z) before now last is h next = broke_off_after a b before now last h next
