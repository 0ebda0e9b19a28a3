-- Where reading stops is where the symbols first begin no text.
use Rattle.std.proofs.Common.{◌≡◌, ℕ, true, false, List, [], ◌∷◌, ◌++◌, Option, Some, None, Result, Ok, Err, refl, sym, ap, subst, ◌∙◌}
use Rattle.std.proofs.Common.{append_assoc}
use Rattle.std.proofs.lemmas.List.{map-append}
use Rattle.pi_asmtext.specs.Patterns.{Pattern, Fits}
use Rattle.pi_asmtext.specs.Derivatives.{derivative, derivative_by, ends, may_end, fits}
use Rattle.pi_asmtext.specs.Symbols.{Symbol, Class, Is}
use Rattle.pi_asmtext.specs.Grammar.{text, IsText, BeginsText}
use Rattle.pi_asmtext.specs.Checks.{symbol_test}
use Rattle.pi_asmtext.specs.Places.{PlacedSymbol, symbols, AtSymbol, AtEnd}
use Rattle.pi_asmtext.specs.Walking.{Place, on_left, walk}
use Rattle.pi_asmtext.proofs.Derivatives.{test_fits, fits_test, some_begins, none_begins}
use Rattle.pi_asmtext.proofs.Meanings.{symbol_right, right_symbol, symbol_samples}

-- what is left behind symbols
abbrev pub behind_symbols : List PlacedSymbol → Option (Pattern Class) → Option (Pattern Class)
behind_symbols ps o = derivative_by symbol_test (symbols ps) o

ok_same : {A B : Type 0} (x y : A) → ◌≡◌ {A = Result A B} (Ok x) (Ok y) → x ≡ y
ok_same x y e = cc

err_same : {A B : Type 0} (x y : B) → ◌≡◌ {A = Result A B} (Err x) (Err y) → x ≡ y
err_same x y e = cc

walk_ok : (ps : List PlacedSymbol) (p q : Pattern Class) → walk p ps ≡ Ok q → behind_symbols ps (Some p) ≡ Some q
walk_ok [] p q e = ap (λ (r : Pattern Class). Some r) (ok_same p q e)
walk_ok (x ∷ xs) p q e = by (derivative symbol_test x.symbol p) (λ r. walk_ok xs r q) e
  where
    by : (o : Option (Pattern Class)) → ((r : Pattern Class) → walk r xs ≡ Ok q → behind_symbols xs (Some r) ≡ Some q)
        → on_left o (x.line, x.column) (λ r. walk r xs) ≡ Ok q → behind_symbols xs o ≡ Some q
    by None again e = absurd (cc)
    by (Some r) again e = again r e

-- the first symbol behind which nothing is left
abbrev pub Stopped : List PlacedSymbol → Option (Pattern Class) → Place → Type 0
Stopped ps o place =
    (before : List PlacedSymbol) × (wrong : PlacedSymbol) × (behind : List PlacedSymbol) × (q : Pattern Class) × (ps ≡ before ++ wrong ∷ behind)
    × (behind_symbols before o ≡ Some q) × (behind_symbols (before ++ wrong ∷ []) o ≡ None) × (place ≡ (wrong.line, wrong.column))

stop_here : (x : PlacedSymbol) (xs : List PlacedSymbol) (p : Pattern Class) (place : Place) → derivative symbol_test x.symbol p ≡ None
    → place ≡ (x.line, x.column) → Stopped (x ∷ xs) (Some p) place
stop_here x xs p place e at = ([], x, xs, p, refl, refl, ap (derivative_by symbol_test []) e, at)

stop_later : (x : PlacedSymbol) (xs : List PlacedSymbol) (p r : Pattern Class) (place : Place) → derivative symbol_test x.symbol p ≡ Some r
    → Stopped xs (Some r) place → Stopped (x ∷ xs) (Some p) place
stop_later x xs p r place e s = (
  x ∷ s.0,
  s.1,
  s.2,
  s.3,
  ap (λ (ps : List PlacedSymbol). x ∷ ps) s.4,
  ap (behind_symbols s.0) e ∙ s.5,
  ap (behind_symbols (s.0 ++ s.1 ∷ [])) e ∙ s.6,
  s.7,
)

walk_err : (ps : List PlacedSymbol) (p : Pattern Class) (place : Place) → walk p ps ≡ Err place → Stopped ps (Some p) place
walk_err [] p place e = absurd (cc)
walk_err (x ∷ xs) p place e = by (derivative symbol_test x.symbol p) refl (λ r. walk_err xs r place) e
  where
    by : (o : Option (Pattern Class)) → derivative symbol_test x.symbol p ≡ o → ((r : Pattern Class) → walk r xs ≡ Err place → Stopped xs (Some r) place)
        → on_left o (x.line, x.column) (λ r. walk r xs) ≡ Err place → Stopped (x ∷ xs) (Some p) place
    by None here again e = stop_here x xs p place here (sym (err_same (x.line, x.column) place e))
    by (Some r) here again e = stop_later x xs p r place here (again r e)

begins : (ps : List PlacedSymbol) (q : Pattern Class) → behind_symbols ps (Some text) ≡ Some q → BeginsText (symbols ps)
unfolding BeginsText
begins ps q e = some_begins Is symbol_samples symbol_test symbol_right text q (symbols ps) e

begins_none : (ps : List PlacedSymbol) → behind_symbols ps (Some text) ≡ None → BeginsText (symbols ps) → ⊥
unfolding BeginsText
begins_none ps e h = none_begins Is symbol_test right_symbol text (symbols ps) e h

-- reading stops at the first wrong symbol
pub stops : (ps : List PlacedSymbol) (line column : ℕ) → walk text ps ≡ Err (line, column) → AtSymbol ps line column
stops ps line column e =
    let s = walk_err ps text (line, column) e in (
      s.0,
      s.1,
      s.2,
      s.4,
      begins s.0 s.3 s.5,
      begins_none (s.0 ++ s.1 ∷ []) s.6,
      ap (λ (p : Place). p.0) s.7,
      ap (λ (p : Place). p.1) s.7,
    )

-- a text begins with each of its fronts
front_begins : (ps before behind : List PlacedSymbol) → ps ≡ before ++ behind → IsText (symbols ps) → BeginsText (symbols before)
unfolding IsText BeginsText
front_begins ps before behind e h =
    let P : List Symbol → Type 0 = λ xs. Fits Is text xs in
    (symbols behind, subst P (ap symbols e ∙ map-append (λ (p : PlacedSymbol). p.symbol) before behind) h)

-- where reading stops, the symbols are no text
pub no_text_stops : (ps : List PlacedSymbol) (line column : ℕ) → walk text ps ≡ Err (line, column) → IsText (symbols ps) → ⊥
no_text_stops ps line column e h =
    let s = walk_err ps text (line, column) e in
    begins_none (s.0 ++ s.1 ∷ []) s.6 (front_begins ps (s.0 ++ s.1 ∷ []) s.2 (s.4 ∙ sym (append_assoc s.0 (s.1 ∷ []) s.2)) h)

-- all symbols are read, and the text may end
pub is_text : (ps : List PlacedSymbol) (q : Pattern Class) → walk text ps ≡ Ok q → may_end q ≡ true → IsText (symbols ps)
unfolding IsText
is_text ps q e end = test_fits Is symbol_test symbol_right text (symbols ps) (ap ends (walk_ok ps text q e) ∙ end)

pub no_text : (ps : List PlacedSymbol) (q : Pattern Class) → walk text ps ≡ Ok q → may_end q ≡ false → IsText (symbols ps) → ⊥
unfolding IsText
no_text ps q e more h =
    let yes = fits_test Is symbol_test right_symbol text (symbols ps) h in
    let no : fits symbol_test text (symbols ps) ≡ false = ap ends (walk_ok ps text q e) ∙ more in cc

-- all symbols are read, but more is wanted
pub too_short : (ps : List PlacedSymbol) (q : Pattern Class) (last : ℕ) → walk text ps ≡ Ok q → may_end q ≡ false → AtEnd ps last last 1
too_short ps q last e more = (begins ps q (walk_ok ps text q e), no_text ps q e more, refl, refl)

-- reading on behind some symbols
abbrev pub walk_on : Result (Pattern Class) Place → List PlacedSymbol → Result (Pattern Class) Place
walk_on (Ok p) ps = walk p ps
walk_on (Err place) ps = Err place

pub walk_append : (ps qs : List PlacedSymbol) (p : Pattern Class) → walk p (ps ++ qs) ≡ walk_on (walk p ps) qs
walk_append [] qs p = refl
walk_append (x ∷ xs) qs p = by (derivative symbol_test x.symbol p) (walk_append xs qs)
  where
    by : (o : Option (Pattern Class)) → ((r : Pattern Class) → walk r (xs ++ qs) ≡ walk_on (walk r xs) qs) → on_left o (x.line, x.column) (λ r. walk r (xs ++ qs))
        ≡ walk_on (on_left o (x.line, x.column) (λ r. walk r xs)) qs
    by None again = refl
    by (Some r) again = again r
