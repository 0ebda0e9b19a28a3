-- What is wanted next stands for what is left: behind each token, and behind a line's end.
use Rattle.std.proofs.Common.{◌≡◌, ℕ, Bool, true, false, List, [], ◌∷◌, Option, Some, None, refl, sym, ap, subst}
use Rattle.std.specs.Prelude.{codes, option_map, ◌==◌}
use Rattle.std.specs.Cmp.Lexicographic.{same_text as text_told}
use Rattle.std.proofs.lemmas.Bool.{eqb-true}
use Rattle.pi_asmtext.specs.Derivatives.{derivative, derivative_by, ends}
use Rattle.pi_asmtext.specs.Symbols.{Token, LineEnd, object, same_text}
use Rattle.pi_asmtext.specs.Words.{unit_test, proto}
use Rattle.pi_asmtext.specs.Checks.{form_of, symbol_test, is_word}
use Rattle.pi_asmtext.specs.Rest.{rest_of}
use Rattle.pi_asmtext.specs.Steps.{next_of, is_wanted, end_of}
use Rattle.pi_asmtext.specs.declared.forms.Word.{Word}
use Rattle.pi_asmtext.specs.declared.forms.Word.TheVariants as word
use Rattle.pi_asmtext.specs.declared.forms.Item.TheVariants as item
use Rattle.pi_asmtext.specs.declared.forms.Kind.TheVariants as kind
use Rattle.pi_asmtext.specs.declared.forms.Form.{Form}
use Rattle.pi_asmtext.specs.declared.forms.Form.TheVariants as form
use Rattle.pi_asmtext.specs.declared.state.Place.{Place}
use Rattle.pi_asmtext.specs.declared.state.Place.TheVariants as place
use Rattle.pi_asmtext.specs.declared.state.Want.{Want}
use Rattle.pi_asmtext.specs.declared.state.Want.TheVariants as want
use Rattle.pi_asmtext.specs.declared.state.FieldSpot.{FieldSpot}
use Rattle.pi_asmtext.specs.declared.state.FieldSpot.TheVariants as in_field
use Rattle.pi_asmtext.specs.declared.state.MethodSpot.{MethodSpot}
use Rattle.pi_asmtext.specs.declared.state.MethodSpot.TheVariants as in_method
use Rattle.pi_asmtext.specs.declared.state.Spot.{Spot}
use Rattle.pi_asmtext.specs.declared.state.Spot.TheVariants as spot
use Rattle.pi_asmtext.specs.declared.state.State.{State}
use Rattle.pi_asmtext.specs.declared.state.State.TheVariants as state
use Rattle.pi_asmtext.proofs.Rows.{instruction_left, no_label, try_is_none, end_is_none, no_row_ends}

-- behind a token
abbrev pub Right : State → List ℕ → Type 0
Right s us = derivative symbol_test (Token us) (rest_of s) ≡ option_map rest_of (next_of s us)

-- a state at a token, for one text and for all others
text_by : (s : State) (us w : List ℕ) (t : Bool) → same_text us w ≡ t → Right s w → (same_text us w ≡ false → Right s us) → Right s us
text_by s us w true e here other = subst (λ (vs : List ℕ). Right s vs) (sym (text_told us w (sym e))) here
text_by s us w false e here other = other e

at_text : (s : State) (us w : List ℕ) → Right s w → (same_text us w ≡ false → Right s us) → Right s us
at_text s us w here other = text_by s us w (same_text us w) refl here other

-- the same for each of some texts and for all others
abbrev AtEach : State → List (List ℕ) → Type 0
AtEach s [] = Unit {0}
AtEach s (w ∷ ws) = Right s w × AtEach s ws

abbrev NoneOf : List (List ℕ) → List ℕ → Type 0
NoneOf [] us = Unit {0}
NoneOf (w ∷ ws) us = (same_text us w ≡ false) × NoneOf ws us

at_texts : (s : State) (us : List ℕ) (ws : List (List ℕ)) → AtEach s ws → (NoneOf ws us → Right s us) → Right s us
at_texts s us [] here other = other tt
at_texts s us (w ∷ ws) here other = at_text s us w here.0 (λ n. at_texts s us ws here.1 (λ m. other (n, m)))

-- a line of fixed words
line_by : (t : Bool) (w : Want) (p : Place) (us : List ℕ) → is_wanted w us ≡ t → Right (state.Line w p) us
line_by true want.End p us e = refl
line_by true _ p us e = rw e refl
line_by false want.End p us e = refl
line_by false _ p us e = rw e refl

-- an instruction, a label or another word in a method
form_by : (us : List ℕ) (f : Form) → same_text us (codes "try") ≡ false → same_text us (codes "end") ≡ false
    → is_word word.Label us ≡ false → form_of us ≡ Some f → Right (state.At place.Body) us
form_by us form.Nothing a b l e = rw (instruction_left us, e, l, a, b) refl
form_by us _ a b l e = rw (instruction_left us, e, l, a, b) refl

body_by : (us : List ℕ) (o : Option Form) (t : Bool) → same_text us (codes "try") ≡ false → same_text us (codes "end") ≡ false
    → form_of us ≡ o → is_word word.Label us ≡ t → Right (state.At place.Body) us
body_by us (Some f) t a b e l = form_by us f a b (no_label us f e) e
body_by us None true a b e l = rw (instruction_left us, e, l, a, b) refl
body_by us None false a b e l = rw (instruction_left us, e, l, a, b) refl

-- the start of a line that begins with one of some words
place_right : (p : Place) (us : List ℕ) → Right (state.At p) us
place_right place.Classes us = at_text (state.At place.Classes) us (codes "class") refl (λ a. rw a refl)
place_right place.Super us = at_text (state.At place.Super) us (codes "super") refl (λ a. rw a refl)
place_right place.Members us =
    at_texts (state.At place.Members) us (codes "implements" ∷ codes "field" ∷ codes "method" ∷ codes "end" ∷ [])
    (refl, (refl, (refl, (refl, tt)))) (λ n. rw (n.0, n.1.0, n.1.1.0, n.1.1.1.0) refl)
place_right place.Fields us =
    at_texts (state.At place.Fields) us (codes "field" ∷ codes "method" ∷ codes "end" ∷ []) (refl, (refl, (refl, tt)))
    (λ n. rw (n.0, n.1.0, n.1.1.0) refl)
place_right place.Methods us =
    at_texts (state.At place.Methods) us (codes "method" ∷ codes "end" ∷ []) (refl, (refl, tt)) (λ n. rw (n.0, n.1.0) refl)
place_right place.Tries us =
    at_texts (state.At place.Tries) us (codes "try" ∷ codes "end" ∷ []) (refl, (refl, tt)) (λ n. rw (n.0, n.1.0) refl)
place_right place.Body us =
    at_texts (state.At place.Body) us (codes "try" ∷ codes "end" ∷ [])
    (rw (instruction_left (codes "try"), try_is_none) refl, (rw (instruction_left (codes "end"), end_is_none) refl, tt))
    (λ n. body_by us (form_of us) (is_word word.Label us) n.0 n.1.0 refl refl)

-- the words of FLAGS
abbrev flag_words : List (List ℕ)
flag_words = codes "public" ∷ codes "private" ∷ codes "protected" ∷ codes "static" ∷ codes "final" ∷ codes "native"
    ∷ codes "interface" ∷ codes "abstract" ∷ codes "constructor" ∷ []

-- a token is none of them
abbrev NoFlag : List ℕ → Type 0
NoFlag us = (same_text us (codes "public") ≡ false) × (same_text us (codes "private") ≡ false) × (same_text us (codes "protected") ≡ false)
    × (same_text us (codes "static") ≡ false) × (same_text us (codes "final") ≡ false) × (same_text us (codes "native") ≡ false)
    × (same_text us (codes "interface") ≡ false) × (same_text us (codes "abstract") ≡ false) × (same_text us (codes "constructor") ≡ false)

-- a state at a token, for those words and for all others
by_flag : (s : State) (us : List ℕ) → AtEach s flag_words → (NoFlag us → Right s us) → Right s us
by_flag s us here other =
    at_texts s us flag_words here
    (λ n. other (n.0, n.1.0, n.1.1.0, n.1.1.1.0, n.1.1.1.1.0, n.1.1.1.1.1.0, n.1.1.1.1.1.1.0, n.1.1.1.1.1.1.1.0, n.1.1.1.1.1.1.1.1.0))

fields_at_flags : (s : FieldSpot) → AtEach (state.Field s) flag_words
fields_at_flags in_field.Start = (refl, (refl, (refl, (refl, (refl, (refl, (refl, (refl, (refl, tt)))))))))
fields_at_flags _ = (refl, (refl, (refl, (refl, (refl, (refl, (refl, (refl, (refl, tt)))))))))

methods_at_flags : (s : MethodSpot) → AtEach (state.Method s) flag_words
methods_at_flags in_method.Start = (refl, (refl, (refl, (refl, (refl, (refl, (refl, (refl, (refl, tt)))))))))
methods_at_flags _ = (refl, (refl, (refl, (refl, (refl, (refl, (refl, (refl, (refl, tt)))))))))

-- no prototype is a name
proto_by : (c : ℕ) (cs : List ℕ) (t : Bool) → (c == 40) ≡ t → is_word word.Proto (c ∷ cs) ≡ true → is_word word.Name (c ∷ cs) ≡ false
proto_by c cs true e h = rw (eqb-true c 40 e) refl
proto_by c cs false e h =
    let none : derivative unit_test c proto ≡ None = rw e refl in
    absurd (let no : is_word word.Proto (c ∷ cs) ≡ false = ap (λ o. ends (derivative_by unit_test cs o)) none in cc)

no_proto : (us : List ℕ) → is_word word.Proto us ≡ true → is_word word.Name us ≡ false
no_proto [] h = absurd (cc)
no_proto (c ∷ cs) h = proto_by c cs (c == 40) refl h

-- another token, by the tests of it
module _ (us : List ℕ) (n : NoFlag us) where
  field_by : (name type : Bool) (s : FieldSpot) → is_word word.Name us ≡ name → is_word word.Desc us ≡ type → same_text us (codes "=") ≡ false
      → Right (state.Field s) us
  field_by true true in_field.Start a b q = simp (n.0, n.1, n.2, n.3, n.4, n.5, n.6, n.7, n.8, a, b, q)
  field_by true false in_field.Start a b q = simp (n.0, n.1, n.2, n.3, n.4, n.5, n.6, n.7, n.8, a, b, q)
  field_by false true in_field.Start a b q = simp (n.0, n.1, n.2, n.3, n.4, n.5, n.6, n.7, n.8, a, b, q)
  field_by false false in_field.Start a b q = simp (n.0, n.1, n.2, n.3, n.4, n.5, n.6, n.7, n.8, a, b, q)
  field_by _ _ _ a b q = simp (n.0, n.1, n.2, n.3, n.4, n.5, n.6, n.7, n.8, a, b, q)

  method_by : (name proto : Bool) (s : MethodSpot) → is_word word.Name us ≡ name → is_word word.Proto us ≡ proto → Right (state.Method s) us
  method_by true true s a b = absurd (let no = no_proto us b in cc)
  method_by true false in_method.Start a b = simp (n.0, n.1, n.2, n.3, n.4, n.5, n.6, n.7, n.8, a, b)
  method_by false true in_method.Start a b = simp (n.0, n.1, n.2, n.3, n.4, n.5, n.6, n.7, n.8, a, b)
  method_by false false in_method.Start a b = simp (n.0, n.1, n.2, n.3, n.4, n.5, n.6, n.7, n.8, a, b)
  method_by _ _ _ a b = simp (n.0, n.1, n.2, n.3, n.4, n.5, n.6, n.7, n.8, a, b)

  class_by : (t : Bool) → same_text us object ≡ false → is_word word.Desc us ≡ t → Right state.Class us
  class_by true o d = simp (n.0, n.1, n.2, n.3, n.4, n.5, n.6, n.7, n.8, o, d)
  class_by false o d = simp (n.0, n.1, n.2, n.3, n.4, n.5, n.6, n.7, n.8, o, d)

equals_declares : (s : FieldSpot) → Right (state.Field s) (codes "=")
equals_declares in_field.Start = refl
equals_declares _ = refl

field_right : (s : FieldSpot) (us : List ℕ) → Right (state.Field s) us
field_right s us =
    by_flag (state.Field s) us (fields_at_flags s) (λ n. at_text (state.Field s) us (codes "=") (equals_declares s)
    (λ q. field_by us n (is_word word.Name us) (is_word word.Desc us) s refl refl q))

method_right : (s : MethodSpot) (us : List ℕ) → Right (state.Method s) us
method_right s us =
    by_flag (state.Method s) us (methods_at_flags s)
    (λ n. method_by us n (is_word word.Name us) (is_word word.Proto us) s refl refl)

class_right : (us : List ℕ) → Right state.Class us
class_right us =
    by_flag state.Class us (refl, (refl, (refl, (refl, (refl, (refl, (refl, (refl, (refl, tt)))))))))
    (λ n. at_text state.Class us object refl (λ o. class_by us n (is_word word.Desc us) o refl))

-- among the operands of an instruction: a word of a kind as an operand, as an item and as the first item
abbrev AtSpot : Spot → List ℕ → Type 0
AtSpot s us = Right (state.Operands s) us

word_by : (k : Word) (f : Form) (us : List ℕ) (t : Bool) → is_word k us ≡ t → AtSpot (spot.Operand (kind.Word k) f) us
    × AtSpot (spot.ListItem (item.One k) f) us × (same_text us (codes "}") ≡ false → AtSpot (spot.ListFirst (item.One k) f) us)
word_by k f us true e = (rw e refl, rw e refl, λ a. rw (a, e) refl)
word_by k f us false e = (rw e refl, rw e refl, λ a. rw (a, e) refl)

-- the number of a pair as an item and as the first item, its label, and the registers of a range
number_by : (f : Form) (us : List ℕ) (t : Bool) → is_word word.Number us ≡ t
    → AtSpot (spot.ListItem item.Pair f) us × (same_text us (codes "}") ≡ false → AtSpot (spot.ListFirst item.Pair f) us)
number_by f us true e = (rw e refl, λ a. rw (a, e) refl)
number_by f us false e = (rw e refl, λ a. rw (a, e) refl)

label_by : (f : Form) (us : List ℕ) (t : Bool) → is_word word.Label us ≡ t → AtSpot (spot.PairLabel f) us
label_by f us true e = rw e refl
label_by f us false e = rw e refl

register_by : (f : Form) (us : List ℕ) (t : Bool) → is_word word.Register us ≡ t → AtSpot (spot.RangeFirst f) us × AtSpot (spot.RangeLast f) us
register_by f us true e = (rw e refl, rw e refl)
register_by f us false e = (rw e refl, rw e refl)

after_right : (f : Form) (us : List ℕ) → AtSpot (spot.After f) us
after_right form.Nothing us = at_text (state.Operands (spot.After form.Nothing)) us (codes ",") refl (λ a. rw a refl)
after_right f us = at_text (state.Operands (spot.After f)) us (codes ",") refl (λ a. rw a refl)

-- a closing brace is no word of a kind
no_word : (k : Word) → is_word k (codes "}") ≡ false
no_word word.Name = refl
no_word _ = refl

spot_right : (s : Spot) (us : List ℕ) → AtSpot s us
spot_right (spot.Operand (kind.Word k) f) us = (word_by k f us (is_word k us) refl).0
spot_right (spot.Operand kind.Range f) us = at_text (state.Operands (spot.Operand kind.Range f)) us (codes "{") refl (λ a. rw a refl)
spot_right (spot.Operand (kind.List i) f) us = at_text (state.Operands (spot.Operand (kind.List i) f)) us (codes "{") refl (λ a. rw a refl)
spot_right (spot.After f) us = after_right f us
spot_right (spot.RangeFirst f) us = (register_by f us (is_word word.Register us) refl).0
spot_right (spot.RangeDots f) us = at_text (state.Operands (spot.RangeDots f)) us (codes "..") refl (λ a. rw a refl)
spot_right (spot.RangeLast f) us = (register_by f us (is_word word.Register us) refl).1
spot_right (spot.RangeClose f) us = at_text (state.Operands (spot.RangeClose f)) us (codes "}") refl (λ a. rw a refl)
spot_right (spot.ListFirst (item.One k) f) us =
    at_text (state.Operands (spot.ListFirst (item.One k) f)) us (codes "}") (rw (no_word k) refl) (word_by k f us (is_word k us) refl).2
spot_right (spot.ListFirst item.Pair f) us =
    at_text (state.Operands (spot.ListFirst item.Pair f)) us (codes "}") refl (number_by f us (is_word word.Number us) refl).1
spot_right (spot.ListMore i f) us =
    at_texts (state.Operands (spot.ListMore i f)) us (codes "}" ∷ codes "," ∷ []) (refl, (refl, tt)) (λ n. rw (n.0, n.1.0) refl)
spot_right (spot.ListItem (item.One k) f) us = (word_by k f us (is_word k us) refl).1
spot_right (spot.ListItem item.Pair f) us = (number_by f us (is_word word.Number us) refl).0
spot_right (spot.PairLabel f) us = label_by f us (is_word word.Label us) refl

-- behind any token
pub next_right : (s : State) (us : List ℕ) → Right s us
next_right (state.At p) us = place_right p us
next_right (state.Line w p) us = line_by (is_wanted w us) w p us refl
next_right state.Class us = class_right us
next_right (state.Field s) us = field_right s us
next_right (state.Method s) us = method_right s us
next_right (state.Operands s) us = spot_right s us

-- behind a line's end
pub ends_right : (s : State) → derivative symbol_test LineEnd (rest_of s) ≡ option_map rest_of (end_of s)
ends_right (state.At place.Body) = rw no_row_ends refl
ends_right (state.Line want.End p) = refl
ends_right (state.Field in_field.Start) = refl
ends_right (state.Method in_method.Start) = refl
ends_right (state.Operands (spot.After form.Nothing)) = refl
ends_right (state.Operands (spot.Operand (kind.Word k) f)) = refl
ends_right (state.Operands (spot.ListFirst (item.One k) f)) = refl
ends_right (state.Operands (spot.ListItem (item.One k) f)) = refl
ends_right _ = refl
