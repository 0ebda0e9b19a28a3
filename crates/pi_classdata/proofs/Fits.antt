-- Values one behind the other.
use Rattle.std.proofs.Common.{◌≡◌, ℕ, suc, ◌+◌, ◌-◌, ◌<◌, ◌≤◌, List, [], ◌∷◌, ◌++◌, length, take, drop, get_or, Option, Some, None, refl, sym, ap, ◌∙◌, arith, add-one, drop-cons, drop_of_length-le, append_assoc}
use Rattle.byteorder.specs.Endian.{little_from}
use Rattle.byteorder.specs.Numbers.{little_from-take}
use Rattle.pi_bytes.specs.Place.{Place}
use Rattle.pi_insn.specs.Chain.{◌>>=◌}
use Rattle.pi_format.specs.Rules.Rows.{MemberRow}
use Rattle.pi_format.specs.Rules.Values.{EncodedValue, encoded_value, value_fits, field_type, values_from}
use Rattle.pi_classdata.specs.Held.{held_value}
use Rattle.pi_classdata.proofs.Chains.{test_apart}

-- the number in a piece is that in the bytes from which it is taken
pub number_in_piece : (n : ℕ) (xs : List ℕ) → little_from 0 n (take n xs) ≡ little_from 0 n xs
number_in_piece n xs = little_from-take 0 n n xs (omega arith)

-- those that were read, before the others where there are any
abbrev pub with_others : {A : Type 0} → List A → Option (List A) → Option (List A)
with_others done None = None
with_others done (Some others) = Some (done ++ others)

-- a value and those behind it
abbrev pub first_and_others : List ℕ → List MemberRow → ℕ → Option (EncodedValue × Place) → Option (List EncodedValue)
first_and_others file fields n m = m >>= (λ value. values_from file fields n value.1 >>= (λ others. Some (value.0 ∷ others)))

pub values_step : (file : List ℕ) (field : MemberRow) (fields : List MemberRow) (n : ℕ) (p : Place)
    → values_from file (field ∷ fields) (suc n) p ≡ first_and_others file fields n (held_value file field p)
unfolding held_value
values_step file field fields n p =
    test_apart (λ value. value_fits file (field_type file field.id) value.0) (λ value. values_from file fields n value.1 >>= (λ others. Some (value.0 ∷ others)))
    (encoded_value p)

behind_more : {A : Type 0} (done : List A) (x : A) (rest : Option (List A))
    → with_others (done ++ x ∷ []) rest ≡ with_others done (rest >>= (λ others. Some (x ∷ others)))
behind_more done x None = refl
behind_more done x (Some others) = ap Some (append_assoc done (x ∷ []) others)

at_field : (file : List ℕ) (fields : List MemberRow) (k n : ℕ) (field : MemberRow) (p : Place) → k < n → k < length fields → field ≡ get_or fields k field
    → values_from file (drop k fields) (n - k) p ≡ first_and_others file (drop (k + 1) fields) (n - (k + 1)) (held_value file field p)
at_field file fields k n field p lt there is =
    let more : n - k ≡ suc (n - (k + 1)) = omega arith in
    let rest : drop k fields ≡ field ∷ drop (k + 1) fields = cc (drop-cons fields k field there, add-one k) in
    ap (λ (fs : List MemberRow). values_from file fs (n - k) p) rest
    ∙ ap (λ (m : ℕ). values_from file (field ∷ drop (k + 1) fields) m p) more
    ∙ values_step file field (drop (k + 1) fields) (n - (k + 1)) p

pub values_more : (file : List ℕ) (fields : List MemberRow) (done : List EncodedValue) (k n : ℕ) (field : MemberRow) (p q : Place) (value : EncodedValue)
    → k < n → k < length fields → field ≡ get_or fields k field → held_value file field p ≡ Some (value, q)
    → with_others (done ++ value ∷ []) (values_from file (drop (k + 1) fields) (n - (k + 1)) q)
    ≡ with_others done (values_from file (drop k fields) (n - k) p)
values_more file fields done k n field p q value lt there is held =
    behind_more done value (values_from file (drop (k + 1) fields) (n - (k + 1)) q)
    ∙ ap (with_others done) (sym (at_field file fields k n field p lt there is ∙ ap (first_and_others file (drop (k + 1) fields) (n - (k + 1))) held))

pub values_stop : (file : List ℕ) (fields : List MemberRow) (done : List EncodedValue) (k n : ℕ) (field : MemberRow) (p : Place)
    → k < n → k < length fields → field ≡ get_or fields k field → held_value file field p ≡ None
    → with_others done (values_from file (drop k fields) (n - k) p) ≡ None
values_stop file fields done k n field p lt there is held =
    ap (with_others done) (at_field file fields k n field p lt there is ∙ ap (first_and_others file (drop (k + 1) fields) (n - (k + 1))) held)

-- no value is left without a field
pub values_over : (file : List ℕ) (fields : List MemberRow) (done : List EncodedValue) (k n : ℕ) (p : Place) → k < n → length fields ≤ k
    → with_others done (values_from file (drop k fields) (n - k) p) ≡ None
values_over file fields done k n p lt past =
    let more : n - k ≡ suc (n - (k + 1)) = omega arith in
    let rest : drop k fields ≡ [] = drop_of_length-le fields past in
    ap (with_others done) (ap (λ (fs : List MemberRow). values_from file fs (n - k) p) rest ∙ ap (λ (m : ℕ). values_from file [] m p) more)
