-- The units of payloads are numbers of 16 bits.
use Rattle.std.proofs.Common.{◌≡◌, ℕ, ◌+◌, ◌*◌, ◌/◌, ◌%◌, ◌^◌, ◌<◌, List, [], ◌∷◌, ◌++◌, length, true, arith}
use Rattle.std.specs.List.{All, flat_map}
use Rattle.std.proofs.lemmas.List.Elements.{All-nil, All-cons, All-head, All-tail, All-append}
use Rattle.pi_model.specs.declared.insn.Case.{Case}
use Rattle.pi_insn.specs.Payloads.{is_width}
use Rattle.pi_classtables.specs.Forms.{distance_bits}
use Rattle.pi_classtables.specs.Layout.{word_units, key_units, target_units, first_key, byte_units, long_units, item_units, packed_units, sparse_units, array_units}
use Rattle.pi_classtables.specs.Sized.{CaseSized}
use Rattle.pi_classlaws.proofs.Turned.{bits_fit}
use Rattle.pi_classlaws.proofs.CasesRead.{first_fits}
use Rattle.pi_classlaws.proofs.ItemsRead.{by_width}

abbrev pub IsHalf : ℕ → Type 0
IsHalf u = u < 65536

two : (a b : ℕ) (us : List ℕ) → IsHalf a → IsHalf b → All IsHalf us → All IsHalf (a ∷ b ∷ us)
two a b us f g h = All-cons IsHalf a (b ∷ us) f (All-cons IsHalf b us g h)

word_halves : (n : ℕ) → n < 2 ^ 32 → All IsHalf (word_units n)
word_halves n fits = two (n % 65536) (n / 65536) [] (omega arith) (omega arith) (All-nil IsHalf)

long_halves : (n : ℕ) → n < 256 ^ 8 → All IsHalf (long_units n)
long_halves n fits =
    All-append IsHalf (word_units (n % 4294967296)) (word_units (n / 4294967296))
    (word_halves (n % 4294967296) (omega arith)) (word_halves (n / 4294967296) (omega arith))

-- the units of all elements, where those of each are
flat_halves : {X : Type 0} (P : X → Type 0) (f : X → List ℕ) → ((x : X) → P x → All IsHalf (f x)) → (xs : List X) → All P xs → All IsHalf (flat_map f xs)
flat_halves P f each [] all = All-nil IsHalf
flat_halves P f each (x ∷ xs) all =
    All-append IsHalf (f x) (flat_map f xs) (each x (All-head P x xs all)) (flat_halves P f each xs (All-tail P x xs all))

byte_halves : (items : List ℕ) → All (λ x. x < 256) items → All IsHalf (byte_units items)
byte_halves [] fit = All-nil IsHalf
byte_halves (x ∷ []) fit =
    let fits : x < 256 = fit 0 0 (omega arith) in
    All-cons IsHalf x [] (omega arith) (All-nil IsHalf)
byte_halves (x ∷ y ∷ items) fit =
    let low : x < 256 = fit 0 0 (omega arith) in
    let high : y < 256 = fit 1 0 (omega arith) in
    All-cons IsHalf (x + 256 * y) (byte_units items) (omega arith)
    (byte_halves items (All-tail (λ x. x < 256) y items (All-tail (λ x. x < 256) x (y ∷ items) fit)))

item_halves : (width : ℕ) → is_width width ≡ true → (items : List ℕ) → All (λ x. x < 256 ^ width) items → All IsHalf (item_units width items)
item_halves width e = by_width (λ w. (items : List ℕ) → All (λ x. x < 256 ^ w) items → All IsHalf (item_units w items))
    byte_halves (λ items fit. fit) (λ items fit. flat_halves (λ x. x < 2 ^ 32) word_units word_halves items fit)
    (λ items fit. flat_halves (λ x. x < 256 ^ 8) long_units long_halves items fit) width e

key_halves : (cases : List Case) → All CaseSized cases → All IsHalf (key_units cases)
key_halves cases sized = flat_halves CaseSized (λ (c : Case). word_units c.key) (λ c s. word_halves c.key s.key) cases sized

target_halves : (at : ℕ) (cases : List Case) → All CaseSized cases → All IsHalf (target_units at cases)
target_halves at cases sized =
    flat_halves CaseSized (λ (c : Case). word_units (distance_bits at c.to)) (λ c s. word_halves (distance_bits at c.to) (bits_fit at c.to)) cases sized

pub packed_halves : (at : ℕ) (cases : List Case) → All CaseSized cases → length cases < 65536 → All IsHalf (packed_units at cases)
unfolding packed_units
packed_halves at cases sized few =
    two 0x0100 (length cases) (word_units (first_key cases) ++ target_units at cases) (omega arith) few
    (All-append IsHalf (word_units (first_key cases)) (target_units at cases)
    (word_halves (first_key cases) (first_fits cases sized)) (target_halves at cases sized))

pub sparse_halves : (at : ℕ) (cases : List Case) → All CaseSized cases → length cases < 65536 → All IsHalf (sparse_units at cases)
unfolding sparse_units
sparse_halves at cases sized few =
    two 0x0200 (length cases) (key_units cases ++ target_units at cases) (omega arith) few
    (All-append IsHalf (key_units cases) (target_units at cases) (key_halves cases sized) (target_halves at cases sized))

width_fits : (width : ℕ) → is_width width ≡ true → IsHalf width
width_fits width e = by_width IsHalf (omega arith) (omega arith) (omega arith) (omega arith) width e

pub array_halves : (width : ℕ) (items : List ℕ) → is_width width ≡ true → length items < 2 ^ 32 → All (λ x. x < 256 ^ width) items
    → All IsHalf (array_units width items)
unfolding array_units
array_halves width items e few fit =
    two 0x0300 width (word_units (length items) ++ item_units width items) (omega arith) (width_fits width e)
    (All-append IsHalf (word_units (length items)) (item_units width items) (word_halves (length items) few) (item_halves width e items fit))
