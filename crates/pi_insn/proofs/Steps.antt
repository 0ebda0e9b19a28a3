-- Steps of writing, taken back.
use Rattle.std.proofs.Common.{◌≡◌, ℕ, suc, ◌+◌, ◌-◌, ◌*◌, ◌<◌, ◌≤◌, Bool, true, false, nat_lt, List, Option, Some, None, ℤ, pos, negsuc, refl, arith}
use Rattle.std.specs.Prelude.{if◌then◌else◌}
use Rattle.std.specs.List.{list_all}
use Rattle.std.proofs.lemmas.Bool.Decides.{nat_tests}
use Rattle.pi_insn.specs.Chain.{◌>>=◌}
use Rattle.pi_insn.specs.Numbers.{signed_number, signed_extension, number_below, bits, short_bits, exact_quotient}
use Rattle.pi_insn.specs.Writing.{as_units, with_byte, with_pair}

-- a chain that comes to an end has a first step
pub bind_some : {A B : Type 0} (o : Option A) (f : A → Option B) (y : B)
    → (o >>= f) ≡ Some y → (x : A) × ((o ≡ Some x) × (f x ≡ Some y))
bind_some None f y e = cc
bind_some (Some x) f y e = (x, (refl, e))

-- one that ends with a value made of the last step's number
pub last_some : {A : Type 0} (o : Option ℕ) (f : ℕ → A) (y : A)
    → (o >>= (λ n. Some (f n))) ≡ Some y → (n : ℕ) × ((o ≡ Some n) × (y ≡ f n))
last_some None f y e = cc
last_some (Some n) f y e = (n, (refl, cc))

pub chosen : {A : Type 0} (b : Bool) (x y : A) → (if b then Some x else None) ≡ Some y → (b ≡ true) × (y ≡ x)
chosen true x y e = (refl, cc)
chosen false x y e = cc

pub below_some : (limit n x : ℕ) → number_below limit n ≡ Some x → (n < limit) × (x ≡ n)
below_some limit n x e =
    let found = chosen (nat_lt n limit) n x e in
    let test : nat_lt n limit ≡ true = found.0 in
    (grind (arith, nat_tests), found.1)

pub units_some : (us vs : List ℕ) → as_units us ≡ Some vs → vs ≡ us
units_some us vs e = (chosen (list_all (λ u. nat_lt u 65536) us) us vs e).1

-- the first units
pub byte_some : (op a u : ℕ) → with_byte op a ≡ Some u → (a < 256) × (u ≡ op + 256 * a)
byte_some op a u e =
    let found = bind_some (number_below 256 a) (λ a. Some (op + 256 * a)) u e in
    let fits = below_some 256 a found.0 found.1.0 in
    let same : found.0 ≡ a = fits.1 in
    let is : Some (op + 256 * found.0) ≡ Some u = found.1.1 in
    let value : op + 256 * found.0 ≡ u = cc in
    (fits.0, omega arith)

pub pair_some : (op a b u : ℕ) → with_pair op a b ≡ Some u → (a < 16) × (b < 16) × (u ≡ op + 256 * (a + 16 * b))
pair_some op a b u e =
    let found = bind_some (number_below 16 a) (λ a. number_below 16 b >>= (λ b. Some (op + 256 * a + 4096 * b))) u e in
    let fits = below_some 16 a found.0 found.1.0 in
    let more = bind_some (number_below 16 b) (λ b. Some (op + 256 * found.0 + 4096 * b)) u found.1.1 in
    let fit = below_some 16 b more.0 more.1.0 in
    let same : found.0 ≡ a = fits.1 in
    let like : more.0 ≡ b = fit.1 in
    let is : Some (op + 256 * found.0 + 4096 * more.0) ≡ Some u = more.1.1 in
    let value : op + 256 * found.0 + 4096 * more.0 ≡ u = cc in
    (fits.0, fit.0, omega arith)

-- numbers
pub bits_some : (half : ℕ) (z : ℤ) (n : ℕ) → bits half z ≡ Some n → signed_number half n ≡ z
bits_some half (pos m) n e =
    let found = chosen (nat_lt m half) m n e in
    let test : nat_lt m half ≡ true = found.0 in
    let same : n ≡ m = found.1 in
    grind (arith, nat_tests)
bits_some half (negsuc m) n e =
    let found = chosen (nat_lt m half) (2 * half - suc m) n e in
    let test : nat_lt m half ≡ true = found.0 in
    let same : n ≡ 2 * half - suc m = found.1 in
    let less : m < half = grind (arith, nat_tests) in
    let above : nat_lt n half ≡ false = grind (arith, nat_tests) in
    let back : 2 * half - suc n ≡ m = omega arith in
    rw (above, back) refl

pub shortened_some : (half range v n : ℕ) → 2 * half ≤ range → short_bits half range v ≡ Some n → signed_extension half range n ≡ v
shortened_some half range v n fits e = grind (arith, nat_tests)

pub shifted_some : (unit v n : ℕ) → 0 < unit → exact_quotient unit v ≡ Some n → n * unit ≡ v
shifted_some unit v n some e = grind (arith, nat_tests)
