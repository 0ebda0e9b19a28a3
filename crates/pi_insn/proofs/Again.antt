-- What is written is read again: for each shape of the units, by the row whose operands they are.
use Rattle.std.proofs.Common.{◌≡◌, ℕ, ◌+◌, ◌*◌, ◌/◌, ◌%◌, ◌<◌, false, List, [], ◌∷◌, ◌++◌, length, Option, Some, arith}
use Rattle.pi_insn.specs.declared.table.Row.{Row}
use Rattle.pi_insn.specs.declared.raw.RawBody.{RawBody}
use Rattle.pi_insn.specs.Chain.{◌>>=◌}
use Rattle.pi_insn.specs.Numbers.{number_below}
use Rattle.pi_insn.specs.Table.{units_of, refuses}
use Rattle.pi_insn.specs.Reading.{body_of}
use Rattle.pi_insn.specs.Writing.{as_units, with_byte, with_pair}
use Rattle.pi_insn.proofs.Steps.{bind_some, below_some, units_some, byte_some, pair_some}

-- the units are those of a row's instruction: a first unit with the opcode and a high byte, and what reads as its operands
pub record Says (row : Row) (op : ℕ) (body : RawBody) (units rest : List ℕ) : Type 0 where
  pub high : ℕ
  pub tail : List ℕ
  pub are : units ≡ (op + 256 * high) ∷ tail
  pub passes : refuses row high ≡ false
  pub whole : length tail + 1 ≡ units_of row
  pub body_is : body_of row high (tail ++ rest) ≡ body

-- the units behind a first unit, where there is one
pub behind_first : (first : Option ℕ) (f : ℕ → List ℕ) (units : List ℕ) → (first >>= (λ u. as_units (f u))) ≡ Some units
    → (u : ℕ) × ((first ≡ Some u) × (units ≡ f u))
behind_first first f units e =
    let found = bind_some first (λ u. as_units (f u)) units e in
    (found.0, (found.1.0, units_some (f found.0) units found.1.1))

-- the two halves of a byte
pub lower : (a b : ℕ) → a < 16 → (a + 16 * b) % 16 ≡ a
lower a b h = omega arith

pub upper : (a b : ℕ) → a < 16 → (a + 16 * b) / 16 ≡ b
upper a b h = omega arith

pub word_again : (n : ℕ) → n % 65536 + 65536 * (n / 65536) ≡ n
word_again n = omega arith

-- a unit, and then a unit in place of its sum
pub head : (u v : ℕ) (units tail : List ℕ) → units ≡ u ∷ tail → u ≡ v → units ≡ v ∷ tail
head u v units tail e same = cc

-- the two bytes of a unit
pub low_byte : (b c : ℕ) → b < 256 → (b + 256 * c) % 256 ≡ b
low_byte b c h = omega arith

pub high_byte : (b c : ℕ) → b < 256 → (b + 256 * c) / 256 ≡ c
high_byte b c h = omega arith

same_bytes : (u b x c y : ℕ) (units : List ℕ) → x ≡ b → y ≡ c → units ≡ u ∷ (x + 256 * y) ∷ [] → units ≡ u ∷ (b + 256 * c) ∷ []
same_bytes u b x c y units same like e = cc

pub two_bytes : (u b c : ℕ) (units : List ℕ)
    → (number_below 256 b >>= (λ b. number_below 256 c >>= (λ c. as_units (u ∷ (b + 256 * c) ∷ [])))) ≡ Some units
    → (b < 256) × (units ≡ u ∷ (b + 256 * c) ∷ [])
two_bytes u b c units e =
    let x = bind_some (number_below 256 b) (λ b. number_below 256 c >>= (λ c. as_units (u ∷ (b + 256 * c) ∷ []))) units e in
    let fx = below_some 256 b x.0 x.1.0 in
    let y = bind_some (number_below 256 c) (λ c. as_units (u ∷ (x.0 + 256 * c) ∷ [])) units x.1.1 in
    let fy = below_some 256 c y.0 y.1.0 in
    (fx.0, same_bytes u b x.0 c y.0 units fx.1 fy.1 (units_some (u ∷ (x.0 + 256 * y.0) ∷ []) units y.1.1))

-- By what stands behind the opcode: the row has that length, it takes the high byte, and what it reads from these units is
-- the body.
module _ (row : Row) (op : ℕ) (body : RawBody) (units rest : List ℕ) where
  pub bare_says : (tail : List ℕ) → as_units (op ∷ tail) ≡ Some units → length tail + 1 ≡ units_of row → refuses row 0 ≡ false
      → body_of row 0 (tail ++ rest) ≡ body → Says row op body units rest
  bare_says tail e long passes is = record {
    high = 0;
    tail = tail;
    are = head op (op + 256 * 0) units tail (units_some (op ∷ tail) units e) (omega arith);
    passes = passes;
    whole = long;
    body_is = is;
  }

  pub byte_says : (a : ℕ) (tail : List ℕ) → (with_byte op a >>= (λ u. as_units (u ∷ tail))) ≡ Some units → length tail + 1 ≡ units_of row
      → refuses row a ≡ false → body_of row a (tail ++ rest) ≡ body → Says row op body units rest
  byte_says a tail e long passes is =
      let u = behind_first (with_byte op a) (λ u. u ∷ tail) units e in
      record {
        high = a;
        tail = tail;
        are = head u.0 (op + 256 * a) units tail u.1.1 (byte_some op a u.0 u.1.0).1;
        passes = passes;
        whole = long;
        body_is = is;
      }

  pub pair_says : (a b : ℕ) (tail : List ℕ)
      → (with_pair op a b >>= (λ u. as_units (u ∷ tail))) ≡ Some units → length tail + 1 ≡ units_of row
      → refuses row (a + 16 * b) ≡ false → (a < 16 → body_of row (a + 16 * b) (tail ++ rest) ≡ body) → Says row op body units rest
  pair_says a b tail e long passes is =
      let u = behind_first (with_pair op a b) (λ u. u ∷ tail) units e in
      let f = pair_some op a b u.0 u.1.0 in
      record {
        high = a + 16 * b;
        tail = tail;
        are = head u.0 (op + 256 * (a + 16 * b)) units tail u.1.1 f.2;
        passes = passes;
        whole = long;
        body_is = is f.0;
      }
