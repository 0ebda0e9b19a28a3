-- What was read fits again: no row refuses to write what it reads.
use Rattle.std.proofs.Common.{◌≡◌, ℕ, suc, ◌+◌, ◌*◌, ◌/◌, ◌%◌, ◌^◌, ◌<◌, ◌≤◌, ◌==◌, Bool, true, false, List, [], ◌∷◌, slice_index, Option, Some, None, Ok, IsSome, refl, sym, ap, subst, arith}
use Rattle.std.specs.Prelude.{if◌then◌else◌}
use Rattle.std.proofs.lemmas.Bool.Decides.{nat_tests}
use Rattle.pi_insn.specs.declared.table.Row.{Row}
use Rattle.pi_insn.specs.declared.table.Row.TheVariants.{F10x, F12x, F11n, F11x, F10t, F20t, F22x, F21t, F21s, F21h, F21c, F23x, F22b, F22t, F22s, F22c, F30t, F32x, F31i, F31t, F31c, F35c, F3rc, F51l}
use Rattle.pi_insn.specs.declared.table.Single.{Single}
use Rattle.pi_insn.specs.declared.table.Single.TheVariants as single
use Rattle.pi_insn.specs.declared.table.Pair.{Pair}
use Rattle.pi_insn.specs.declared.table.Pair.TheVariants as pair
use Rattle.pi_insn.specs.declared.table.Triple.{Triple}
use Rattle.pi_insn.specs.declared.table.Triple.TheVariants as triple
use Rattle.pi_insn.specs.declared.table.Literal.{Literal}
use Rattle.pi_insn.specs.declared.table.Literal.TheVariants as literal
use Rattle.pi_insn.specs.declared.table.Named.{Named}
use Rattle.pi_insn.specs.declared.table.Named.TheVariants as named
use Rattle.pi_insn.specs.declared.table.NamedPair.{NamedPair}
use Rattle.pi_insn.specs.declared.table.NamedPair.TheVariants as named_pair
use Rattle.pi_insn.specs.declared.table.Payloads.{Payloads}
use Rattle.pi_insn.specs.declared.table.Payloads.TheVariants as payloads
use Rattle.pi_insn.specs.declared.table.Listing.{Listing}
use Rattle.pi_insn.specs.declared.table.Listing.TheVariants as listing
use Rattle.pi_model.specs.declared.insn.BinOp.{BinOp}
use Rattle.pi_insn.specs.declared.raw.RawBody.{RawBody}
use Rattle.pi_insn.specs.declared.raw.RawBody.TheVariants.{BinaryLit}
use Rattle.pi_insn.specs.declared.raw.RawRegs.{RawRegs}
use Rattle.pi_insn.specs.declared.raw.RawRegs.TheVariants.{Run}
use Rattle.pi_insn.specs.Chain.{◌>>=◌}
use Rattle.pi_insn.specs.Numbers.{signed_number, signed_extension, number_below, bits, short_bits, exact_quotient, word, long}
use Rattle.pi_insn.specs.declared.raw.RawInsn.{RawInsn}
use Rattle.pi_insn.specs.Table.{row_of, refuses}
use Rattle.pi_insn.specs.Reading.{single_body, pair_body, triple_body, literal_body, high_body, named_body, named_pair_body, payload_body, listing_body, few, place, body_of, insn_in}
use Rattle.pi_insn.specs.Writing.{as_units, with_byte, with_pair, single_of, pair_of, triple_of, literal_of, high_of, named_of, named_pair_of, payload_of, with_literal_of, listing_of, few_of, byte_alone, pair_alone, unit_behind, byte_and_unit, pair_and_unit, three_bytes, two_units_behind, word_behind, byte_and_word, units_by, units_where, encoding}
use Rattle.pi_insn.proofs.Rounds.{at_most_five, read_there}

-- numbers that fit
below_ok : (limit n : ℕ) → n < limit → number_below limit n ≡ Some n
below_ok limit n h = grind (arith, nat_tests)

byte_ok : (op a : ℕ) → a < 256 → with_byte op a ≡ Some (op + 256 * a)
byte_ok op a h = ap (λ o. o >>= (λ a. Some (op + 256 * a))) (below_ok 256 a h)

pair_ok : (op a b : ℕ) → a < 16 → b < 16 → with_pair op a b ≡ Some (op + 256 * a + 4096 * b)
pair_ok op a b ha hb = rw (below_ok 16 a ha, below_ok 16 b hb) refl

bits_ok : (half n : ℕ) → n < 2 * half → bits half (signed_number half n) ≡ Some n
bits_ok half n h = grind (arith, nat_tests)

shortened_ok : (half range n : ℕ) → 2 * half ≤ range → n < 2 * half → short_bits half range (signed_extension half range n) ≡ Some n
shortened_ok half range n fits h = grind (arith, nat_tests)

shifted_ok : (unit n : ℕ) → 0 < unit → exact_quotient unit (n * unit) ≡ Some n
shifted_ok unit n some = grind (arith, nat_tests)

-- units that are units
one_ok : (u : ℕ) → u < 65536 → as_units (u ∷ []) ≡ Some (u ∷ [])
one_ok u h = grind (arith, nat_tests)

two_ok : (u v : ℕ) → u < 65536 → v < 65536 → as_units (u ∷ v ∷ []) ≡ Some (u ∷ v ∷ [])
two_ok u v h k = grind (arith, nat_tests)

three_ok : (u v w : ℕ) → u < 65536 → v < 65536 → w < 65536 → as_units (u ∷ v ∷ w ∷ []) ≡ Some (u ∷ v ∷ w ∷ [])
three_ok u v w h k l = grind (arith, nat_tests)

five_ok : (u v w x y : ℕ) → u < 65536 → v < 65536 → w < 65536 → x < 65536 → y < 65536 → as_units (u ∷ v ∷ w ∷ x ∷ y ∷ []) ≡ Some (u ∷ v ∷ w ∷ x ∷ y ∷ [])
five_ok u v w x y a b c d e = grind (arith, nat_tests)

-- the operands of what was read
pair_is : (w : Pair) (a b : ℕ) → pair_of (pair_body w a b) ≡ Some (a, b)
pair_is (pair.Move k) a b = refl
pair_is pair.ArrayLength a b = refl
pair_is (pair.Unary op) a b = refl
pair_is (pair.Binary op) a b =
    let same : (a == a) ≡ true = grind (arith, nat_tests) in
    ap (λ (t : Bool). if t then Some (a, b) else None) same

single_is : (w : Single) (a : ℕ) → single_of (single_body w a) ≡ Some a
single_is (single.MoveResult k) a = refl
single_is single.MoveException a = refl
single_is (single.Return k) a = refl
single_is single.Monitor a = refl
single_is single.Throw a = refl

triple_is : (w : Triple) (a b c : ℕ) → triple_of (triple_body w a b c) ≡ Some (a, b, c)
triple_is triple.CmpLong a b c = refl
triple_is (triple.Aget k) a b c = refl
triple_is (triple.Aput k) a b c = refl
triple_is (triple.Binary op) a b c = refl

named_is : (w : Named) (a i : ℕ) → named_of (named_body w a i) ≡ Some (a, i)
named_is named.ConstString a i = refl
named_is named.ConstClass a i = refl
named_is named.CheckCast a i = refl
named_is named.NewInstance a i = refl
named_is (named.Sget k) a i = refl
named_is (named.Sput k) a i = refl

named_pair_is : (w : NamedPair) (a b i : ℕ) → named_pair_of (named_pair_body w a b i) ≡ Some (a, b, i)
named_pair_is named_pair.InstanceOf a b i = refl
named_pair_is named_pair.NewArray a b i = refl
named_pair_is (named_pair.Iget k) a b i = refl
named_pair_is (named_pair.Iput k) a b i = refl

payload_is : (w : Payloads) (a n : ℕ) → n < 4294967296 → payload_of 2147483648 (payload_body w a n) ≡ Some (a, n)
payload_is payloads.FillArray a n h = ap (λ o. o >>= (λ n. Some (a, n))) (bits_ok 2147483648 n (omega arith))
payload_is payloads.Switch a n h = ap (λ o. o >>= (λ n. Some (a, n))) (bits_ok 2147483648 n (omega arith))

listing_is : (w : Listing) (i : ℕ) (regs : RawRegs) → listing_of (listing_body w i regs) ≡ Some (i, regs)
listing_is listing.Filled i regs = refl
listing_is (listing.Invoke how) i regs = refl

literal_is : (w : Literal) (half a n : ℕ) → half ≤ 2 ^ 31 → n < 2 * half → literal_of half (literal_body w a half n) ≡ Some (a, n)
literal_is literal.Int half a n few h = ap (λ o. o >>= (λ n. Some (a, n))) (shortened_ok half (2 ^ 32) n (omega arith) h)
literal_is literal.Long half a n few h = ap (λ o. o >>= (λ n. Some (a, n))) (shortened_ok half (2 ^ 64) n (omega arith) h)

short_literal_is : (k : BinOp) (half a b n : ℕ) → half ≤ 2 ^ 31 → n < 2 * half
    → with_literal_of half (BinaryLit k a b (signed_extension half (2 ^ 32) n)) ≡ Some (a, b, n)
short_literal_is k half a b n few h = ap (λ o. o >>= (λ n. Some (a, b, n))) (shortened_ok half (2 ^ 32) n (omega arith) h)

high_is : (w : Literal) (a n : ℕ) → high_of (high_body w a n) ≡ Some (a, n)
high_is literal.Int a n = ap (λ o. o >>= (λ n. Some (a, n))) (shifted_ok (2 ^ 16) n (omega arith))
high_is literal.Long a n = ap (λ o. o >>= (λ n. Some (a, n))) (shifted_ok (2 ^ 48) n (omega arith))

-- registers that were read one by one
place_less : (n i r : ℕ) → r < 16 → place n i r < 16
place_less n i r h = grind (arith, nat_tests)

few_ok : (op i n c d e f g : ℕ) → op < 256 → i < 65536 → n ≤ 5 → c < 16 → d < 16 → e < 16 → f < 16 → g < 16
    → IsSome (few_of op i n (c ∷ d ∷ e ∷ f ∷ g ∷ []))
few_ok op i n c d e f g ho hi hn hc hd he hf hg =
    let u : op + 256 * (g + 16 * n) < 65536 = omega arith in
    let v : c + 16 * d + 256 * e + 4096 * f < 65536 = omega arith in
    rw (below_ok 6 n (omega arith), below_ok 16 c hc, below_ok 16 d hd, below_ok 16 e he, below_ok 16 f hf, below_ok 16 g hg, three_ok (op + 256 * (g + 16 * n)) i (c + 16 * d + 256 * e + 4096 * f) u hi v) refl

-- units in words
word_less : (a b : ℕ) → a < 65536 → b < 65536 → a + 65536 * b < 4294967296
word_less a b ha hb = omega arith

-- a 64-bit number of units
top_less : (a b c d : ℕ) → a < 65536 → b < 65536 → c < 65536 → d < 65536
    → (a + 65536 * b + 4294967296 * (c + 65536 * d)) / 281474976710656 < 65536
top_less a b c d ha hb hc hd = omega arith

-- the shapes of the units, where the operands fit
module _ (op : ℕ) (ho : op < 256) where
  byte_alone_fits : (o : Option ℕ) (a : ℕ) → o ≡ Some a → a < 256 → IsSome (byte_alone op o)
  byte_alone_fits o a is ha =
      let u : op + 256 * a < 65536 = omega arith in
      rw (is, byte_ok op a ha, one_ok (op + 256 * a) u) refl

  pair_alone_fits : (o : Option (ℕ × ℕ)) (a b : ℕ) → o ≡ Some (a, b) → a < 16 → b < 16 → IsSome (pair_alone op o)
  pair_alone_fits o a b is ha hb =
      let u : op + 256 * a + 4096 * b < 65536 = omega arith in
      rw (is, pair_ok op a b ha hb, one_ok (op + 256 * a + 4096 * b) u) refl

  unit_behind_fits : (o : Option ℕ) (n : ℕ) → o ≡ Some n → n < 65536 → IsSome (unit_behind op o)
  unit_behind_fits o n is hn = rw (is, two_ok op n (omega arith) hn) refl

  byte_and_unit_fits : (o : Option (ℕ × ℕ)) (a n : ℕ) → o ≡ Some (a, n) → a < 256 → n < 65536 → IsSome (byte_and_unit op o)
  byte_and_unit_fits o a n is ha hn =
      let u : op + 256 * a < 65536 = omega arith in
      rw (is, byte_ok op a ha, two_ok (op + 256 * a) n u hn) refl

  pair_and_unit_fits : (o : Option (ℕ × ℕ × ℕ)) (a b n : ℕ) → o ≡ Some (a, b, n) → a < 16 → b < 16 → n < 65536 → IsSome (pair_and_unit op o)
  pair_and_unit_fits o a b n is ha hb hn =
      let u : op + 256 * a + 4096 * b < 65536 = omega arith in
      rw (is, pair_ok op a b ha hb, two_ok (op + 256 * a + 4096 * b) n u hn) refl

  three_bytes_fit : (o : Option (ℕ × ℕ × ℕ)) (a b c : ℕ) → o ≡ Some (a, b, c) → a < 256 → b < 256 → c < 256 → IsSome (three_bytes op o)
  three_bytes_fit o a b c is ha hb hc =
      let u : op + 256 * a < 65536 = omega arith in
      let v : b + 256 * c < 65536 = omega arith in
      rw (is, byte_ok op a ha, below_ok 256 b hb, below_ok 256 c hc, two_ok (op + 256 * a) (b + 256 * c) u v) refl

  two_units_behind_fit : (o : Option (ℕ × ℕ)) (a b : ℕ) → o ≡ Some (a, b) → a < 65536 → b < 65536 → IsSome (two_units_behind op o)
  two_units_behind_fit o a b is ha hb = rw (is, three_ok op a b (omega arith) ha hb) refl

  word_behind_fits : (o : Option ℕ) (n : ℕ) → o ≡ Some n → n < 4294967296 → IsSome (word_behind op o)
  word_behind_fits o n is hn = rw (is, three_ok op (n % 65536) (n / 65536) (omega arith) (omega arith) (omega arith)) refl

  byte_and_word_fits : (o : Option (ℕ × ℕ)) (a n : ℕ) → o ≡ Some (a, n) → a < 256 → n < 4294967296 → IsSome (byte_and_word op o)
  byte_and_word_fits o a n is ha hn =
      let u : op + 256 * a < 65536 = omega arith in
      rw (is, byte_ok op a ha, three_ok (op + 256 * a) (n % 65536) (n / 65536) u (omega arith) (omega arith)) refl

-- the bits of a distance that was read
distance_is : {A : Type 0} (half n : ℕ) (f : ℕ → A) → n < 2 * half → (bits half (signed_number half n) >>= (λ n. Some (f n))) ≡ Some (f n)
distance_is half n f h = ap (λ o. o >>= (λ n. Some (f n))) (bits_ok half n h)

pub writable : (row : Row) (op high : ℕ) (rest : List ℕ) → op < 256 → high < 256 → ((k : ℕ) → slice_index rest k < 65536)
    → refuses row high ≡ false → IsSome (units_by row op (body_of row high rest))
writable (F10x w) op high rest ho hh hr e = rw (one_ok op (omega arith)) refl
writable (F12x w) op high rest ho hh hr e = pair_alone_fits op ho _ _ _ (pair_is w (high % 16) (high / 16)) (omega arith) (omega arith)
writable F11n op high rest ho hh hr e =
    pair_alone_fits op ho _ _ _ (literal_is literal.Int 8 (high % 16) (high / 16) (omega arith) (omega arith)) (omega arith) (omega arith)
writable (F11x w) op high rest ho hh hr e = byte_alone_fits op ho _ _ (single_is w high) hh
writable F10t op high rest ho hh hr e = byte_alone_fits op ho _ _ (bits_ok 128 high (omega arith)) hh
writable F20t op high rest ho hh hr e =
    let h = hr 0 in
    unit_behind_fits op ho _ _ (bits_ok 32768 (slice_index rest 0) (omega arith)) h
writable (F22x k) op high rest ho hh hr e = byte_and_unit_fits op ho _ high (slice_index rest 0) refl hh (hr 0)
writable (F21t c) op high rest ho hh hr e =
    let h = hr 0 in
    byte_and_unit_fits op ho _ high _ (distance_is 32768 (slice_index rest 0) (λ n. (high, n)) (omega arith)) hh h
writable (F21s w) op high rest ho hh hr e =
    let h = hr 0 in
    byte_and_unit_fits op ho _ _ _ (literal_is w 32768 high (slice_index rest 0) (omega arith) (omega arith)) hh h
writable (F21h w) op high rest ho hh hr e = byte_and_unit_fits op ho _ _ _ (high_is w high (slice_index rest 0)) hh (hr 0)
writable (F21c w) op high rest ho hh hr e = byte_and_unit_fits op ho _ _ _ (named_is w high (slice_index rest 0)) hh (hr 0)
writable (F23x w) op high rest ho hh hr e =
    let h = hr 0 in
    three_bytes_fit op ho _ _ _ _ (triple_is w high (slice_index rest 0 % 256) (slice_index rest 0 / 256)) hh (omega arith) (omega arith)
writable (F22b k) op high rest ho hh hr e =
    let h = hr 0 in
    three_bytes_fit op ho _ _ _ _
    (short_literal_is k 128 high (slice_index rest 0 % 256) (slice_index rest 0 / 256) (omega arith) (omega arith)) hh (omega arith) (omega arith)
writable (F22t c) op high rest ho hh hr e =
    let h = hr 0 in
    pair_and_unit_fits op ho _ (high % 16) (high / 16) _
    (distance_is 32768 (slice_index rest 0) (λ n. (high % 16, high / 16, n)) (omega arith)) (omega arith) (omega arith) h
writable (F22s k) op high rest ho hh hr e =
    let h = hr 0 in
    pair_and_unit_fits op ho _ _ _ _ (short_literal_is k 32768 (high % 16) (high / 16) (slice_index rest 0) (omega arith) (omega arith))
    (omega arith) (omega arith) h
writable (F22c w) op high rest ho hh hr e =
    pair_and_unit_fits op ho _ _ _ _ (named_pair_is w (high % 16) (high / 16) (slice_index rest 0)) (omega arith) (omega arith) (hr 0)
writable F30t op high rest ho hh hr e =
    let n = word_less (slice_index rest 0) (slice_index rest 1) (hr 0) (hr 1) in
    word_behind_fits op ho _ _ (bits_ok 2147483648 (word rest 0) (omega arith)) n
writable (F32x k) op high rest ho hh hr e = two_units_behind_fit op ho _ (slice_index rest 0) (slice_index rest 1) refl (hr 0) (hr 1)
writable (F31i w) op high rest ho hh hr e =
    let n = word_less (slice_index rest 0) (slice_index rest 1) (hr 0) (hr 1) in
    byte_and_word_fits op ho _ _ _ (literal_is w 2147483648 high (word rest 0) (omega arith) (omega arith)) hh n
writable (F31t w) op high rest ho hh hr e =
    let n = word_less (slice_index rest 0) (slice_index rest 1) (hr 0) (hr 1) in
    byte_and_word_fits op ho _ _ _ (payload_is w high (word rest 0) n) hh n
writable F31c op high rest ho hh hr e =
    byte_and_word_fits op ho _ high (word rest 0) refl hh (word_less (slice_index rest 0) (slice_index rest 1) (hr 0) (hr 1))
writable (F35c w) op high rest ho hh hr e =
    let n = high / 16 in
    let u = slice_index rest 1 in
    let h1 = hr 1 in
    rw (listing_is w (slice_index rest 0) (few high (slice_index rest 1))) (few_ok op (slice_index rest 0) (high / 16)
    (place n 0 (u % 16)) (place n 1 (u / 16 % 16)) (place n 2 (u / 256 % 16)) (place n 3 (u / 4096)) (place n 4 (high % 16))
    ho (hr 0) (at_most_five high e)
    (place_less n 0 (u % 16) (omega arith)) (place_less n 1 (u / 16 % 16) (omega arith)) (place_less n 2 (u / 256 % 16) (omega arith))
    (place_less n 3 (u / 4096) (omega arith)) (place_less n 4 (high % 16) (omega arith)))
writable (F3rc w) op high rest ho hh hr e =
    let u : op + 256 * high < 65536 = omega arith in
    rw (listing_is w (slice_index rest 0) (Run (slice_index rest 1) high), byte_ok op high hh, three_ok (op + 256 * high) (slice_index rest 0) (slice_index rest 1) u (hr 0) (hr 1)) refl
writable F51l op high rest ho hh hr e =
    let u : op + 256 * high < 65536 = omega arith in
    let top = top_less (slice_index rest 0) (slice_index rest 1) (slice_index rest 2) (slice_index rest 3) (hr 0) (hr 1) (hr 2) (hr 3) in
    rw (byte_ok op high hh, five_ok (op + 256 * high) (long rest % 65536) (long rest / 65536 % 65536) (long rest / 4294967296 % 65536) (long rest / 281474976710656) u (omega arith) (omega arith) (omega arith) top) refl

fits_where : (o : Option Row) (row : Row) (op : ℕ) (body : RawBody) → o ≡ Some row → IsSome (units_by row op body) → IsSome (units_where o op body)
fits_where o row op body e h =
    let P : Option Row → Type 0 = λ o. IsSome (units_where o op body) in
    subst P (sym e) h

pub read_fits : (units : List ℕ) (i : RawInsn) (n : ℕ) → ((k : ℕ) → slice_index units k < 65536) → insn_in units ≡ Ok (i, n) → IsSome (encoding i)
unfolding encoding
read_fits [] i n fits e = cc
read_fits (unit ∷ rest) i n fits e =
    let r = read_there (unit % 256) (row_of (unit % 256)) (unit / 256) rest i n e in
    let first = fits 0 in
    let P : RawInsn → Type 0 = λ j. IsSome (encoding j) in
    subst P r.1.2 (fits_where (row_of (unit % 256)) r.0 (unit % 256) (body_of r.0 (unit / 256) rest) r.1.0
    (writable r.0 (unit % 256) (unit / 256) rest (omega arith) (omega arith) (λ k. fits (suc k)) r.1.1))
