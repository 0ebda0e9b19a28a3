-- What is written is read again: the formats with a list of registers or a long, and then each by the row of the opcode.
use Rattle.std.proofs.Common.{◌≡◌, ℕ, ◌+◌, ◌*◌, ◌/◌, ◌%◌, ◌<◌, ◌≤◌, false, nat_lt, List, [], ◌∷◌, slice_index, Option, Some, refl, sym, ◌∙◌, ap, subst, arith}
use Rattle.std.proofs.lemmas.Bool.Decides.{nat_tests}
use Rattle.pi_insn.specs.declared.table.Row.{Row}
use Rattle.pi_insn.specs.declared.table.Row.TheVariants.{F10x, F12x, F11n, F11x, F10t, F20t, F22x, F21t, F21s, F21h, F21c, F23x, F22b, F22t, F22s, F22c, F30t, F32x, F31i, F31t, F31c, F35c, F3rc, F51l}
use Rattle.pi_insn.specs.declared.table.Pair.TheVariants as pair
use Rattle.pi_insn.specs.declared.table.Literal.TheVariants as literal
use Rattle.pi_insn.specs.declared.table.Named.TheVariants as named
use Rattle.pi_insn.specs.declared.table.Listing.{Listing}
use Rattle.pi_insn.specs.declared.table.Listing.TheVariants as listing
use Rattle.pi_insn.specs.declared.raw.RawBody.{RawBody}
use Rattle.pi_insn.specs.declared.raw.RawBody.TheVariants.{ConstWide}
use Rattle.pi_insn.specs.declared.raw.RawRegs.{RawRegs}
use Rattle.pi_insn.specs.declared.raw.RawRegs.TheVariants.{Few, Run}
use Rattle.pi_insn.specs.Chain.{◌>>=◌}
use Rattle.pi_insn.specs.Numbers.{number_below}
use Rattle.pi_insn.specs.Table.{units_of, refuses}
use Rattle.pi_insn.specs.Reading.{listing_body, few, place, body_of}
use Rattle.pi_insn.specs.Writing.{as_units, with_byte, with_pair, with_unit, with_word, alone, three_bytes, single_of, pair_of, triple_of, literal_of, high_of, named_of, named_pair_of, payload_of, goto_of, test_of, compare_of, with_literal_of, listing_of, few_of, few_units, run_units, units_35c, units_3rc, units_51l, units_by, without_operands, zero_regs, AreFew, NamesFew}
use Rattle.pi_insn.proofs.Steps.{bind_some, below_some, units_some, byte_some}
use Rattle.pi_insn.proofs.Bodies.{from_plain, from_single, from_pair, from_triple, from_named, from_named_pair, from_listing, from_literal, from_high, from_with_literal, from_goto, from_test, from_compare, from_payload}
use Rattle.pi_insn.proofs.Again.{Says, behind_first, lower, upper, low_byte, high_byte, two_bytes, word_again, head, bare_says, byte_says, pair_says}

-- three bytes, of which two share a unit
three_bytes_say : (row : Row) (op : ℕ) (body : RawBody) (units rest : List ℕ) (a b c : ℕ) → three_bytes op (Some (a, b, c)) ≡ Some units
    → 2 ≡ units_of row → refuses row a ≡ false → (b < 256 → body_of row a ((b + 256 * c) ∷ rest) ≡ body) → Says row op body units rest
three_bytes_say row op body units rest a b c e long passes is =
    let u = bind_some (with_byte op a) (λ u. number_below 256 b >>= (λ b. number_below 256 c >>= (λ c. as_units (u ∷ (b + 256 * c) ∷ [])))) units e in
    let f = two_bytes u.0 b c units u.1.1 in
    record {
      high = a;
      tail = (b + 256 * c) ∷ [];
      are = head u.0 (op + 256 * a) units ((b + 256 * c) ∷ []) f.1 (byte_some op a u.0 u.1.0).1;
      passes = passes;
      whole = long;
      body_is = is f.0;
    }

-- a 64-bit number and its units
long_again : (n : ℕ) → n % 65536 + 65536 * (n / 65536 % 65536) + 4294967296 * (n / 4294967296 % 65536 + 65536 * (n / 281474976710656)) ≡ n
long_again n = omega arith

again_51l : (op : ℕ) (body : RawBody) (units rest : List ℕ) → units_51l op body ≡ Some units
    → without_operands body ≡ ConstWide 0 0 → Says F51l op body units rest
again_51l op (ConstWide a v) units rest e h =
    byte_says F51l op (ConstWide a v) units rest a
    (v % 65536 ∷ v / 65536 % 65536 ∷ v / 4294967296 % 65536 ∷ v / 281474976710656 ∷ []) e refl refl
    (ap (ConstWide a) (long_again v))
again_51l op body units rest e h = cc

-- registers in a row
again_run : (op i : ℕ) (regs : RawRegs) (units : List ℕ) → run_units op i regs ≡ Some units → zero_regs regs ≡ Run 0 0
    → (first : ℕ) × (n : ℕ) × ((regs ≡ Run first n) × (units ≡ (op + 256 * n) ∷ i ∷ first ∷ []))
again_run op i (Run first n) units e h =
    let u = behind_first (with_byte op n) (λ u. u ∷ i ∷ first ∷ []) units e in
    let f = byte_some op n u.0 u.1.0 in
    (first, n, (refl, head u.0 (op + 256 * n) units (i ∷ first ∷ []) u.1.1 f.1))
again_run op i (Few n regs) units e h = cc

again_3rc : (w : Listing) (op : ℕ) (body : RawBody) (units rest : List ℕ) → units_3rc op body ≡ Some units
    → without_operands body ≡ without_operands (listing_body w 0 (Run 0 0)) → Says (F3rc w) op body units rest
again_3rc w op body units rest e h =
    let o = bind_some (listing_of body) (λ p. run_units op p.0 p.1) units e in
    let b = from_listing w body (Run 0 0) o.0 h o.1.0 in
    let r = again_run op o.0.0 o.0.1 units o.1.1 b.1 in
    record {
      high = r.1;
      tail = o.0.0 ∷ r.0 ∷ [];
      are = r.2.1;
      passes = refl;
      whole = refl;
      body_is = ap (listing_body w o.0.0) (sym r.2.0) ∙ b.0;
    }

-- at most five registers, each in its place
kept : (n i r : ℕ) → (n ≤ i → r ≡ 0) → place n i r ≡ r
kept n i r none = grind (arith, nat_tests)

four : (c d e f : ℕ) → c < 16 → d < 16 → e < 16
    → ((c + 16 * d + 256 * e + 4096 * f) % 16 ≡ c) × ((c + 16 * d + 256 * e + 4096 * f) / 16 % 16 ≡ d)
    × ((c + 16 * d + 256 * e + 4096 * f) / 256 % 16 ≡ e) × ((c + 16 * d + 256 * e + 4096 * f) / 4096 ≡ f)
four c d e f hc hd he = (omega arith, omega arith, omega arith, omega arith)

few_again : (n c d e f g : ℕ) → c < 16 → d < 16 → e < 16 → g < 16
    → ((i : ℕ) → n ≤ i → slice_index (c ∷ d ∷ e ∷ f ∷ g ∷ []) i ≡ 0)
    → few (g + 16 * n) (c + 16 * d + 256 * e + 4096 * f) ≡ Few n (c ∷ d ∷ e ∷ f ∷ g ∷ [])
few_again n c d e f g hc hd he hg none =
    let u = four c d e f hc hd he in
    rw (lower g n hg, upper g n hg, u.0, u.1, u.2, u.3, kept n 0 c (none 0), kept n 1 d (none 1), kept n 2 e (none 2), kept n 3 f (none 3), kept n 4 g (none 4)) refl

-- the units of five places
record Five (op i n c d e f g : ℕ) (units : List ℕ) : Type 0 where
  fits_n : n < 6
  fits_c : c < 16
  fits_d : d < 16
  fits_e : e < 16
  fits_g : g < 16
  are : units ≡ (op + 256 * (g + 16 * n)) ∷ i ∷ (c + 16 * d + 256 * e + 4096 * f) ∷ []

-- a number that passes a limit goes on as it is
passed : {B : Type 0} (limit n : ℕ) (f : ℕ → Option B) (y : B) → (number_below limit n >>= f) ≡ Some y → (n < limit) × (f n ≡ Some y)
passed limit n f y e =
    let found = bind_some (number_below limit n) f y e in
    let fits = below_some limit n found.0 found.1.0 in
    let P : ℕ → Type 0 = λ x. f x ≡ Some y in
    (fits.0, subst P fits.1 found.1.1)

five_some : (op i n c d e f g : ℕ) (units : List ℕ) → few_of op i n (c ∷ d ∷ e ∷ f ∷ g ∷ []) ≡ Some units → Five op i n c d e f g units
five_some op i n c d e f g units is =
    let pn = passed 6 n (λ n. number_below 16 c >>= (λ c. number_below 16 d >>= (λ d. number_below 16 e >>= (λ e. number_below 16 f >>= (λ f. number_below 16 g >>= (λ g. as_units ((op + 256 * (g + 16 * n)) ∷ i ∷ (c + 16 * d + 256 * e + 4096 * f) ∷ []))))))) units is in
    let pc = passed 16 c (λ c. number_below 16 d >>= (λ d. number_below 16 e >>= (λ e. number_below 16 f >>= (λ f. number_below 16 g >>= (λ g. as_units ((op + 256 * (g + 16 * n)) ∷ i ∷ (c + 16 * d + 256 * e + 4096 * f) ∷ [])))))) units pn.1 in
    let pd = passed 16 d (λ d. number_below 16 e >>= (λ e. number_below 16 f >>= (λ f. number_below 16 g >>= (λ g. as_units ((op + 256 * (g + 16 * n)) ∷ i ∷ (c + 16 * d + 256 * e + 4096 * f) ∷ []))))) units pc.1 in
    let pe = passed 16 e (λ e. number_below 16 f >>= (λ f. number_below 16 g >>= (λ g. as_units ((op + 256 * (g + 16 * n)) ∷ i ∷ (c + 16 * d + 256 * e + 4096 * f) ∷ [])))) units pd.1 in
    let pf = passed 16 f (λ f. number_below 16 g >>= (λ g. as_units ((op + 256 * (g + 16 * n)) ∷ i ∷ (c + 16 * d + 256 * e + 4096 * f) ∷ []))) units pe.1 in
    let pg = passed 16 g (λ g. as_units ((op + 256 * (g + 16 * n)) ∷ i ∷ (c + 16 * d + 256 * e + 4096 * f) ∷ [])) units pf.1 in
    record {
      fits_n = pn.0;
      fits_c = pc.0;
      fits_d = pd.0;
      fits_e = pe.0;
      fits_g = pg.0;
      are = units_some ((op + 256 * (g + 16 * n)) ∷ i ∷ (c + 16 * d + 256 * e + 4096 * f) ∷ []) units pg.1;
    }

-- the high byte and the unit of registers named one by one
record FewSay (op i : ℕ) (regs : RawRegs) (units : List ℕ) : Type 0 where
  high : ℕ
  unit : ℕ
  are : units ≡ (op + 256 * high) ∷ i ∷ unit ∷ []
  fits : nat_lt 5 (high / 16) ≡ false
  regs_are : few high unit ≡ regs

few_fits : (g n : ℕ) → g < 16 → n < 6 → nat_lt 5 ((g + 16 * n) / 16) ≡ false
few_fits g n hg hn = rw (upper g n hg) (grind (arith, nat_tests))

again_few : (op i : ℕ) (regs : RawRegs) (units : List ℕ) → few_units op i regs ≡ Some units → AreFew regs → FewSay op i regs units
again_few op i (Few n (c ∷ d ∷ e ∷ f ∷ g ∷ [])) units is are =
    let five = five_some op i n c d e f g units is in
    record {
      high = g + 16 * n;
      unit = c + 16 * d + 256 * e + 4096 * f;
      are = five.are;
      fits = few_fits g n five.fits_g five.fits_n;
      regs_are = few_again n c d e f g five.fits_c five.fits_d five.fits_e five.fits_g are.1;
    }
again_few op i (Few n regs) units is are = cc
again_few op i (Run first n) units is are = cc

names_few : (w : Listing) (i : ℕ) (regs : RawRegs) → NamesFew (listing_body w i regs) → AreFew regs
names_few listing.Filled i regs h = h
names_few (listing.Invoke how) i regs h = h

again_35c : (w : Listing) (op : ℕ) (body : RawBody) (units rest : List ℕ) → units_35c op body ≡ Some units
    → without_operands body ≡ without_operands (listing_body w 0 (Few 0 (0 ∷ 0 ∷ 0 ∷ 0 ∷ 0 ∷ []))) → NamesFew body → Says (F35c w) op body units rest
again_35c w op body units rest e h fits =
    let o = bind_some (listing_of body) (λ p. few_units op p.0 p.1) units e in
    let b = from_listing w body (Few 0 (0 ∷ 0 ∷ 0 ∷ 0 ∷ 0 ∷ [])) o.0 h o.1.0 in
    let s = again_few op o.0.0 o.0.1 units o.1.1 (names_few w o.0.0 o.0.1 (subst NamesFew (sym b.0) fits)) in
    record {
      high = s.high;
      tail = o.0.0 ∷ s.unit ∷ [];
      are = s.are;
      passes = s.fits;
      whole = refl;
      body_is = ap (listing_body w o.0.0) s.regs_are ∙ b.0;
    }

-- the instruction of each row
pub by_row : (row : Row) (op : ℕ) (body : RawBody) (units rest : List ℕ) → units_by row op body ≡ Some units
    → without_operands body ≡ without_operands (body_of row 0 []) → NamesFew body → Says row op body units rest
by_row (F10x w) op body units rest e h few =
    bare_says (F10x w) op body units rest [] e refl refl (from_plain w body h)
by_row (F12x w) op body units rest e h few =
    let o = bind_some (pair_of body) (λ p. alone (with_pair op p.0 p.1)) units e in
    pair_says (F12x w) op body units rest o.0.0 o.0.1 [] o.1.1 refl refl
    (λ l. rw (lower o.0.0 o.0.1 l, upper o.0.0 o.0.1 l) (from_pair w body o.0 h o.1.0))
by_row F11n op body units rest e h few =
    let o = bind_some (literal_of 8 body) (λ p. alone (with_pair op p.0 p.1)) units e in
    pair_says F11n op body units rest o.0.0 o.0.1 [] o.1.1 refl refl
    (λ l. rw (lower o.0.0 o.0.1 l, upper o.0.0 o.0.1 l) (from_literal 8 literal.Int body o.0 (omega arith) h o.1.0))
by_row (F11x w) op body units rest e h few =
    let o = bind_some (single_of body) (λ a. alone (with_byte op a)) units e in
    byte_says (F11x w) op body units rest o.0 [] o.1.1 refl refl (from_single w body o.0 h o.1.0)
by_row F10t op body units rest e h few =
    let o = bind_some (goto_of 128 body) (λ a. alone (with_byte op a)) units e in
    byte_says F10t op body units rest o.0 [] o.1.1 refl refl (from_goto 128 body o.0 o.1.0)
by_row F20t op body units rest e h few =
    let o = bind_some (goto_of 32768 body) (λ n. with_unit (Some op) n) units e in
    bare_says F20t op body units rest (o.0 ∷ []) o.1.1 refl refl (from_goto 32768 body o.0 o.1.0)
by_row (F22x k) op body units rest e h few =
    let o = bind_some (pair_of body) (λ p. with_unit (with_byte op p.0) p.1) units e in
    byte_says (F22x k) op body units rest o.0.0 (o.0.1 ∷ []) o.1.1 refl refl (from_pair (pair.Move k) body o.0 h o.1.0)
by_row (F21t c) op body units rest e h few =
    let o = bind_some (test_of 32768 body) (λ p. with_unit (with_byte op p.0) p.1) units e in
    byte_says (F21t c) op body units rest o.0.0 (o.0.1 ∷ []) o.1.1 refl refl (from_test 32768 c body o.0 h o.1.0)
by_row (F21s w) op body units rest e h few =
    let o = bind_some (literal_of 32768 body) (λ p. with_unit (with_byte op p.0) p.1) units e in
    byte_says (F21s w) op body units rest o.0.0 (o.0.1 ∷ []) o.1.1 refl refl (from_literal 32768 w body o.0 (omega arith) h o.1.0)
by_row (F21h w) op body units rest e h few =
    let o = bind_some (high_of body) (λ p. with_unit (with_byte op p.0) p.1) units e in
    byte_says (F21h w) op body units rest o.0.0 (o.0.1 ∷ []) o.1.1 refl refl (from_high w body o.0 h o.1.0)
by_row (F21c w) op body units rest e h few =
    let o = bind_some (named_of body) (λ p. with_unit (with_byte op p.0) p.1) units e in
    byte_says (F21c w) op body units rest o.0.0 (o.0.1 ∷ []) o.1.1 refl refl (from_named w body o.0 h o.1.0)
by_row (F23x w) op body units rest e h few =
    let o = bind_some (triple_of body) (λ p. three_bytes op (Some p)) units e in
    three_bytes_say (F23x w) op body units rest o.0.0 o.0.1 o.0.2 o.1.1 refl refl
    (λ l. rw (low_byte o.0.1 o.0.2 l, high_byte o.0.1 o.0.2 l) (from_triple w body o.0 h o.1.0))
by_row (F22b k) op body units rest e h few =
    let o = bind_some (with_literal_of 128 body) (λ p. three_bytes op (Some p)) units e in
    three_bytes_say (F22b k) op body units rest o.0.0 o.0.1 o.0.2 o.1.1 refl refl
    (λ l. rw (low_byte o.0.1 o.0.2 l, high_byte o.0.1 o.0.2 l) (from_with_literal 128 k body o.0 (omega arith) h o.1.0))
by_row (F22t c) op body units rest e h few =
    let o = bind_some (compare_of 32768 body) (λ p. with_unit (with_pair op p.0 p.1) p.2) units e in
    pair_says (F22t c) op body units rest o.0.0 o.0.1 (o.0.2 ∷ []) o.1.1 refl refl
    (λ l. rw (lower o.0.0 o.0.1 l, upper o.0.0 o.0.1 l) (from_compare 32768 c body o.0 h o.1.0))
by_row (F22s k) op body units rest e h few =
    let o = bind_some (with_literal_of 32768 body) (λ p. with_unit (with_pair op p.0 p.1) p.2) units e in
    pair_says (F22s k) op body units rest o.0.0 o.0.1 (o.0.2 ∷ []) o.1.1 refl refl
    (λ l. rw (lower o.0.0 o.0.1 l, upper o.0.0 o.0.1 l) (from_with_literal 32768 k body o.0 (omega arith) h o.1.0))
by_row (F22c w) op body units rest e h few =
    let o = bind_some (named_pair_of body) (λ p. with_unit (with_pair op p.0 p.1) p.2) units e in
    pair_says (F22c w) op body units rest o.0.0 o.0.1 (o.0.2 ∷ []) o.1.1 refl refl
    (λ l. rw (lower o.0.0 o.0.1 l, upper o.0.0 o.0.1 l) (from_named_pair w body o.0 h o.1.0))
by_row F30t op body units rest e h few =
    let o = bind_some (goto_of 2147483648 body) (λ n. with_word (Some op) n) units e in
    bare_says F30t op body units rest (o.0 % 65536 ∷ o.0 / 65536 ∷ []) o.1.1 refl refl
    (rw (word_again o.0) (from_goto 2147483648 body o.0 o.1.0))
by_row (F32x k) op body units rest e h few =
    let o = bind_some (pair_of body) (λ p. as_units (op ∷ p.0 ∷ p.1 ∷ [])) units e in
    bare_says (F32x k) op body units rest (o.0.0 ∷ o.0.1 ∷ []) o.1.1 refl refl (from_pair (pair.Move k) body o.0 h o.1.0)
by_row (F31i w) op body units rest e h few =
    let o = bind_some (literal_of 2147483648 body) (λ p. with_word (with_byte op p.0) p.1) units e in
    byte_says (F31i w) op body units rest o.0.0 (o.0.1 % 65536 ∷ o.0.1 / 65536 ∷ []) o.1.1 refl refl
    (rw (word_again o.0.1) (from_literal 2147483648 w body o.0 (omega arith) h o.1.0))
by_row (F31t w) op body units rest e h few =
    let o = bind_some (payload_of 2147483648 body) (λ p. with_word (with_byte op p.0) p.1) units e in
    byte_says (F31t w) op body units rest o.0.0 (o.0.1 % 65536 ∷ o.0.1 / 65536 ∷ []) o.1.1 refl refl
    (rw (word_again o.0.1) (from_payload w body o.0 h o.1.0))
by_row F31c op body units rest e h few =
    let o = bind_some (named_of body) (λ p. with_word (with_byte op p.0) p.1) units e in
    byte_says F31c op body units rest o.0.0 (o.0.1 % 65536 ∷ o.0.1 / 65536 ∷ []) o.1.1 refl refl
    (rw (word_again o.0.1) (from_named named.ConstString body o.0 h o.1.0))
by_row (F35c w) op body units rest e h few = again_35c w op body units rest e h few
by_row (F3rc w) op body units rest e h few = again_3rc w op body units rest e h
by_row F51l op body units rest e h few = again_51l op body units rest e h
