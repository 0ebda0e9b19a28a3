-- The laws between reading and writing.
use Rattle.std.proofs.Common.{◌≡◌, ℕ, ◌+◌, ◌*◌, ◌/◌, ◌%◌, ◌<◌, ◌≤◌, Bool, true, false, nat_lt, List, [], ◌∷◌, ◌++◌, length, drop, slice_index, Option, Some, None, Result, Ok, Err, IsSomeAnd, IfOk, refl, sym, ◌∙◌, ap, subst, arith, zero, suc, get_or, length-append}
use Rattle.std.specs.Prelude.{if◌then◌else◌}
use Rattle.std.proofs.lemmas.Bool.Decides.{nat_tests}
use Rattle.pi_insn.specs.declared.table.Row.{Row}
use Rattle.pi_insn.specs.declared.table.Row.TheVariants.{F10x, F12x, F11n, F11x, F10t, F20t, F22x, F21t, F21s, F21h, F21c, F23x, F22b, F22t, F22s, F22c, F30t, F32x, F31i, F31t, F31c, F35c, F3rc, F51l}
use Rattle.pi_insn.specs.declared.table.Plain.{Plain}
use Rattle.pi_insn.specs.declared.table.Plain.TheVariants as plain
use Rattle.pi_insn.specs.declared.table.Single.{Single}
use Rattle.pi_insn.specs.declared.table.Single.TheVariants as single
use Rattle.pi_insn.specs.declared.table.Pair.{Pair}
use Rattle.pi_insn.specs.declared.table.Pair.TheVariants as pair
use Rattle.pi_insn.specs.declared.table.Triple.{Triple}
use Rattle.pi_insn.specs.declared.table.Triple.TheVariants as triple
use Rattle.pi_insn.specs.declared.table.Literal.{Literal}
use Rattle.pi_insn.specs.declared.table.Literal.TheVariants as literal
use Rattle.pi_insn.specs.declared.table.Named.{Named}
use Rattle.pi_insn.specs.declared.table.Named.TheVariants as named
use Rattle.pi_insn.specs.declared.table.NamedPair.{NamedPair}
use Rattle.pi_insn.specs.declared.table.NamedPair.TheVariants as named_pair
use Rattle.pi_insn.specs.declared.table.Payloads.{Payloads}
use Rattle.pi_insn.specs.declared.table.Payloads.TheVariants as payloads
use Rattle.pi_insn.specs.declared.table.Listing.{Listing}
use Rattle.pi_insn.specs.declared.table.Listing.TheVariants as listing
use Rattle.pi_insn.specs.declared.raw.RawBody.{RawBody}
use Rattle.pi_insn.specs.declared.raw.RawBody.TheVariants.{Filled, Invoke}
use Rattle.pi_insn.specs.declared.raw.RawRegs.{RawRegs}
use Rattle.pi_insn.specs.declared.raw.RawRegs.TheVariants.{Run}
use Rattle.pi_insn.specs.declared.raw.RawInsn.{RawInsn}
use Rattle.pi_insn.specs.declared.raw.InsnError.{InsnError}
use Rattle.pi_insn.specs.declared.raw.InsnError.TheVariants.{Unsupported, Cut}
use Rattle.pi_insn.specs.Numbers.{word}
use Rattle.pi_insn.specs.Table.{row_of, units_of, refuses}
use Rattle.pi_insn.specs.Reading.{plain_body, single_body, pair_body, triple_body, literal_body, high_body, named_body, named_pair_body, payload_body, listing_body, few, place, body_of, insn, row_insn, insn_where, insn_in, insn_at}
use Rattle.pi_insn.specs.Writing.{units_by, units_where, encoding, without_operands, zero_regs, AreFew, NamesFew, IsInTable}
use Rattle.pi_insn.specs.declared.rows.TheConstants.{ROWS}
use Rattle.pi_insn.proofs.Wide.{by_row}

-- only opcodes of eight bits have rows
beyond : {A : Type 0} (xs : List (Option A)) (i : ℕ) (x : A) → get_or xs i None ≡ Some x → i < length xs
beyond [] i x e = cc
beyond (y ∷ ys) zero x e = omega arith
beyond (y ∷ ys) (suc i) x e = let h = beyond ys i x e in omega arith

eight_bits : (op : ℕ) (row : Row) → row_of op ≡ Some row → op < 256
unfolding row_of
eight_bits op row e = beyond ROWS op row e

-- reading a row's units
reads : (op : ℕ) (row : Row) (high : ℕ) (rest : List ℕ) → op < 256 → row_of op ≡ Some row → refuses row high ≡ false
    → units_of row ≤ length rest + 1 → insn_in ((op + 256 * high) ∷ rest) ≡ Ok (insn op (body_of row high rest), units_of row)
unfolding row_insn
reads op row high rest less is passes enough =
    let low : (op + 256 * high) % 256 ≡ op = omega arith in
    let up : (op + 256 * high) / 256 ≡ high = omega arith in
    let whole : nat_lt (length rest + 1) (units_of row) ≡ false = grind (arith, nat_tests) in
    rw (low, up, is, passes, whole) refl

-- the row of an instruction that was written
row_there : (o : Option Row) (op : ℕ) (body : RawBody) (units : List ℕ) → units_where o op body ≡ Some units
    → IsSomeAnd o (λ row. without_operands body ≡ without_operands (body_of row 0 []))
    → (row : Row) × ((o ≡ Some row) × (units_by row op body ≡ Some units) × (without_operands body ≡ without_operands (body_of row 0 [])))
row_there None op body units e h = cc
row_there (Some row) op body units e h = (row, (refl, e, h))

drop_front : (before rest : List ℕ) → drop (length before) (before ++ rest) ≡ rest
drop_front [] rest = refl
drop_front (x ∷ before) rest = drop_front before rest

-- the same instruction, given by its parts
whole_insn : (i : RawInsn) (body : RawBody) → body ≡ i.body → insn i.op body ≡ i
whole_insn i body e = ap (insn i.op) e

written_again : (i : RawInsn) (units rest : List ℕ) → IsInTable i → encoding i ≡ Some units → insn_in (units ++ rest) ≡ Ok (i, length units)
unfolding encoding
written_again i units rest there is =
    let r = row_there (row_of i.op) i.op i.body units is there.listed in
    let s = by_row r.0 i.op i.body units rest r.1.1 r.1.2 there.registers in
    let enough : units_of r.0 ≤ length (s.tail ++ rest) + 1 = simp length-append (omega (arith, s.whole)) in
    let read_is = reads i.op r.0 s.high (s.tail ++ rest) (eight_bits i.op r.0 r.1.0) r.1.0 s.passes enough in
    let long_is : units_of r.0 ≡ length ((i.op + 256 * s.high) ∷ s.tail) = omega (arith, s.whole) in
    let P : List ℕ → Type 0 = λ us. insn_in (us ++ rest) ≡ Ok (i, length us) in
    subst P (sym s.are) (read_is ∙ ap (λ (q : RawInsn × ℕ). Ok q) (rw (whole_insn i (body_of r.0 s.high (s.tail ++ rest)) s.body_is, long_is) refl))

pub written_is_read : (i : RawInsn) (units before rest : List ℕ) → IsInTable i → encoding i ≡ Some units
    → insn_at (before ++ (units ++ rest)) (length before) ≡ Ok (i, length units)
written_is_read i units before rest there is = rw (drop_front before (units ++ rest)) (written_again i units rest there is)

-- the answer of reading by its two tests
answer : Bool → Bool → ℕ → RawInsn × ℕ → Result (RawInsn × ℕ) InsnError
answer refused cut op found = if refused then Err (Unsupported op) else if cut then Err Cut else Ok found

read_ok : (refused cut : Bool) (op : ℕ) (found : RawInsn × ℕ) (i : RawInsn) (n : ℕ) → answer refused cut op found ≡ Ok (i, n)
    → (refused ≡ false) × (found.0 ≡ i)
unfolding answer
read_ok true cut op found i n e = cc
read_ok false true op found i n e = cc
read_ok false false op found i n e =
    let same : found ≡ (i, n) = cc in
    (refl, ap (λ (q : RawInsn × ℕ). q.0) same)

-- what was read: the row, which does not refuse it, and its operands
pub read_there : (op : ℕ) (o : Option Row) (high : ℕ) (rest : List ℕ) (i : RawInsn) (n : ℕ) → insn_where op o high rest ≡ Ok (i, n)
    → (row : Row) × ((o ≡ Some row) × (refuses row high ≡ false) × (insn op (body_of row high rest) ≡ i))
unfolding row_insn answer
read_there op None high rest i n e = cc
read_there op (Some row) high rest i n e =
    let ok = read_ok (refuses row high) (nat_lt (length rest + 1) (units_of row)) op (insn op (body_of row high rest), units_of row) i n e in
    (row, (refl, ok.0, ok.1))

-- registers named one by one are at most five, with nothing behind them
none_behind : (n i r : ℕ) → n ≤ i → place n i r ≡ 0
none_behind n i r h = grind (arith, nat_tests)

behind : (n c d e f g i : ℕ) → n ≤ i → slice_index (place n 0 c ∷ place n 1 d ∷ place n 2 e ∷ place n 3 f ∷ place n 4 g ∷ []) i ≡ 0
behind n c d e f g zero h = none_behind n 0 c h
behind n c d e f g (suc zero) h = none_behind n 1 d h
behind n c d e f g (suc (suc zero)) h = none_behind n 2 e h
behind n c d e f g (suc (suc (suc zero))) h = none_behind n 3 f h
behind n c d e f g (suc (suc (suc (suc zero)))) h = none_behind n 4 g h
behind n c d e f g (suc (suc (suc (suc (suc i))))) h = refl

pub at_most_five : (high : ℕ) → nat_lt 5 (high / 16) ≡ false → high / 16 ≤ 5
at_most_five high e = grind (arith, nat_tests)

are_few : (high u : ℕ) → nat_lt 5 (high / 16) ≡ false → AreFew (few high u)
are_few high u e = (at_most_five high e, λ i h. behind (high / 16) (u % 16) (u / 16 % 16) (u / 256 % 16) (u / 4096) (high % 16) i h)

-- whatever its operands, a body is of the same instruction as another, and names at most five registers one by one
abbrev Alike : RawBody → RawBody → Type 0
Alike body other = (without_operands body ≡ without_operands other) × NamesFew body

single_alike : (w : Single) (a x : ℕ) → Alike (single_body w a) (single_body w x)
single_alike (single.MoveResult k) a x = (refl, tt)
single_alike single.MoveException a x = (refl, tt)
single_alike (single.Return k) a x = (refl, tt)
single_alike single.Monitor a x = (refl, tt)
single_alike single.Throw a x = (refl, tt)

pair_alike : (w : Pair) (a b x y : ℕ) → Alike (pair_body w a b) (pair_body w x y)
pair_alike (pair.Move k) a b x y = (refl, tt)
pair_alike pair.ArrayLength a b x y = (refl, tt)
pair_alike (pair.Unary op) a b x y = (refl, tt)
pair_alike (pair.Binary op) a b x y = (refl, tt)

triple_alike : (w : Triple) (a b c x y z : ℕ) → Alike (triple_body w a b c) (triple_body w x y z)
triple_alike triple.CmpLong a b c x y z = (refl, tt)
triple_alike (triple.Aget k) a b c x y z = (refl, tt)
triple_alike (triple.Aput k) a b c x y z = (refl, tt)
triple_alike (triple.Binary op) a b c x y z = (refl, tt)

literal_alike : (w : Literal) (half a n x m : ℕ) → Alike (literal_body w a half n) (literal_body w x half m)
literal_alike literal.Int half a n x m = (refl, tt)
literal_alike literal.Long half a n x m = (refl, tt)

high_alike : (w : Literal) (a n x m : ℕ) → Alike (high_body w a n) (high_body w x m)
high_alike literal.Int a n x m = (refl, tt)
high_alike literal.Long a n x m = (refl, tt)

named_alike : (w : Named) (a i x j : ℕ) → Alike (named_body w a i) (named_body w x j)
named_alike named.ConstString a i x j = (refl, tt)
named_alike named.ConstClass a i x j = (refl, tt)
named_alike named.CheckCast a i x j = (refl, tt)
named_alike named.NewInstance a i x j = (refl, tt)
named_alike (named.Sget k) a i x j = (refl, tt)
named_alike (named.Sput k) a i x j = (refl, tt)

named_pair_alike : (w : NamedPair) (a b i x y j : ℕ) → Alike (named_pair_body w a b i) (named_pair_body w x y j)
named_pair_alike named_pair.InstanceOf a b i x y j = (refl, tt)
named_pair_alike named_pair.NewArray a b i x y j = (refl, tt)
named_pair_alike (named_pair.Iget k) a b i x y j = (refl, tt)
named_pair_alike (named_pair.Iput k) a b i x y j = (refl, tt)

payload_alike : (w : Payloads) (a n x m : ℕ) → Alike (payload_body w a n) (payload_body w x m)
payload_alike payloads.FillArray a n x m = (refl, tt)
payload_alike payloads.Switch a n x m = (refl, tt)

listing_alike : (w : Listing) (i j : ℕ) (regs others : RawRegs) → zero_regs regs ≡ zero_regs others → AreFew regs
    → Alike (listing_body w i regs) (listing_body w j others)
listing_alike listing.Filled i j regs others e few = (ap (Filled 0) e, few)
listing_alike (listing.Invoke how) i j regs others e few = (ap (Invoke how 0) e, few)

plain_alike : (w : Plain) → Alike (plain_body w) (plain_body w)
plain_alike plain.Nop = (refl, tt)
plain_alike plain.ReturnVoid = (refl, tt)

row_alike : (row : Row) (high : ℕ) (rest : List ℕ) → refuses row high ≡ false → Alike (body_of row high rest) (body_of row 0 [])
row_alike (F10x w) high rest e = plain_alike w
row_alike (F12x w) high rest e = pair_alike w (high % 16) (high / 16) 0 0
row_alike F11n high rest e = (refl, tt)
row_alike (F11x w) high rest e = single_alike w high 0
row_alike F10t high rest e = (refl, tt)
row_alike F20t high rest e = (refl, tt)
row_alike (F22x k) high rest e = (refl, tt)
row_alike (F21t c) high rest e = (refl, tt)
row_alike (F21s w) high rest e = literal_alike w 32768 high (slice_index rest 0) 0 0
row_alike (F21h w) high rest e = high_alike w high (slice_index rest 0) 0 0
row_alike (F21c w) high rest e = named_alike w high (slice_index rest 0) 0 0
row_alike (F23x w) high rest e = triple_alike w high (slice_index rest 0 % 256) (slice_index rest 0 / 256) 0 0 0
row_alike (F22b k) high rest e = (refl, tt)
row_alike (F22t c) high rest e = (refl, tt)
row_alike (F22s k) high rest e = (refl, tt)
row_alike (F22c w) high rest e = named_pair_alike w (high % 16) (high / 16) (slice_index rest 0) 0 0 0
row_alike F30t high rest e = (refl, tt)
row_alike (F32x k) high rest e = (refl, tt)
row_alike (F31i w) high rest e = literal_alike w 2147483648 high (word rest 0) 0 0
row_alike (F31t w) high rest e = payload_alike w high (word rest 0) 0 0
row_alike F31c high rest e = (refl, tt)
row_alike (F35c w) high rest e = listing_alike w (slice_index rest 0) 0 (few high (slice_index rest 1)) (few 0 0) refl (are_few high (slice_index rest 1) e)
row_alike (F3rc w) high rest e = listing_alike w (slice_index rest 0) 0 (Run (slice_index rest 1) high) (Run 0 0) refl tt
row_alike F51l high rest e = (refl, tt)

listed_there : (o : Option Row) (row : Row) (body : RawBody) → o ≡ Some row → without_operands body ≡ without_operands (body_of row 0 [])
    → IsSomeAnd o (λ row. without_operands body ≡ without_operands (body_of row 0 []))
listed_there o row body e h =
    let P : Option Row → Type 0 = λ o. IsSomeAnd o (λ row. without_operands body ≡ without_operands (body_of row 0 [])) in
    subst P (sym e) h

where_in_table : (op high : ℕ) (rest : List ℕ) (i : RawInsn) (n : ℕ) → insn_where op (row_of op) high rest ≡ Ok (i, n) → IsInTable i
where_in_table op high rest i n e =
    let r = read_there op (row_of op) high rest i n e in
    let alike = row_alike r.0 high rest r.1.1 in
    subst IsInTable r.1.2 (record {
      listed = listed_there (row_of op) r.0 (body_of r.0 high rest) r.1.0 alike.0;
      registers = alike.1;
    })

pub read_is_in_table : (units : List ℕ) (i : RawInsn) (n : ℕ) → insn_in units ≡ Ok (i, n) → IsInTable i
read_is_in_table [] i n e = cc
read_is_in_table (unit ∷ rest) i n e = where_in_table (unit % 256) (unit / 256) rest i n e

-- what reading answers may be written
pub may_be_written : (op high : ℕ) (rest : List ℕ) (r : Result (RawInsn × ℕ) InsnError) → r ≡ insn_where op (row_of op) high rest
    → IfOk r (λ found. IsInTable found.0)
may_be_written op high rest (Ok found) e = where_in_table op high rest found.0 found.1 (sym e)
may_be_written op high rest (Err fault) e = tt
