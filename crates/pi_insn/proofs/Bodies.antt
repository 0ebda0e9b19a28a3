-- An instruction that is in the table and has a format's operands is the one that reading makes of them.
use Rattle.std.proofs.Common.{◌≡◌, ℕ, ◌^◌, ◌≤◌, ◌==◌, true, Some, None, pos, refl, ap, arith}
use Rattle.std.specs.Prelude.{if◌then◌else◌}
use Rattle.std.proofs.lemmas.Bool.Decides.{nat_tests}
use Rattle.pi_model.specs.declared.insn.Cond.{Cond}
use Rattle.pi_model.specs.declared.insn.BinOp.{BinOp}
use Rattle.pi_insn.specs.declared.table.Plain.{Plain}
use Rattle.pi_insn.specs.declared.table.Plain.TheVariants as plain
use Rattle.pi_insn.specs.declared.table.Single.{Single}
use Rattle.pi_insn.specs.declared.table.Single.TheVariants as single
use Rattle.pi_insn.specs.declared.table.Pair.{Pair}
use Rattle.pi_insn.specs.declared.table.Pair.TheVariants as pair
use Rattle.pi_insn.specs.declared.table.Triple.{Triple}
use Rattle.pi_insn.specs.declared.table.Triple.TheVariants as triple
use Rattle.pi_insn.specs.declared.table.Literal.{Literal}
use Rattle.pi_insn.specs.declared.table.Literal.TheVariants as literal
use Rattle.pi_insn.specs.declared.table.Named.{Named}
use Rattle.pi_insn.specs.declared.table.Named.TheVariants as named
use Rattle.pi_insn.specs.declared.table.NamedPair.{NamedPair}
use Rattle.pi_insn.specs.declared.table.NamedPair.TheVariants as named_pair
use Rattle.pi_insn.specs.declared.table.Payloads.{Payloads}
use Rattle.pi_insn.specs.declared.table.Payloads.TheVariants as payloads
use Rattle.pi_insn.specs.declared.table.Listing.{Listing}
use Rattle.pi_insn.specs.declared.table.Listing.TheVariants as listing
use Rattle.pi_insn.specs.declared.raw.RawBody.{RawBody}
use Rattle.pi_insn.specs.declared.raw.RawBody.TheVariants.{Nop, Move, MoveResult, MoveException, ReturnVoid, Return, Const, ConstWide, ConstString, ConstClass, Monitor, CheckCast, InstanceOf, ArrayLength, NewInstance, NewArray, Filled, FillArray, Throw, Goto, Switch, CmpLong, If, IfZ, Aget, Aput, Iget, Iput, Sget, Sput, Invoke, Unary, Binary, BinaryLit}
use Rattle.pi_insn.specs.declared.raw.RawRegs.{RawRegs}
use Rattle.pi_insn.specs.Numbers.{signed_number, signed_extension, bits, short_bits, exact_quotient}
use Rattle.pi_insn.specs.Reading.{plain_body, single_body, pair_body, triple_body, literal_body, high_body, named_body, named_pair_body, payload_body, listing_body}
use Rattle.pi_insn.specs.Writing.{single_of, pair_of, triple_of, literal_of, high_of, named_of, named_pair_of, payload_of, goto_of, test_of, compare_of, with_literal_of, listing_of, without_operands, zero_regs}
use Rattle.pi_insn.proofs.Steps.{last_some, chosen, bits_some, shortened_some, shifted_some}

pub from_plain : (w : Plain) (body : RawBody) → without_operands body ≡ without_operands (plain_body w) → plain_body w ≡ body
from_plain plain.Nop Nop h = refl
from_plain plain.ReturnVoid ReturnVoid h = refl
from_plain w body h = cc

pub from_single : (w : Single) (body : RawBody) (a : ℕ) → without_operands body ≡ without_operands (single_body w 0)
    → single_of body ≡ Some a → single_body w a ≡ body
from_single (single.MoveResult k) (MoveResult j x) a h e = cc
from_single single.MoveException (MoveException x) a h e = cc
from_single (single.Return k) (Return j x) a h e = cc
from_single single.Monitor (Monitor x) a h e = cc
from_single single.Throw (Throw x) a h e = cc
from_single w body a h e = cc

binary_pair : (x y z : ℕ) (p : ℕ × ℕ) → (if x == y then Some (x, z) else None) ≡ Some p → (x ≡ y) × (p ≡ (x, z))
binary_pair x y z p e =
    let found = chosen (x == y) (x, z) p e in
    let test : (x == y) ≡ true = found.0 in
    (grind (arith, nat_tests), found.1)

pub from_pair : (w : Pair) (body : RawBody) (p : ℕ × ℕ) → without_operands body ≡ without_operands (pair_body w 0 0)
    → pair_of body ≡ Some p → pair_body w p.0 p.1 ≡ body
from_pair (pair.Move k) (Move j x y) p h e = cc
from_pair pair.ArrayLength (ArrayLength x y) p h e = cc
from_pair (pair.Unary op) (Unary o x y) p h e = cc
from_pair (pair.Binary op) (Binary o x y z) p h e =
    let found = binary_pair x y z p e in
    let same : x ≡ y = found.0 in
    let is : p ≡ (x, z) = found.1 in
    let first : p.0 ≡ x = ap (λ (q : ℕ × ℕ). q.0) is in
    let second : p.1 ≡ z = ap (λ (q : ℕ × ℕ). q.1) is in
    cc
from_pair w body p h e = cc

pub from_triple : (w : Triple) (body : RawBody) (p : ℕ × ℕ × ℕ) → without_operands body ≡ without_operands (triple_body w 0 0 0)
    → triple_of body ≡ Some p → triple_body w p.0 p.1 p.2 ≡ body
from_triple triple.CmpLong (CmpLong x y z) p h e = cc
from_triple (triple.Aget k) (Aget j x y z) p h e = cc
from_triple (triple.Aput k) (Aput j x y z) p h e = cc
from_triple (triple.Binary op) (Binary o x y z) p h e = cc
from_triple w body p h e = cc

pub from_named : (w : Named) (body : RawBody) (p : ℕ × ℕ) → without_operands body ≡ without_operands (named_body w 0 0)
    → named_of body ≡ Some p → named_body w p.0 p.1 ≡ body
from_named named.ConstString (ConstString x i) p h e = cc
from_named named.ConstClass (ConstClass x i) p h e = cc
from_named named.CheckCast (CheckCast x i) p h e = cc
from_named named.NewInstance (NewInstance x i) p h e = cc
from_named (named.Sget k) (Sget j x i) p h e = cc
from_named (named.Sput k) (Sput j x i) p h e = cc
from_named w body p h e = cc

pub from_named_pair : (w : NamedPair) (body : RawBody) (p : ℕ × ℕ × ℕ) → without_operands body ≡ without_operands (named_pair_body w 0 0 0)
    → named_pair_of body ≡ Some p → named_pair_body w p.0 p.1 p.2 ≡ body
from_named_pair named_pair.InstanceOf (InstanceOf x y i) p h e = cc
from_named_pair named_pair.NewArray (NewArray x y i) p h e = cc
from_named_pair (named_pair.Iget k) (Iget j x y i) p h e = cc
from_named_pair (named_pair.Iput k) (Iput j x y i) p h e = cc
from_named_pair w body p h e = cc

pub from_listing : (w : Listing) (body : RawBody) (none : RawRegs) (p : ℕ × RawRegs) → without_operands body ≡ without_operands (listing_body w 0 none)
    → listing_of body ≡ Some p → (listing_body w p.0 p.1 ≡ body) × (zero_regs p.1 ≡ zero_regs none)
from_listing listing.Filled (Filled i regs) none p h e = (cc, cc)
from_listing (listing.Invoke how) (Invoke way i regs) none p h e = (cc, cc)
from_listing w body none p h e = cc

-- constants
pub from_literal : (half : ℕ) (w : Literal) (body : RawBody) (p : ℕ × ℕ) → half ≤ 2 ^ 31
    → without_operands body ≡ without_operands (literal_body w 0 half 0)
    → literal_of half body ≡ Some p → literal_body w p.0 half p.1 ≡ body
from_literal half literal.Int (Const x v) p few h e =
    let found = last_some (short_bits half (2 ^ 32) v) (λ n. (x, n)) p e in
    rw found.1.1 (ap (Const x) (shortened_some half (2 ^ 32) v found.0 (omega arith) found.1.0))
from_literal half literal.Long (ConstWide x v) p few h e =
    let found = last_some (short_bits half (2 ^ 64) v) (λ n. (x, n)) p e in
    rw found.1.1 (ap (ConstWide x) (shortened_some half (2 ^ 64) v found.0 (omega arith) found.1.0))
from_literal half w body p few h e = cc

pub from_high : (w : Literal) (body : RawBody) (p : ℕ × ℕ) → without_operands body ≡ without_operands (high_body w 0 0)
    → high_of body ≡ Some p → high_body w p.0 p.1 ≡ body
from_high literal.Int (Const x v) p h e =
    let found = last_some (exact_quotient (2 ^ 16) v) (λ n. (x, n)) p e in
    rw found.1.1 (ap (Const x) (shifted_some (2 ^ 16) v found.0 (omega arith) found.1.0))
from_high literal.Long (ConstWide x v) p h e =
    let found = last_some (exact_quotient (2 ^ 48) v) (λ n. (x, n)) p e in
    rw found.1.1 (ap (ConstWide x) (shifted_some (2 ^ 48) v found.0 (omega arith) found.1.0))
from_high w body p h e = cc

pub from_with_literal : (half : ℕ) (op : BinOp) (body : RawBody) (p : ℕ × ℕ × ℕ) → half ≤ 2 ^ 31
    → without_operands body ≡ BinaryLit op 0 0 0
    → with_literal_of half body ≡ Some p → BinaryLit op p.0 p.1 (signed_extension half (2 ^ 32) p.2) ≡ body
from_with_literal half op (BinaryLit o x y v) p few h e =
    let found = last_some (short_bits half (2 ^ 32) v) (λ n. (x, y, n)) p e in
    let value : signed_extension half (2 ^ 32) found.0 ≡ v = shortened_some half (2 ^ 32) v found.0 (omega arith) found.1.0 in
    rw found.1.1 cc
from_with_literal half op body p few h e = cc

-- distances
pub from_goto : (half : ℕ) (body : RawBody) (n : ℕ) → goto_of half body ≡ Some n → Goto (signed_number half n) ≡ body
from_goto half (Goto z) n e = ap Goto (bits_some half z n e)
from_goto half body n e = cc

pub from_test : (half : ℕ) (c : Cond) (body : RawBody) (p : ℕ × ℕ) → without_operands body ≡ IfZ c 0 (pos 0)
    → test_of half body ≡ Some p → IfZ c p.0 (signed_number half p.1) ≡ body
from_test half c (IfZ d x z) p h e =
    let found = last_some (bits half z) (λ n. (x, n)) p e in
    let value : signed_number half found.0 ≡ z = bits_some half z found.0 found.1.0 in
    rw found.1.1 cc
from_test half c body p h e = cc

pub from_compare : (half : ℕ) (c : Cond) (body : RawBody) (p : ℕ × ℕ × ℕ) → without_operands body ≡ If c 0 0 (pos 0)
    → compare_of half body ≡ Some p → If c p.0 p.1 (signed_number half p.2) ≡ body
from_compare half c (If d x y z) p h e =
    let found = last_some (bits half z) (λ n. (x, y, n)) p e in
    let value : signed_number half found.0 ≡ z = bits_some half z found.0 found.1.0 in
    rw found.1.1 cc
from_compare half c body p h e = cc

pub from_payload : (w : Payloads) (body : RawBody) (p : ℕ × ℕ) → without_operands body ≡ without_operands (payload_body w 0 0)
    → payload_of 2147483648 body ≡ Some p → payload_body w p.0 p.1 ≡ body
from_payload payloads.FillArray (FillArray x z) p h e =
    let found = last_some (bits 2147483648 z) (λ n. (x, n)) p e in
    rw found.1.1 (ap (FillArray x) (bits_some 2147483648 z found.0 found.1.0))
from_payload payloads.Switch (Switch x z) p h e =
    let found = last_some (bits 2147483648 z) (λ n. (x, n)) p e in
    rw found.1.1 (ap (Switch x) (bits_some 2147483648 z found.0 found.1.0))
from_payload w body p h e = cc
