-- The published list of opcodes, in its order: what stands from an opcode on, one opcode after another. The table of
-- the code is this list, with nothing in the gaps.
use Rattle.std.proofs.Common.{◌≡◌, ℕ, ◌+◌, ◌-◌, List, [], ◌∷◌, ◌++◌, Option, Some, None, map, replicate, length, refl}
use Rattle.pi_model.specs.declared.insn.Kind.{Kind}
use Rattle.pi_model.specs.declared.insn.Kind.TheVariants as kind
use Rattle.pi_model.specs.declared.insn.Access.{Access}
use Rattle.pi_model.specs.declared.insn.Access.TheVariants as access
use Rattle.pi_model.specs.declared.insn.Cond.{Cond}
use Rattle.pi_model.specs.declared.insn.Cond.TheVariants as cond
use Rattle.pi_model.specs.declared.insn.How.{How}
use Rattle.pi_model.specs.declared.insn.How.TheVariants as how
use Rattle.pi_model.specs.declared.insn.Arith.TheVariants as arith
use Rattle.pi_model.specs.declared.insn.BinOp.{BinOp}
use Rattle.pi_model.specs.declared.insn.BinOp.TheVariants.{Add, Sub, Rsub, Mul, Div, Rem, And, Or, Xor, Shl, Shr, Ushr}
use Rattle.pi_model.specs.declared.insn.UnOp.TheVariants.{NegInt, NotInt, NegLong, NotLong, IntToLong, LongToInt, IntToByte, IntToChar, IntToShort}
use Rattle.pi_insn.specs.declared.rows.TheConstants.{ROWS}
use Rattle.pi_insn.specs.declared.table.Row.{Row}
use Rattle.pi_insn.specs.declared.table.Row.TheVariants.{F10x, F12x, F11n, F11x, F10t, F20t, F22x, F21t, F21s, F21h, F21c, F23x, F22b, F22t, F22s, F22c, F30t, F32x, F31i, F31t, F31c, F35c, F3rc, F51l}
use Rattle.pi_insn.specs.declared.table.Plain.TheVariants as plain
use Rattle.pi_insn.specs.declared.table.Single.TheVariants as single
use Rattle.pi_insn.specs.declared.table.Pair.TheVariants as pair
use Rattle.pi_insn.specs.declared.table.Triple.TheVariants as triple
use Rattle.pi_insn.specs.declared.table.Literal.TheVariants as literal
use Rattle.pi_insn.specs.declared.table.Named.TheVariants as named
use Rattle.pi_insn.specs.declared.table.NamedPair.TheVariants as named_pair
use Rattle.pi_insn.specs.declared.table.Payloads.TheVariants as payloads
use Rattle.pi_insn.specs.declared.table.Listing.TheVariants as listing

abbrev accesses : List Access
accesses = access.Plain ∷ access.Wide ∷ access.Ref ∷ access.Bool ∷ access.Byte ∷ access.Char ∷ access.Short ∷ []

abbrev kinds : List Kind
kinds = kind.Word ∷ kind.Wide ∷ kind.Ref ∷ []

abbrev conditions : List Cond
conditions = cond.Eq ∷ cond.Ne ∷ cond.Lt ∷ cond.Ge ∷ cond.Gt ∷ cond.Le ∷ []

abbrev ways : List How
ways = how.Virtual ∷ how.Super ∷ how.Direct ∷ how.Static ∷ how.Interface ∷ []

abbrev operations : List BinOp
operations = Add ∷ Sub ∷ Mul ∷ Div ∷ Rem ∷ And ∷ Or ∷ Xor ∷ Shl ∷ Shr ∷ Ushr ∷ []

-- a move of a kind in its three forms
abbrev moves : Kind → List Row
moves k = F12x (pair.Move k) ∷ F22x k ∷ F32x k ∷ []

-- what stands from an opcode on
record Group : Type 0 where
  from : ℕ
  rows : List Row

abbrev at : ℕ → List Row → Group
at from rows = record { from = from; rows = rows }

abbrev published : List Group
published =
    at 0x00 (F10x plain.Nop ∷ [])
    ∷ at 0x01 (moves kind.Word)
    ∷ at 0x04 (moves kind.Wide)
    ∷ at 0x07 (moves kind.Ref)
    ∷ at 0x0a (map (λ k. F11x (single.MoveResult k)) kinds)
    ∷ at 0x0d (F11x single.MoveException ∷ F10x plain.ReturnVoid ∷ [])
    ∷ at 0x0f (map (λ k. F11x (single.Return k)) kinds)
    ∷ at 0x12 (F11n ∷ F21s literal.Int ∷ F31i literal.Int ∷ F21h literal.Int ∷ [])
    ∷ at 0x16 (F21s literal.Long ∷ F31i literal.Long ∷ F51l ∷ F21h literal.Long ∷ [])
    ∷ at 0x1a (F21c named.ConstString ∷ F31c ∷ F21c named.ConstClass ∷ [])
    ∷ at 0x1d (F11x single.Monitor ∷ F11x single.Monitor ∷ F21c named.CheckCast ∷ F22c named_pair.InstanceOf ∷ [])
    ∷ at 0x21 (F12x pair.ArrayLength ∷ F21c named.NewInstance ∷ F22c named_pair.NewArray ∷ [])
    ∷ at 0x24 (F35c listing.Filled ∷ F3rc listing.Filled ∷ F31t payloads.FillArray ∷ F11x single.Throw ∷ [])
    ∷ at 0x28 (F10t ∷ F20t ∷ F30t ∷ F31t payloads.Switch ∷ F31t payloads.Switch ∷ [])
    ∷ at 0x31 (F23x triple.CmpLong ∷ [])
    ∷ at 0x32 (map F22t conditions)
    ∷ at 0x38 (map F21t conditions)
    ∷ at 0x44 (map (λ k. F23x (triple.Aget k)) accesses)
    ∷ at 0x4b (map (λ k. F23x (triple.Aput k)) accesses)
    ∷ at 0x52 (map (λ k. F22c (named_pair.Iget k)) accesses)
    ∷ at 0x59 (map (λ k. F22c (named_pair.Iput k)) accesses)
    ∷ at 0x60 (map (λ k. F21c (named.Sget k)) accesses)
    ∷ at 0x67 (map (λ k. F21c (named.Sput k)) accesses)
    ∷ at 0x6e (map (λ w. F35c (listing.Invoke w)) ways)
    ∷ at 0x74 (map (λ w. F3rc (listing.Invoke w)) ways)
    ∷ at 0x7b (map (λ op. F12x (pair.Unary op)) (NegInt ∷ NotInt ∷ NegLong ∷ NotLong ∷ []))
    ∷ at 0x81 (F12x (pair.Unary IntToLong) ∷ [])
    ∷ at 0x84 (F12x (pair.Unary LongToInt) ∷ [])
    ∷ at 0x8d (map (λ op. F12x (pair.Unary op)) (IntToByte ∷ IntToChar ∷ IntToShort ∷ []))
    ∷ at 0x90 (map (λ op. F23x (triple.Binary (arith.Int op))) operations)
    ∷ at 0x9b (map (λ op. F23x (triple.Binary (arith.Long op))) operations)
    ∷ at 0xb0 (map (λ op. F12x (pair.Binary (arith.Int op))) operations)
    ∷ at 0xbb (map (λ op. F12x (pair.Binary (arith.Long op))) operations)
    ∷ at 0xd0 (map F22s (Add ∷ Rsub ∷ Mul ∷ Div ∷ Rem ∷ And ∷ Or ∷ Xor ∷ []))
    ∷ at 0xd8 (map F22b (Add ∷ Rsub ∷ Mul ∷ Div ∷ Rem ∷ And ∷ Or ∷ Xor ∷ Shl ∷ Shr ∷ Ushr ∷ []))
    ∷ []

-- the groups from an opcode on, with nothing between them and behind them up to the last opcode
abbrev laid_out : ℕ → List Group → List (Option Row)
laid_out next [] = replicate (256 - next) None
laid_out next (g ∷ others) = replicate (g.from - next) None ++ (map Some g.rows ++ laid_out (g.from + length g.rows) others)

pub rows-is : ROWS ≡ laid_out 0 published
rows-is = refl
