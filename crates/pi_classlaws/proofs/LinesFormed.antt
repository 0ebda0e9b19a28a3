-- The units of a code's lines are those of an instruction for each, which are read again.
use Rattle.std.proofs.Common.{◌≡◌, ℕ, ◌+◌, ◌<◌, ◌==◌, ◌&&◌, nat_lt, true, List, [], ◌∷◌, ◌++◌, length, Some, Ok, refl, sym, ◌∙◌, ap, subst, arith, append_assoc}
use Rattle.std.specs.List.{Contains}
use Rattle.std.proofs.lemmas.Bool.{and_parts, eqb-true, ltb-true}
use Rattle.pi_insn.specs.declared.raw.RawInsn.{RawInsn}
use Rattle.pi_insn.specs.Chain.{◌>>=◌}
use Rattle.pi_insn.specs.Reading.{insn_in}
use Rattle.pi_insn.specs.Writing.{encoding, IsInTable}
use Rattle.pi_insn.proofs.Steps.{bind_some}
use Rattle.pi_format.specs.Rules.Pieces.{Piece, Instruction, front_piece}
use Rattle.pi_contents.specs.Contents.{LineContent}
use Rattle.pi_classtables.specs.Numbers.{Pools, index_of}
use Rattle.pi_classtables.specs.Forms.{opcodes_of, raw_bodies}
use Rattle.pi_classtables.specs.Layout.{is_sparse, data_of, data_place, next_data, lines_end, line_units, lines_units, lines_follow}
use Rattle.pi_classlaws.proofs.FormsRead.{raw_insn, bodies_few, form_found, form_read}
use Rattle.pi_classlaws.proofs.Walks.{WalksTo, walks_on}

-- an instruction and its units, for a line whose payload is laid from an address on
pub record IsFormed (p : Pools) (listed : List ℕ) (payload : ℕ) (l : LineContent) (i : RawInsn) (units : List ℕ) : Type 0 where
  pub body : Contains (raw_bodies (index_of p l.naming) l.at (data_place payload) l.insn) i.body
  pub opcode : Contains (opcodes_of (is_sparse listed l) i.body) i.op
  pub there : IsInTable i
  pub encoded : encoding i ≡ Some units
  pub long : length units ≡ l.units
  pub read : (rest : List ℕ) → insn_in (units ++ rest) ≡ Ok (i, l.units)

line_formed : (p : Pools) (listed : List ℕ) (payload : ℕ) (l : LineContent) (units : List ℕ) → line_units p listed payload l ≡ Some units
    → (i : RawInsn) × IsFormed p listed payload l i units
line_formed p listed payload l units e =
    let bodies = raw_bodies (index_of p l.naming) l.at (data_place payload) l.insn in
    let f = form_found l.units (is_sparse listed l) bodies units (bodies_few (index_of p l.naming) l.at (data_place payload) l.insn) e in (
      raw_insn f.op f.body,
      record {
        body = f.within;
        opcode = f.listed;
        there = f.there;
        encoded = f.encoded;
        long = f.long;
        read = λ rest. form_read l.units (is_sparse listed l) bodies units rest f;
      },
    )

-- the same for each of some lines, one behind the other
abbrev pub AreFormed : Pools → List ℕ → ℕ → List LineContent → List RawInsn → List ℕ → Type 0
AreFormed p listed payload [] [] units = units ≡ []
AreFormed p listed payload [] (i ∷ is) units = ⊥
AreFormed p listed payload (l ∷ ls) [] units = ⊥
AreFormed p listed payload (l ∷ ls) (i ∷ is) units =
    (here : List ℕ) × (later : List ℕ) × (units ≡ here ++ later) × IsFormed p listed payload l i here
    × AreFormed p listed (next_data payload (data_of listed l)) ls is later

pub lines_formed : (p : Pools) (listed : List ℕ) (payload : ℕ) (ls : List LineContent) (units : List ℕ) → lines_units p listed payload ls ≡ Some units
    → (is : List RawInsn) × AreFormed p listed payload ls is units
lines_formed p listed payload [] units e =
    let none : [] ≡ units = cc in
    ([], sym none)
lines_formed p listed payload (l ∷ ls) units e =
    let next = next_data payload (data_of listed l) in
    let first = bind_some (line_units p listed payload l) (λ here. lines_units p listed next ls >>= (λ later. Some (here ++ later))) units e in
    let rest = bind_some (lines_units p listed next ls) (λ later. Some (first.0 ++ later)) units first.1.1 in
    let formed = line_formed p listed payload l first.0 first.1.0 in
    let others = lines_formed p listed next ls rest.0 rest.1.0 in
    let joined : first.0 ++ rest.0 ≡ units = cc in
    (formed.0 ∷ others.0, (first.0, rest.0, sym joined, formed.1, others.1))

-- the pieces of lines
abbrev pub line_piece : LineContent → RawInsn → Piece
line_piece l i = record { at = l.at; units = l.units; what = Instruction i }

abbrev pub line_pieces : List LineContent → List RawInsn → List Piece
line_pieces [] is = []
line_pieces (l ∷ ls) [] = []
line_pieces (l ∷ ls) (i ∷ is) = line_piece l i ∷ line_pieces ls is

-- each begins where the one before it ends, and has units
pub record Follows (at : ℕ) (l : LineContent) (ls : List LineContent) : Type 0 where
  pub begins : l.at ≡ at
  pub some : 0 < l.units
  pub later : lines_follow (at + l.units) ls ≡ true

pub follows : (at : ℕ) (l : LineContent) (ls : List LineContent) → lines_follow at (l ∷ ls) ≡ true → Follows at l ls
follows at l ls e =
    let first = and_parts (l.at == at) (nat_lt 0 l.units && lines_follow (at + l.units) ls) e in
    let second = and_parts (nat_lt 0 l.units) (lines_follow (at + l.units) ls) first.1 in
    record { begins = eqb-true l.at at first.0; some = ltb-true 0 l.units second.0; later = second.1 }

line_front : (p : Pools) (listed : List ℕ) (payload : ℕ) (l : LineContent) (i : RawInsn) (units rest : List ℕ) → IsFormed p listed payload l i units
    → front_piece l.at (units ++ rest) ≡ Some (line_piece l i)
line_front p listed payload l i units rest formed = rw (formed.read rest) refl

pub lines_walk : (p : Pools) (listed : List ℕ) (payload at : ℕ) (ls : List LineContent) (is : List RawInsn) (units rest : List ℕ) (pieces : List Piece)
    → AreFormed p listed payload ls is units → lines_follow at ls ≡ true → WalksTo (lines_end at ls) rest pieces
    → WalksTo at (units ++ rest) (line_pieces ls is ++ pieces)
lines_walk p listed payload at [] [] units rest pieces formed follow later = rw formed later
lines_walk p listed payload at [] (i ∷ is) units rest pieces formed follow later = absurd formed
lines_walk p listed payload at (l ∷ ls) [] units rest pieces formed follow later = absurd formed
lines_walk p listed payload at (l ∷ ls) (i ∷ is) units rest pieces formed follow later =
    let f = follows at l ls follow in
    let here = formed.0 in
    let behind = formed.1 in
    let first = formed.3 in
    let others = lines_walk p listed (next_data payload (data_of listed l)) (at + l.units) ls is behind rest pieces formed.4 f.later later in
    let from : WalksTo (at + length here) (behind ++ rest) (line_pieces ls is ++ pieces) =
    subst (λ (n : ℕ). WalksTo (at + n) (behind ++ rest) (line_pieces ls is ++ pieces)) (sym first.long) others in
    let front : front_piece at (here ++ (behind ++ rest)) ≡ Some (line_piece l i) =
    subst (λ (n : ℕ). front_piece n (here ++ (behind ++ rest)) ≡ Some (line_piece l i)) f.begins
    (line_front p listed (payload) l i here (behind ++ rest) first) in
    let some : 0 < length here = omega (arith, f.some, first.long) in
    let on = walks_on at here (behind ++ rest) (line_piece l i) (line_pieces ls is ++ pieces) front (sym first.long) some from in
    let joined : here ++ (behind ++ rest) ≡ units ++ rest = sym (append_assoc here behind rest) ∙ ap (λ (us : List ℕ). us ++ rest) (sym formed.2) in
    subst (λ (us : List ℕ). WalksTo at us (line_pieces (l ∷ ls) (i ∷ is) ++ pieces)) joined on
