-- A line is said again: its instruction, by the payload that it leads to, and what it names.
use Rattle.std.proofs.Common.{◌≡◌, ℕ, ◌^◌, ◌<◌, ◌≤◌, Bool, true, false, List, [], ◌∷◌, Option, Some, refl, sym, ◌∙◌, subst, arith}
use Rattle.std.proofs.lemmas.List.Elements.{All-contains}
use Rattle.pi_model.specs.declared.insn.Insn.{Insn}
use Rattle.pi_model.specs.declared.insn.Insn.TheVariants as insn
use Rattle.pi_insn.specs.declared.raw.RawInsn.{RawInsn}
use Rattle.pi_insn.specs.Payloads.{Data}
use Rattle.pi_format.specs.Rules.Pieces.{Piece, found_at, payload_of}
use Rattle.pi_format.specs.Says.Insns.{cases_of, width_of, items_of}
use Rattle.pi_dextables.specs.declared.tables.Class.{Class}
use Rattle.pi_contents.specs.Contents.{LineContent}
use Rattle.pi_tablesaid.specs.Content.{naming_said, insn_said}
use Rattle.pi_classtables.specs.Numbers.{Pools, index_of}
use Rattle.pi_classtables.specs.Forms.{distance, raw_bodies}
use Rattle.pi_classtables.specs.Layout.{packed_units, sparse_units, array_units, payload_units, is_sparse, data_of, data_place, next_data, data_end}
use Rattle.pi_classtables.specs.Whole.{tables_with}
use Rattle.pi_classtables.specs.Sized.{LineSized}
use Rattle.pi_classlaws.proofs.Known.{HoldsNaming}
use Rattle.pi_classlaws.proofs.InsnsAgain.{PayloadSays, line_insn_again, payload_again}
use Rattle.pi_classlaws.proofs.NamesAgain.{naming_again}
use Rattle.pi_classlaws.proofs.LinesFormed.{IsFormed}
use Rattle.pi_classlaws.proofs.PayloadsLaid.{PayloadReads}
use Rattle.pi_classlaws.proofs.PayloadsFound.{next_behind}

-- a payload that is found where one is laid says what it said
says_found : (sparse : Bool) (at : ℕ) (x : Insn) (found : Option Data) (d : Data) → ((u : ℕ) (us : List ℕ) → payload_units sparse at x ≡ u ∷ us → found ≡ Some d)
    → PayloadSays x at (Some d) → PayloadSays x at found
unfolding payload_units packed_units sparse_units array_units
says_found true at (insn.Switch a cases) found d is says = subst (λ (o : Option Data). cases_of at o ≡ cases) (sym (is _ _ refl)) says
says_found false at (insn.Switch a cases) found d is says = subst (λ (o : Option Data). cases_of at o ≡ cases) (sym (is _ _ refl)) says
says_found sparse at (insn.FillArray a width items) found d is says =
    subst (λ (o : Option Data). (width_of o ≡ width) × (items_of o ≡ items)) (sym (is _ _ refl)) says
says_found sparse at _ found d is says = tt

-- payloads stand behind the lines
pub data_end_behind : (listed : List ℕ) (at : ℕ) (ls : List LineContent) → at ≤ data_end listed at ls
data_end_behind listed at [] = omega arith
data_end_behind listed at (l ∷ ls) =
    omega (arith, next_behind at (data_of listed l), data_end_behind listed (next_data at (data_of listed l)) ls)

near_place : (at payload end : ℕ) (units : List ℕ) (u : ℕ) (us : List ℕ) → units ≡ u ∷ us → next_data payload units ≤ end → data_place payload < end
near_place at payload end units u us e le =
    let laid : next_data payload (u ∷ us) ≤ end = subst (λ (vs : List ℕ). next_data payload vs ≤ end) e le in
    omega (arith, laid)

-- an instruction leads to its payload
pub leads : (pieces : List Piece) (said : LineContent → Data) (payload : ℕ) (l : LineContent) (units : List ℕ) → l.at ≤ payload → next_data payload units ≤ 2 ^ 31
    → ((u : ℕ) (us : List ℕ) → units ≡ u ∷ us → found_at pieces (Some (data_place payload)) ≡ Some (said l))
    → (u : ℕ) (us : List ℕ) → units ≡ u ∷ us → payload_of pieces l.at (distance l.at (data_place payload)) ≡ Some (said l)
leads pieces said payload l units behind near found u us e =
    let below = near_place l.at payload (2 ^ 31) units u us e near in
    payload_again pieces l.at (data_place payload) (omega arith) (omega (arith, below)) ∙ found u us e

-- what is found for a line whose payload is laid from an address on
abbrev pub FoundFor : List Piece → List ℕ → (LineContent → Data) → ℕ → LineContent → Type 0
FoundFor pieces listed said payload l =
    (u : ℕ) (us : List ℕ) → data_of listed l ≡ u ∷ us → found_at pieces (Some (data_place payload)) ≡ Some (said l)

module _ (p : Pools) (listed : List ℕ) (said : LineContent → Data) (pieces : List Piece) where
  pub insn_said_again : (payload : ℕ) (l : LineContent) (i : RawInsn) (units : List ℕ) → IsFormed p listed payload l i units → LineSized l
      → PayloadReads listed said l → l.at ≤ payload → next_data payload (data_of listed l) ≤ 2 ^ 31 → FoundFor pieces listed said payload l
      → insn_said pieces l.at i.body ≡ l.insn
  insn_said_again payload l i units formed sized reads behind near found =
      let place = data_place payload in
      let lead = leads pieces said payload l (data_of listed l) behind near found in
      let says = says_found (is_sparse listed l) l.at l.insn (payload_of pieces l.at (distance l.at place)) (said l) lead reads.says in
      let fits : l.at < 2 ^ 32 = omega (arith, next_behind payload (data_of listed l)) in
      All-contains (λ body. insn_said pieces l.at body ≡ l.insn) (raw_bodies (index_of p l.naming) l.at place l.insn) i.body
      (line_insn_again pieces (index_of p l.naming) place l sized fits says) formed.body

  pub naming_said_again : (classes : List Class) (payload : ℕ) (l : LineContent) (i : RawInsn) (units : List ℕ) → IsFormed p listed payload l i units
      → LineSized l → HoldsNaming p l.naming → naming_said (tables_with p classes) i.body ≡ l.naming
  naming_said_again classes payload l i units formed sized held =
      let place = data_place payload in
      All-contains (λ body. naming_said (tables_with p classes) body ≡ l.naming) (raw_bodies (index_of p l.naming) l.at place l.insn) i.body
      (naming_again p classes l.at place l.insn l.naming sized.naming held) formed.body
