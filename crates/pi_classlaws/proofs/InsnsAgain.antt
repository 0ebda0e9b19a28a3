-- What the format says of the operands of an instruction is the instruction again.
use Rattle.std.proofs.Common.{◌≡◌, ℕ, ◌+◌, ◌^◌, ◌<◌, ◌≤◌, List, Option, Some, refl, ◌∙◌, ap}
use Rattle.std.specs.List.{All, AllByRecursion}
use Rattle.std.proofs.lemmas.List.Elements.{All-from_recursion}
use Rattle.pi_model.specs.declared.insn.Case.{Case}
use Rattle.pi_model.specs.declared.insn.Insn.{Insn}
use Rattle.pi_model.specs.declared.insn.Insn.TheVariants as insn
use Rattle.pi_insn.specs.declared.raw.RawBody.{RawBody}
use Rattle.pi_insn.specs.declared.raw.RawBody.TheVariants.{Filled, Invoke}
use Rattle.pi_insn.specs.Payloads.{Data}
use Rattle.pi_format.specs.Rules.Pieces.{Piece, found_at, payload_of}
use Rattle.pi_format.specs.Says.Insns.{insn_of, cases_of, width_of, items_of}
use Rattle.pi_contents.specs.Contents.{LineContent}
use Rattle.pi_contents.specs.Named.{no_name, no_method, bare}
use Rattle.pi_tablesaid.specs.Content.{insn_said}
use Rattle.pi_classtables.specs.Forms.{distance, raw_bodies}
use Rattle.pi_classtables.specs.Sized.{InsnSized, LineSized}
use Rattle.pi_classlaws.proofs.Turned.{target_again}
use Rattle.pi_classlaws.proofs.Distances.{address_again}
use Rattle.pi_classlaws.proofs.Registers.{all_listings}

-- the payload of an instruction says its cases or its items
abbrev pub PayloadSays : Insn → ℕ → Option Data → Type 0
PayloadSays (insn.Switch a cases) at found = cases_of at found ≡ cases
PayloadSays (insn.FillArray a width items) at found = (width_of found ≡ width) × (items_of found ≡ items)
PayloadSays _ at found = Unit {0}

-- the operands say the instruction again, but for its names
abbrev Says : List Piece → ℕ → Insn → RawBody → Type 0
Says pieces at x body = insn_said pieces at body ≡ bare x

each_says : (pieces : List Piece) (i at payload : ℕ) (x : Insn) → InsnSized x → at < 2 ^ 32 → PayloadSays x at (payload_of pieces at (distance at payload))
    → AllByRecursion (Says pieces at x) (raw_bodies i at payload x)
unfolding raw_bodies insn_of bare
each_says pieces i at payload (insn.Filled t regs) sized fits says =
    all_listings (Says pieces at (insn.Filled t regs)) (λ raw. Filled i raw) regs (λ raw s. ap (insn.Filled no_name) s.again)
each_says pieces i at payload (insn.Invoke how m regs) sized fits says =
    all_listings (Says pieces at (insn.Invoke how m regs)) (λ raw. Invoke how i raw) regs (λ raw s. ap (insn.Invoke how no_method) s.again)
each_says pieces i at payload (insn.Goto to) sized fits says = (ap insn.Goto (target_again at to fits sized), tt)
each_says pieces i at payload (insn.If cond a b to) sized fits says = (ap (insn.If cond a b) (target_again at to fits sized), tt)
each_says pieces i at payload (insn.IfZ cond a to) sized fits says = (ap (insn.IfZ cond a) (target_again at to fits sized), tt)
each_says pieces i at payload (insn.Switch a cases) sized fits says = (ap (insn.Switch a) says, tt)
each_says pieces i at payload (insn.FillArray a width items) sized fits says =
    (ap (λ w. insn.FillArray a w (items_of (payload_of pieces at (distance at payload)))) says.0 ∙ ap (insn.FillArray a width) says.1, tt)
each_says pieces i at payload _ sized fits says = (refl, tt)

pub insn_again : (pieces : List Piece) (i at payload : ℕ) (x : Insn) → InsnSized x → at < 2 ^ 32
    → PayloadSays x at (payload_of pieces at (distance at payload))
    → All (λ body. insn_said pieces at body ≡ bare x) (raw_bodies i at payload x)
insn_again pieces i at payload x sized fits says =
    All-from_recursion (Says pieces at x) (raw_bodies i at payload x) (each_says pieces i at payload x sized fits says)

-- so a line's operands say its instruction
pub line_insn_again : (pieces : List Piece) (i payload : ℕ) (l : LineContent) → LineSized l → l.at < 2 ^ 32
    → PayloadSays l.insn l.at (payload_of pieces l.at (distance l.at payload))
    → All (λ body. insn_said pieces l.at body ≡ l.insn) (raw_bodies i l.at payload l.insn)
line_insn_again pieces i payload l sized fits says =
    λ k d less. insn_again pieces i l.at payload l.insn sized.insn fits says k d less ∙ sized.bare

-- the payload that an instruction points at is the one at its address
pub payload_again : (pieces : List Piece) (at payload : ℕ) → at ≤ payload → payload < at + 2 ^ 31
    → payload_of pieces at (distance at payload) ≡ found_at pieces (Some payload)
payload_again pieces at payload behind near = ap (found_at pieces) (address_again at payload behind near)

-- a payload that says the cases of a switch and the items of an array
pub payload_says : (x : Insn) (at : ℕ) (d : Data) → ((a : ℕ) (cases : List Case) → x ≡ insn.Switch a cases → cases_of at (Some d) ≡ cases)
    → ((a width : ℕ) (items : List ℕ) → x ≡ insn.FillArray a width items → width_of (Some d) ≡ width)
    → ((a width : ℕ) (items : List ℕ) → x ≡ insn.FillArray a width items → items_of (Some d) ≡ items) → PayloadSays x at (Some d)
payload_says (insn.Switch a cases) at d switch width items = switch a cases refl
payload_says (insn.FillArray a w xs) at d switch width items = (width a w xs refl, items a w xs refl)
payload_says _ at d switch width items = tt
