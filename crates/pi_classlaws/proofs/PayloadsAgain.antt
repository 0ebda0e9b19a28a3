-- The payloads of a code that is laid out: each is read again, and is of the kind that its opcode asks for where the keys of its
-- switch can be laid so.
use Rattle.std.proofs.Common.{◌≡◌, ℕ, ◌+◌, ◌^◌, ◌<◌, ◌≤◌, ◌==◌, Bool, true, false, List, [], ◌∷◌, get_or, Some, refl, arith}
use Rattle.std.specs.Prelude.{◌||◌, not}
use Rattle.std.specs.List.{All, list_any, list_all}
use Rattle.std.proofs.lemmas.List.Elements.{All-nil, All-cons}
use Rattle.std.proofs.lemmas.List.Sums.{AllPass-from_list_all}
use Rattle.pi_model.specs.declared.insn.Insn.{Insn}
use Rattle.pi_model.specs.declared.insn.Insn.TheVariants.{FillArray, Switch}
use Rattle.pi_insn.specs.Payloads.{Data}
use Rattle.pi_contents.specs.Contents.{LineContent, CodeContent}
use Rattle.pi_contents.specs.Asked.{follow_on, keys_rise, insn_fits, line_fits, lines_fit}
use Rattle.pi_classtables.specs.Numbers.{Pools}
use Rattle.pi_classtables.specs.Layout.{is_scattered, is_sparse, data_fits, front, lines_end, code_units, lines_follow}
use Rattle.pi_classtables.specs.Spelled.{IsLaid, front_end}
use Rattle.pi_classtables.specs.Sized.{LineSized, CodeSized, switch_rises, line_rises, code_rises}
use Rattle.pi_classlaws.proofs.CodeAgain.{front_follows, in_front, near_end}
use Rattle.pi_classlaws.proofs.DataSaid.{data_said, switch_fits}
use Rattle.pi_classlaws.proofs.InsnsAgain.{payload_says}
use Rattle.pi_classlaws.proofs.LineAgain.{data_end_behind}
use Rattle.pi_classlaws.proofs.LineData.{line_data}
use Rattle.pi_classlaws.proofs.LinesFormed.{follows}
use Rattle.pi_classlaws.proofs.PayloadsFound.{end_behind}
use Rattle.pi_classlaws.proofs.PayloadsLaid.{PayloadReads, payload_reads}
use Rattle.pi_classlaws.proofs.PointsAgain.{PayloadFits}

-- what the payload of a line says
abbrev pub said_by : List ℕ → LineContent → Data
said_by listed l = data_said (is_sparse listed l) l.at l.insn

line_reads : (listed : List ℕ) (l : LineContent) → LineSized l → data_fits l.insn ≡ true → l.at < 2 ^ 32 → PayloadReads listed (said_by listed) l
line_reads listed l sized fits place =
    let d = line_data listed l (is_sparse listed l) sized fits place refl in
    payload_reads listed (said_by listed) l d.read d.taken (payload_says l.insn l.at (said_by listed l) d.cases d.width d.items)

-- lines that follow each other begin no later than where they end
lines_near : (end at : ℕ) (ls : List LineContent) → lines_follow at ls ≡ true → lines_end at ls ≤ end → All (λ (l : LineContent). l.at ≤ end) ls
lines_near end at [] follow le = All-nil (λ (l : LineContent). l.at ≤ end)
lines_near end at (l ∷ ls) follow le =
    let f = follows at l ls follow in
    All-cons (λ (m : LineContent). m.at ≤ end) l ls (omega (arith, f.begins, end_behind (at + l.units) ls, le)) (lines_near end (at + l.units) ls f.later le)

-- the keys of a switch whose payload is sparse rise: where it must be, they would not be laid else
keys_risen : (listed follow rise : Bool) → (follow || rise) ≡ true → (not listed || rise) ≡ true → (listed || not follow) ≡ true → rise ≡ true
keys_risen listed follow true fits risen sparse = refl
keys_risen true follow false fits risen sparse = cc
keys_risen false true false fits risen sparse = cc
keys_risen false false false fits risen sparse = cc

sparse_keys : (listed : Bool) (i : Insn) → insn_fits i ≡ true → (not listed || switch_rises i) ≡ true → (listed || is_scattered i) ≡ true → switch_rises i ≡ true
sparse_keys listed (Switch a cases) fits risen sparse = keys_risen listed (follow_on cases) (keys_rise cases) fits risen sparse
sparse_keys listed _ fits risen sparse = refl

insn_points : (sparse : Bool) (at : ℕ) (i : Insn) → (sparse ≡ true → switch_rises i ≡ true) → PayloadFits sparse i (Some (data_said sparse at i))
insn_points sparse at (Switch a cases) risen = switch_fits sparse at cases risen
insn_points sparse at (FillArray a width items) risen = refl
insn_points sparse at _ risen = tt

line_points : (listed : List ℕ) (l : LineContent) → line_fits l ≡ true → line_rises listed l ≡ true → PayloadFits (is_sparse listed l) l.insn (Some (said_by listed l))
line_points listed l fits risen =
    insn_points (is_sparse listed l) l.at l.insn (sparse_keys (list_any (λ at. at == l.at) listed) l.insn fits risen)

-- so all of a code
module _ (p : Pools) (listed : List ℕ) (c : CodeContent) (units : List ℕ) (laid : IsLaid listed c) (is : code_units p listed (front 0 c.lines) ≡ Some units) where
  before_payloads : (P : LineContent → Type 0) → All P c.lines → All P (front 0 c.lines)
  before_payloads P all = in_front p listed (said_by listed) c units laid is P all

  passed : (test : LineContent → Bool) → list_all test c.lines ≡ true → All (λ (l : LineContent). test l ≡ true) (front 0 c.lines)
  passed test h = before_payloads (λ (l : LineContent). test l ≡ true) (AllPass-from_list_all test c.lines h)

  pub all_read : CodeSized c → All (PayloadReads listed (said_by listed)) (front 0 c.lines)
  all_read sized k d less =
      let near = near_end p listed (said_by listed) c units laid is in
      let end : front_end c ≤ 2 ^ 31 = omega (arith, near, data_end_behind listed (front_end c) (front 0 c.lines)) in
      let place = lines_near (2 ^ 31) 0 (front 0 c.lines) (front_follows 0 c.lines) end k d less in
      line_reads listed (get_or (front 0 c.lines) k d) (before_payloads LineSized sized.lines k d less)
      (passed (λ (l : LineContent). data_fits l.insn) laid.payloads k d less) (omega (arith, place))

  pub all_point : lines_fit (Some c) ≡ true → code_rises listed (Some c) ≡ true
      → All (λ (l : LineContent). PayloadFits (is_sparse listed l) l.insn (Some (said_by listed l))) (front 0 c.lines)
  all_point fits risen k d less =
      line_points listed (get_or (front 0 c.lines) k d) (passed line_fits fits k d less) (passed (line_rises listed) risen k d less)
