-- The numbers in the code of a method fit the places that they have.
use Rattle.std.proofs.Common.{◌≡◌, ℕ, ◌≤◌, List, length, Some, subst}
use Rattle.pi_insn.proofs.Steps.{bind_some}
use Rattle.pi_dextables.specs.declared.tables.Body.{Body}
use Rattle.pi_dextables.specs.Writable.{BodyFits}
use Rattle.pi_contents.specs.Contents.{CodeContent}
use Rattle.pi_classtables.specs.Numbers.{Pools, no_pools}
use Rattle.pi_classtables.specs.Layout.{code_units, front}
use Rattle.pi_classtables.specs.Ranges.{groups_of, lists_of, ranges_of}
use Rattle.pi_classtables.specs.Sized.{CodeSized}
use Rattle.pi_classtables.specs.Spelled.{IsLaid}
use Rattle.pi_classtables.specs.Whole.{Method, body_of}
use Rattle.pi_classlaws.proofs.HandlerNumbers.{lists_fit, ranges_fit, no_lists, few_ranges}
use Rattle.pi_classlaws.proofs.NamingsFiled.{CodeHeld}
use Rattle.pi_classlaws.proofs.WritableCodes.{code_halves}

-- what is known of the code of a method
pub record CodeIs (p : Pools) (m : Method) (c : CodeContent) : Type 0 where
  pub laid : IsLaid m.sparse c
  pub sized : CodeSized c
  pub held : CodeHeld p c

pub body_fits : (p : Pools) → length p.types ≤ 65535 → (m : Method) (c : CodeContent) (b : Body) → CodeIs p m c → body_of p m.sparse c ≡ Some b → BodyFits b
unfolding body_of
body_fits p few m c b is e =
    let made : List ℕ → Body = λ units. record {
      registers = c.regs;
      ins = c.ins;
      outs = c.outs;
      units = units;
      ranges = ranges_of (groups_of p c.catches);
      lists = lists_of (groups_of p c.catches);
    } in
    let units = bind_some (code_units p m.sparse (front 0 c.lines)) (λ us. Some (made us)) b e in
    let same : made units.0 ≡ b = cc (units.1.1) in
    subst BodyFits same (record {
      registers = is.sized.regs;
      ins = is.sized.ins;
      outs = is.sized.outs;
      units = code_halves p m.sparse c units.0 is.laid is.sized units.1.0;
      tries = few_ranges p no_pools c.catches is.laid.ranges;
      ranges = ranges_fit p few c.catches is.held.catches is.sized.catches is.laid.catches;
      lists = lists_fit p few c.catches is.held.catches is.sized.catches is.laid.catches;
      none = no_lists (groups_of p c.catches);
    })
