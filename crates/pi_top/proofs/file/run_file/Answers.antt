-- A file that was read breaks a rule, or says a program; a small one is run.
use Rattle.std.proofs.Common.{◌≡◌, Err, true, false, refl, rules, arith, sym, ◌∙◌, subst}
use Rattle.pi_model.specs.Program.{Program}
use Rattle.pi_format.specs.Core.{core_program}
use Rattle.pi_format.specs.Says.{SaysNext}
use Rattle.pi_duty.specs.Shape.{IsSmall}
use Rattle.pi_duty.specs.Small.{is_small}
use Rattle.pi_top.specs.Faults.{fault_of}
use Rattle.pi_top.proofs.Owing.{run_gives, other_gives, reader_gives}
use Rattle.pi_top.proofs.file.run_file.Goals as goal

pub returns-in_err-append-clause-gives : goal.returns-in_err-append-clause-gives
returns-in_err-append-clause-gives g c = λ name.
    let is : c.from_residual-in_err-append.result ≡ Err (fault_of c.in_err-append.field-0.0) = search rules in
    reader_gives (Unit {0}) name c.args.main.now c.args.file.now c.args.steps _ c.in_err-append.field-0.0 (fault_of c.in_err-append.field-0.0)
    c.from_residual-in_err-append.result is refl c.requires c.in_err-append.ensures.told

pub returns-then-not-is_small_program-clause-gives : goal.returns-then-not-is_small_program-clause-gives
returns-then-not-is_small_program-clause-gives g c = λ name.
    let small : is_small c.as_bytes.result.now c.append.new.prog ≡ false = sym c.is_small_program.ensures ∙ c.if-not-is_small_program.true in
    let said : SaysNext core_program c.args.file.now c.append.new.prog =
    subst (λ (p : Program). SaysNext p c.args.file.now c.append.new.prog) c.in_ok-prog.ensures.program c.in_ok-append.ensures.said in
    other_gives name c.args.main.now c.as_bytes.result.now c.args.file.now c.args.steps c.append.new.prog _ c.as_bytes.ensures.value c.requires said small

pub run_small-requires : goal.run_small-requires
run_small-requires g c =
    let small : is_small c.as_bytes.result.now c.append.new.prog ≡ true = sym c.is_small_program.ensures ∙ c.if-not-is_small_program.false in
    let said : SaysNext core_program c.args.file.now c.append.new.prog =
    subst (λ (p : Program). SaysNext p c.args.file.now c.append.new.prog) c.in_ok-prog.ensures.program c.in_ok-append.ensures.said in
    (c.as_bytes.result.now, c.small_shape.ensures c.as_bytes.result.now c.args.file.now c.append.new.prog said c.requires (λ k. omega (arith, c.type_inv.file k)) small)

pub returns-clause-gives : goal.returns-clause-gives
returns-clause-gives g c = λ name.
    let small : is_small c.as_bytes.result.now c.append.new.prog ≡ true = sym c.is_small_program.ensures ∙ c.if-not-is_small_program.false in
    let said : SaysNext core_program c.args.file.now c.append.new.prog =
    subst (λ (p : Program). SaysNext p c.args.file.now c.append.new.prog) c.in_ok-prog.ensures.program c.in_ok-append.ensures.said in
    let shape : IsSmall c.as_bytes.result.now c.append.new.prog =
    c.small_shape.ensures c.as_bytes.result.now c.args.file.now c.append.new.prog said c.requires (λ k. omega (arith, c.type_inv.file k)) small in
    run_gives name c.args.main.now c.as_bytes.result.now c.args.file.now c.args.steps c.append.new.prog c.in_ok-run_small.field-0 _ _
    c.as_bytes.ensures.value c.requires said small (c.in_ok-run_small.ensures.ends c.as_bytes.result.now shape)
