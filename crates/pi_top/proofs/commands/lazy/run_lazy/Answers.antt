use Rattle.std.proofs.Common.{Ok, Err}
use Rattle.pi_top.specs.Calls.{lazy_of}
use Rattle.pi_top.specs.declared.file.fault.FileFault.TheVariants.{Broken, NotBuilt}
use Rattle.pi_top.proofs.Owing.{file_over, missing_gives, large_gives}
use Rattle.pi_top.proofs.commands.lazy.run_lazy.Goals as goal

pub returns-in-Ok-run_file-clause-gives : goal.returns-in-Ok-run_file-clause-gives
returns-in-Ok-run_file-clause-gives g c =
    file_over _ _ c.in-Ok.ensures.keeps (lazy_of c.args.call) c.in-Ok.file.items c.as_slice.result.now (Ok c.in-Ok-run_file.end) _ _
    c.as_slice.ensures.value c.in-Ok.ensures.finds (c.in-Ok-run_file.ensures.gives c.args.call.file.now)

pub returns-in-Err-NotBuilt-clause-gives : goal.returns-in-Err-NotBuilt-clause-gives
returns-in-Err-NotBuilt-clause-gives g c =
    file_over _ _ c.in-Ok.ensures.keeps (lazy_of c.args.call) c.in-Ok.file.items c.as_slice.result.now (Err NotBuilt) _ _
    c.as_slice.ensures.value c.in-Ok.ensures.finds (rw c.in-Err-NotBuilt.field-0-is at (c.in-Err-NotBuilt.ensures.gives c.args.call.file.now))

pub returns-in-Err-Broken-clause-gives : goal.returns-in-Err-Broken-clause-gives
returns-in-Err-Broken-clause-gives g c =
    file_over _ _ c.in-Ok.ensures.keeps (lazy_of c.args.call) c.in-Ok.file.items c.as_slice.result.now (Err (Broken c.in-Err-Broken.rule c.in-Err-Broken.at)) _ _
    c.as_slice.ensures.value c.in-Ok.ensures.finds (rw c.in-Err-Broken.field-0-is at (c.in-Err-Broken.ensures.gives c.args.call.file.now))

pub returns-in-Ok-clause-gives : goal.returns-in-Ok-clause-gives
returns-in-Ok-clause-gives g c = rw c.in-Err-OutOfMemory-run_file.field-0-is at (c.in-Err-OutOfMemory-run_file.ensures.gives c.args.call.file.now)

pub returns-in-Err-Missing-clause-gives : goal.returns-in-Err-Missing-clause-gives
returns-in-Err-Missing-clause-gives g c =
    missing_gives _ _ c.in-Err-Missing.ensures.keeps (lazy_of c.args.call) _ (rw c.in-Err-Missing.field-0-is at c.in-Err-Missing.ensures.finds)

pub returns-in-Err-TooLarge-clause-gives : goal.returns-in-Err-TooLarge-clause-gives
returns-in-Err-TooLarge-clause-gives g c =
    large_gives _ _ c.in-Err-TooLarge.ensures.keeps (lazy_of c.args.call) _ (rw c.in-Err-TooLarge.field-0-is at c.in-Err-TooLarge.ensures.finds)
