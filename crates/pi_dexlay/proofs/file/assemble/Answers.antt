use Rattle.std.proofs.Common.{ap, ◌∙◌, ◌++◌}
use Rattle.pi_format.specs.Tables.{magic}
use Rattle.pi_dexlay.proofs.WholeSteps.{file_put}
use Rattle.pi_dexlay.proofs.file.assemble.Goals as goal

pub returns : goal.returns
returns c =
    file_put c.args.tables.now c.extend_from_slice.new.self.items c.put_zeros.new.out.items c.put_contents.new.out.items c.sign.new.out.items
    (c.in_ok-extend_from_slice.ensures.items ∙ ap (λ z. z ++ magic) c.new-out.ensures.items) c.in_ok-put_zeros.ensures c.in_ok-put_contents.ensures c.sign.ensures
