use Rattle.std.proofs.Common.{◌∙◌}
use Rattle.pi_dexlay.proofs.WholeSteps.{data_put}
use Rattle.pi_dexlay.proofs.file.put_data.Goals as goal

pub returns : goal.returns
returns c =
    let m = c.requires in
    data_put c.args.tables.now c.deref.result.now c.deref-2.result.now c.deref-3.result.now c.deref-4.result.now c.deref-5.result.now
    c.args.out.now.items c.extend_from_slice.new.self.items c.extend_from_slice-2.new.self.items c.extend_from_slice-3.new.self.items c.extend_from_slice-4.new.self.items c.extend_from_slice-5.new.self.items
    (c.deref.ensures.value ∙ m.lists.is) (c.deref-2.ensures.value ∙ m.codes.is) (c.deref-3.ensures.value ∙ m.strings.is) (c.deref-4.ensures.value ∙ m.members.is) (c.deref-5.ensures.value ∙ m.arrays.is)
    c.in_ok-extend_from_slice.ensures.items c.in_ok-extend_from_slice-2.ensures.items c.in_ok-extend_from_slice-3.ensures.items c.in_ok-extend_from_slice-4.ensures.items c.in_ok-extend_from_slice-5.ensures.items
