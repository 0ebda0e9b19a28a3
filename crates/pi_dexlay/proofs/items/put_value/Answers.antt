use Rattle.std.proofs.Common.{◌≤◌, ◌∙◌, ap, ◌++◌, take}
use Rattle.pi_dexlay.proofs.Bytes.{value_put, few_bytes}
use Rattle.pi_dexlay.proofs.items.put_value.Goals as goal

pub returns : goal.returns
returns c =
    let v = c.args.value.now in
    let few : c.value_bytes.result ≤ 8 = few_bytes c.value_bytes.result v.kind v.arg c.value_bytes.ensures c.requires.arg in
    value_put v c.args.out.now.items c.extend_from_slice.new.self.items c.extend_from_slice-2.new.self.items c.value_bytes.result c.value_bytes.ensures few
    c.in_ok-extend_from_slice.ensures.items
    (c.in_ok-extend_from_slice-2.ensures.items ∙ ap (λ z. c.extend_from_slice.new.self.items ++ z) (c.split_at.ensures.front ∙ ap (λ z. take c.value_bytes.result z) c.write_u64.ensures))
