use Rattle.std.proofs.Common.{◌≤◌, ap, ◌∙◌, ◌++◌, ◌+◌, length, arith}
use Rattle.std.specs.List.{flat_map}
use Rattle.pi_bytes.specs.Numbers.{most_bytes}
use Rattle.pi_parts.specs.Parts.{padding}
use Rattle.pi_dextables.specs.Image.{item_bytes, standing, listing}
use Rattle.pi_dexlay.proofs.LayoutSteps.{codes_low, codes_counted, data_same}
use Rattle.pi_dexlay.proofs.layout.put_data_items.Goals as goal

pub overflow_add-places : goal.overflow_add-places
overflow_add-places c =
    let low : c.args.made.now.places.codes ≤ most_bytes = codes_low c.args.tables.now c.args.made.now.places c.requires.made.places in
    let pad = c.padding.ensures in
    omega (arith, low, pad)

pub returns : goal.returns
returns c =
    let t = c.args.tables.now in
    let p = c.args.made.now.places in
    let at = c.requires.made.places in
    c.in_ok-put_items.ensures
    ∙ ap (λ z. c.args.out.now.items ++ flat_map item_bytes (standing z))
    (data_same t c.len.result p.lists c.len-2.result (p.codes + c.padding.result) c.len-3.result p.strings c.listing.result p.members c.len-4.result p.arrays
    (c.len.ensures.len ∙ ap length c.requires.pools.lists) at.lists (c.len-2.ensures ∙ (c.args.made.now.codes.offsets.ok.0 ∙ ap length c.requires.made.codes.at ∙ codes_counted t))
    (ap (λ k. p.codes + k) c.padding.ensures ∙ ap (λ k. k + padding k) at.codes) c.len-3.ensures at.strings
    (c.listing.ensures ∙ ap listing c.as_slice.ensures) at.members (c.len-4.ensures.len ∙ ap length c.requires.pools.arrays) at.arrays)
