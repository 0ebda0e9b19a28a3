use Rattle.std.proofs.Common.{◌≡◌, ◌++◌, ◌+◌, length, ◌∙◌, arith}
use Rattle.std.specs.List.{flat_map}
use Rattle.pi_parts.specs.Parts.{offsets}
use Rattle.pi_parts.specs.Lebs.{uleb_bytes}
use Rattle.pi_dextables.specs.Codes.{catches_bytes}
use Rattle.pi_dexlay.proofs.Steps.{flat_step, offsets_step, place_of, catches_long}
use Rattle.pi_dexlay.proofs.codes.lists_of.Goals as goal

pub loop-list-preserved : goal.loop-list-preserved
loop-list-preserved c =
    let x = c.list-item.result in
    let bytes = c.loop-list.bytes.items in
    let new = c.put_catches.new.out.items in
    let place : c.len.result ≡ 0 + length bytes = c.len.ensures ∙ omega arith in
    record {
      bytes = flat_step catches_bytes c.loop-list.list-index c.args.lists.now x bytes new (uleb_bytes (length c.args.lists.now) ++ flat_map catches_bytes c.args.lists.now)
          c.loop-list-test.true c.list-item.is c.in_ok-put_catches.ensures c.loop-list.invariant.bytes;
      places = offsets_step catches_bytes 0 c.loop-list.list-index c.args.lists.now x bytes new c.loop-list.places.items c.push.new.self.items
          (offsets catches_bytes (length (uleb_bytes (length c.args.lists.now))) c.args.lists.now) c.len.result
          c.loop-list-test.true c.list-item.is c.in_ok-put_catches.ensures (place ∙ place_of (length (catches_bytes x)) (0 + length bytes) (catches_long x)) c.in_ok-push.ensures.items c.loop-list.invariant.places;
    }
