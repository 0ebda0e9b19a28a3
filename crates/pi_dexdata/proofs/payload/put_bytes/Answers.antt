use Rattle.std.proofs.Common.{◌++◌, ◌<◌, ◌-◌, length, drop}
use Rattle.std.proofs.lemmas.List.Elements.{All-take, All-drop}
use Rattle.pi_classtables.specs.Layout.{byte_units}
use Rattle.pi_dexdata.proofs.Payloads.{bytes_behind}
use Rattle.pi_dexdata.proofs.payload.put_bytes.Goals as goal

pub loop-rest-preserved : goal.loop-rest-preserved
loop-rest-preserved c =
    let rest = c.loop-rest.rest.now in
    record {
      small = All-take (λ x. x < 256) (length rest - 2) (drop 2 rest) (All-drop (λ x. x < 256) 2 rest c.loop-rest.invariant.small);
      units = bytes_behind c.loop-rest.out rest (c.args.out.now ++ byte_units c.args.items.now) c.push.new.self
          c.in-len2-up.len_at_least c.in_ok-push.ensures.ok c.loop-rest.invariant.units;
    }
