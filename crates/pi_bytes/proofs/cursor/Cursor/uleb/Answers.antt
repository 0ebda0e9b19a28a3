use Rattle.std.proofs.Common.{ℕ}
use Rattle.pi_bytes.specs.Reading.{Gives}
use Rattle.pi_bytes.specs.Leb.{uleb_at}
use Rattle.pi_bytes.proofs.Lebs.{uleb_gives, uleb_value, uleb_whole, uleb_moved, uleb_short, uleb_long}
use Rattle.pi_bytes.proofs.cursor.Cursor.uleb.Goals as goal

exact : (c : goal.After-move_behind) → Gives (λ (x : ℕ). x) (uleb_at c.args.self.now) c.move_behind.new.self c.move_behind.result
exact c =
    uleb_gives c.args.self.now c.move_behind.new.self c.ahead.result.now c.uleb_of-read.result c.move_behind.result c.uleb_of-read.ensures.value c.ahead.ensures c.move_behind.ensures.exact

pub returns-clause-value : goal.returns-clause-value
returns-clause-value c = uleb_value c.args.self.now c.move_behind.new.self c.move_behind.result (exact c)

pub returns-clause-whole : goal.returns-clause-whole
returns-clause-whole c = uleb_whole c.args.self.now c.move_behind.new.self c.move_behind.result (exact c)

pub returns-clause-short : goal.returns-clause-short
returns-clause-short c = uleb_short c.args.self.now c.move_behind.new.self c.move_behind.result (exact c)

pub returns-clause-long : goal.returns-clause-long
returns-clause-long c = uleb_long c.args.self.now c.move_behind.new.self c.move_behind.result (exact c)

pub returns-clause-moved : goal.returns-clause-moved
returns-clause-moved c = uleb_moved c.args.self.now c.move_behind.new.self c.move_behind.result (exact c)
