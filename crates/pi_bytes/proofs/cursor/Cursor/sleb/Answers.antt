use Rattle.std.specs.Prelude.{ℤ}
use Rattle.pi_bytes.specs.Reading.{Gives}
use Rattle.pi_bytes.specs.Leb.{sleb_at}
use Rattle.pi_bytes.proofs.Lebs.{sleb_gives, sleb_value, sleb_whole, sleb_moved, sleb_short, sleb_long}
use Rattle.pi_bytes.proofs.cursor.Cursor.sleb.Goals as goal

exact : (c : goal.After-move_behind) → Gives (λ (x : ℤ). x) (sleb_at c.args.self.now) c.move_behind.new.self c.move_behind.result
exact c =
    sleb_gives c.args.self.now c.move_behind.new.self c.ahead.result.now c.sleb_of-read.result c.move_behind.result c.sleb_of-read.ensures.value c.ahead.ensures c.move_behind.ensures.exact

pub returns-clause-value : goal.returns-clause-value
returns-clause-value c = sleb_value c.args.self.now c.move_behind.new.self c.move_behind.result (exact c)

pub returns-clause-whole : goal.returns-clause-whole
returns-clause-whole c = sleb_whole c.args.self.now c.move_behind.new.self c.move_behind.result (exact c)

pub returns-clause-short : goal.returns-clause-short
returns-clause-short c = sleb_short c.args.self.now c.move_behind.new.self c.move_behind.result (exact c)

pub returns-clause-long : goal.returns-clause-long
returns-clause-long c = sleb_long c.args.self.now c.move_behind.new.self c.move_behind.result (exact c)

pub returns-clause-moved : goal.returns-clause-moved
returns-clause-moved c = sleb_moved c.args.self.now c.move_behind.new.self c.move_behind.result (exact c)
