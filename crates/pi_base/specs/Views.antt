-- What contracts see of a store and of a sink. A name is the list of its text's bytes.
use Rattle.std.specs.Prelude.{ℕ, Bool, List, Option}

-- contents by name
abbrev pub Contents : Type 0
Contents = List ℕ → Option (List ℕ)

-- what a store shows: whether it tells its contents, whether it is faithful, the contents, and how often it refused a
-- call, by cause
pub record StoreView : Type 0 where
  pub shown : Bool
  pub faithful : Bool
  pub contents : Contents
  pub read_faults : ℕ
  pub write_faults : ℕ
  pub misses : ℕ
  pub overs : ℕ

-- what a sink shows: all bytes that it took, where it tells them, and how often it was at fault
pub record SinkView : Type 0 where
  pub bytes : Option (List ℕ)
  pub faults : ℕ
