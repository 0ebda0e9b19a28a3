-- Counters of a u64, and the calls that a form in memory fails.
use Rattle.std.specs.Prelude.{ℕ, ◌+◌, ◌-◌, ◌^◌, min, List, Contains}

-- a counter one further, which stands at the last value of a u64
abbrev pub next_count : ℕ → ℕ
next_count count = min (count + 1) (2 ^ 64 - 1)

-- the next call is one that fails, after so many calls: its number, from 1, is in the list
abbrev pub NextFails : List ℕ → ℕ → Type 0
NextFails fails calls = Contains fails (calls + 1)
