-- How a call answers whether it took a line.
use Rattle.std.specs.Prelude.{◌≡◌, Bool, true, false, Option, Some, None, Result, Ok, Err}

-- it took the line and has the value with it, or there is none
abbrev pub Adds : {A : Type 0} → Option A → A → Bool → Type 0
Adds with_line new true = with_line ≡ Some new
Adds with_line new false = with_line ≡ None

-- the same; a want of memory says nothing
abbrev pub Took : {A E : Type 0} → Option A → A → Result Bool E → Type 0
Took with_line new (Ok took) = Adds with_line new took
Took with_line new (Err e) = Unit {0}
