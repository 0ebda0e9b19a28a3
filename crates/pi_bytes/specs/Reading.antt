-- Readers: functions of a place that give what stands there and the place behind it, or say why nothing is read.
use Rattle.std.specs.Prelude.{◌≡◌, ℕ, nat_le, List, length, take, Result, Ok, Err, if◌then◌else◌}
use Rattle.byteorder.specs.Endian.{little_number}
use Rattle.pi_bytes.specs.Place.{Place, bytes_from, place_behind}
use Rattle.pi_bytes.specs.declared.fault.ReadFault.{ReadFault}
use Rattle.pi_bytes.specs.declared.fault.ReadFault.TheVariants.{Short}

-- one reading after another, as long as none fails
infixl 10 ◌>>=◌
abbrev pub ◌>>=◌ : {A B E : Type 0} → Result A E → (A → Result B E) → Result B E
(Ok x) >>= f = f x
(Err fault) >>= f = Err fault

-- a call answers what was to be read: a value, seen as its view, with the new place behind it, or the fault
abbrev pub Gives : {A B : Type 0} → (A → B) → Result (B × Place) ReadFault → Place → Result A ReadFault → Type 0
Gives view read new (Ok x) = read ≡ Ok (view x, new)
Gives view read new (Err fault) = read ≡ Err fault

-- the next bytes, that many of them
abbrev pub piece_at : ℕ → Place → Result (List ℕ × Place) ReadFault
piece_at n p = if nat_le n (length (bytes_from p)) then Ok (take n (bytes_from p), place_behind n p) else Err Short

-- the number in the next bytes, that many of them, the lowest first
abbrev pub number_at : ℕ → Place → Result (ℕ × Place) ReadFault
number_at n p = if nat_le n (length (bytes_from p)) then Ok (little_number n (bytes_from p), place_behind n p) else Err Short

-- what stands in the next bytes, with their number, as the reading at that place
abbrev pub reading_at : {A : Type 0} → Place → Result (A × ℕ) ReadFault → Result (A × Place) ReadFault
reading_at p (Ok x) = Ok (x.0, place_behind x.1 p)
reading_at p (Err fault) = Err fault
