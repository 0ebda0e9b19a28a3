-- What is known of a text, and of the strings of a file.
use Rattle.std.specs.Prelude.{ℕ, ◌+◌, ◌==◌, nat_lt, not, List, [], ◌∷◌, length, Option, Some, None, true, false, if◌then◌else◌}
use Rattle.std.specs.List.{list_all, list_any}
use Rattle.pi_format.specs.Tables.{count_at, string_ids}
use Rattle.pi_format.specs.Rules.Descriptors.{is_mark, is_simple, is_class_name}
use Rattle.pi_format.specs.Rules.Strings.{string_units}
use Rattle.pi_dexids.specs.Facts.{AreFacts, first_unit}
use Rattle.pi_dexids.specs.declared.tail.Tail.{Tail}

abbrev pub deeper : Option ℕ → Option ℕ
deeper None = None
deeper (Some n) = if nat_lt n 255 then Some (n + 1) else None

-- how many `[` stand before a primitive or a class, if at most 255 do
abbrev pub depth_of : List ℕ → Option ℕ
depth_of [] = None
depth_of (u ∷ us) = if u == 91 then deeper (depth_of us) else if is_simple (u ∷ us) then Some 0 else None

-- what is known of a text
abbrev pub tail_of : List ℕ → Tail
tail_of us = record {
  units = length us;
  first = first_unit us;
  is_plain = list_all (λ v. not (is_mark v)) us;
  has_angle = list_any (λ u. u == 60) us;
  ends_name = is_class_name true us;
  is_name = is_class_name false us;
  depth = depth_of us;
}

-- a list has for each string of a file, in the order of the table, what is known of it
abbrev pub AreTails : List ℕ → List Tail → Type 0
AreTails file tails = AreFacts (λ i. tail_of (string_units file i)) (count_at file string_ids) tails
