-- Numbers below a bound, and the entries of tables, one by one.
use Rattle.std.specs.Prelude.{ℕ, zero, suc, ◌+◌, ◌*◌, ◌%◌, ◌==◌, ◌&&◌, ◌||◌, List, [], Option, Some, None, Bool, true, false, if◌then◌else◌, option_map}
use Rattle.pi_bytes.specs.Numbers.{word_at, in_file, halves_at}
use Rattle.pi_format.specs.Tables.{count_at, table_at}

-- the first of n numbers, from i on, that breaks a test
abbrev pub first_bad : (ℕ → Bool) → ℕ → ℕ → Option ℕ
first_bad holds i zero = None
first_bad holds i (suc n) = if holds i then first_bad holds (i + 1) n else Some i

-- a test holds of one of the n numbers from i on
abbrev pub some_from : (ℕ → Bool) → ℕ → ℕ → Bool
some_from test i zero = false
some_from test i (suc n) = test i || some_from test (i + 1) n

-- a test holds of each of the n numbers from i on
abbrev pub each_from : (ℕ → Bool) → ℕ → ℕ → Bool
each_from test i zero = true
each_from test i (suc n) = test i && each_from test (i + 1) n

-- the offset of an entry of the table whose size stands at that place of the header
abbrev pub entry_at : List ℕ → ℕ → ℕ → ℕ → ℕ
entry_at file table width i = table_at file table + width * i

-- the offset of the first entry of a table that breaks a test
abbrev pub broken_entry : List ℕ → ℕ → ℕ → (ℕ → Bool) → Option ℕ
broken_entry file table width holds = option_map (entry_at file table width) (first_bad holds 0 (count_at file table))

-- a type list at an offset: none at offset 0, else a word and so many halves, at a multiple of four, in the file
abbrev pub list_fits : List ℕ → ℕ → Bool
list_fits file at = (at == 0) || ((at % 4 == 0) && (in_file file at 4 && in_file file (at + 4) (2 * word_at file at)))

-- the type ids of the list at an offset
abbrev pub list_at : List ℕ → ℕ → List ℕ
list_at file at = if at == 0 then [] else halves_at file (at + 4) (word_at file at)
