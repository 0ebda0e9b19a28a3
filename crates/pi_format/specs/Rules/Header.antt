-- What the header must hold, rules X1 to X9: for each the place at which it is broken.
use Rattle.std.specs.Prelude.{ℕ, ◌+◌, ◌==◌, ◌&&◌, nat_eq, nat_le, List, length, take, drop, Option, Some, None, Bool, if◌then◌else◌}
use Rattle.std.specs.List.{starts_with}
use Rattle.std.specs.Cmp.Lexicographic.{pointwise}
use Rattle.sha1.specs.Sha1.{sha1}
use Rattle.pi_bytes.specs.Numbers.{word_at}
use Rattle.pi_bytes.specs.Sums.{adler}
use Rattle.pi_format.specs.Tables.{magic, count_at, string_ids, type_ids, proto_ids, field_ids, method_ids, class_defs, table_holds}

-- a place, unless what is asked holds
abbrev pub unless : Bool → ℕ → Option ℕ
unless holds at = if holds then None else Some at

-- X1: the file has at least 112 bytes
abbrev pub broken_length : List ℕ → Option ℕ
broken_length file = unless (nat_le 112 (length file)) (length file)

-- X2: it begins with the magic number
abbrev pub broken_magic : List ℕ → Option ℕ
broken_magic file = unless (starts_with nat_eq file magic) 0

-- X3: the tag of the byte order, X4: the size of the header, X5: the length of the file
abbrev pub broken_order : List ℕ → Option ℕ
broken_order file = unless (word_at file 40 == 0x12345678) 40

abbrev pub broken_header_size : List ℕ → Option ℕ
broken_header_size file = unless (word_at file 36 == 112) 36

abbrev pub broken_file_size : List ℕ → Option ℕ
broken_file_size file = unless (word_at file 32 == length file) 32

-- X6: the checksum is that of the bytes behind it
abbrev pub broken_checksum : List ℕ → Option ℕ
broken_checksum file = unless (word_at file 8 == adler (drop 12 file)) 8

-- X7: the signature is the digest of the bytes behind it
abbrev pub broken_signature : List ℕ → Option ℕ
broken_signature file = unless (pointwise nat_eq (take 20 (drop 12 file)) (sha1 (drop 32 file))) 12

-- X8: each table is empty or lies in the file behind the header, and there are at most 65,535 types and prototypes. The
-- place is that of the table's size.
abbrev pub counted_table : List ℕ → ℕ → ℕ → Bool
counted_table file table width = table_holds file table width && nat_le (count_at file table) 65535

abbrev pub broken_tables : List ℕ → Option ℕ
broken_tables file =
    if table_holds file string_ids 4 then
    (if counted_table file type_ids 4 then
    (if counted_table file proto_ids 12 then
    (if table_holds file field_ids 8 then
    (if table_holds file method_ids 8 then
    unless (table_holds file class_defs 32) class_defs
    else Some method_ids) else Some field_ids) else Some proto_ids) else Some type_ids) else Some string_ids

-- X9: the data lies in the file
abbrev pub broken_data : List ℕ → Option ℕ
broken_data file = unless (nat_le (word_at file 108 + word_at file 104) (length file)) 104
