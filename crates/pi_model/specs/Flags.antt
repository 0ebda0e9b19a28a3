-- Access flags, as the published format gives their bits.
use Rattle.std.specs.Prelude.{ℕ, ◌==◌, bit_and, Bool}

-- the bit of a flag is set
abbrev pub has_flag : ℕ → ℕ → Bool
has_flag flag flags = bit_and flags flag == flag

abbrev pub is_public : ℕ → Bool
is_public flags = has_flag 0x1 flags

abbrev pub is_private : ℕ → Bool
is_private flags = has_flag 0x2 flags

abbrev pub is_static : ℕ → Bool
is_static flags = has_flag 0x8 flags

abbrev pub is_native : ℕ → Bool
is_native flags = has_flag 0x100 flags

abbrev pub is_interface : ℕ → Bool
is_interface flags = has_flag 0x200 flags

abbrev pub is_abstract : ℕ → Bool
is_abstract flags = has_flag 0x400 flags

abbrev pub is_flagged_constructor : ℕ → Bool
is_flagged_constructor flags = has_flag 0x10000 flags
