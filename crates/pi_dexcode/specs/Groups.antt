-- Instructions by what they say besides registers: a place in the code, a field, or one string or type.
use Rattle.std.specs.Prelude.{Bool, true, false}
use Rattle.pi_insn.specs.declared.raw.RawBody.{RawBody}
use Rattle.pi_insn.specs.declared.raw.RawBody.TheVariants.{ConstString, ConstClass, CheckCast, InstanceOf, NewInstance, NewArray, Goto, If, IfZ, Iget, Iput, Sget, Sput}

abbrev pub is_jump : RawBody → Bool
is_jump (Goto dist) = true
is_jump (If cond a b dist) = true
is_jump (IfZ cond a dist) = true
is_jump _ = false

abbrev pub is_of_field : RawBody → Bool
is_of_field (Iget kind a b f) = true
is_of_field (Iput kind a b f) = true
is_of_field (Sget kind a f) = true
is_of_field (Sput kind a f) = true
is_of_field _ = false

abbrev pub is_of_name : RawBody → Bool
is_of_name (ConstString a s) = true
is_of_name (ConstClass a t) = true
is_of_name (CheckCast a t) = true
is_of_name (InstanceOf a b t) = true
is_of_name (NewInstance a t) = true
is_of_name (NewArray a b t) = true
is_of_name _ = false
