-- What a lent payload says.
use Rattle.pi_insn.specs.declared.data.Payload.{Payload}
use Rattle.pi_insn.specs.declared.data.Payload.TheVariants.{Packed, Sparse, Array}
use Rattle.pi_insn.specs.Payloads.{Data, PackedData, SparseData, ArrayData}

-- the units that a payload lends
abbrev pub data_of : Payload → Data
data_of (Packed first targets) = PackedData first targets.now
data_of (Sparse keys targets) = SparseData keys.now targets.now
data_of (Array width size items) = ArrayData width size items.now
