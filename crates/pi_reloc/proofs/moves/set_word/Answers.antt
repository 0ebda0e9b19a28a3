use Rattle.std.proofs.Common.{rules, refl}
use Rattle.byteorder.specs.Endian.{little_bytes}
use Rattle.pi_reloc.proofs.Words.{write_others}
use Rattle.pi_reloc.proofs.moves.set_word.Goals as goal

pub returns-clause-others : goal.returns-clause-others
returns-clause-others c = λ b other. write_others c.args.bytes.now c.write_u32.new.buf (little_bytes 4 c.args.word) c.args.k b c.requires refl c.write_u32.ensures (search rules) other
