use Rattle.std.proofs.Common.{sym, ◌∙◌}
use Rattle.pi_bytes.specs.Numbers.{most_bytes}
use Rattle.pi_codeitem.proofs.Taken.{few_bytes}
use Rattle.pi_codeitem.proofs.shared.item_bytes.Goals as goal

pub bytes_with-requires : goal.bytes_with-requires
bytes_with-requires c =
    let listed = rw c.in-Ok-Some.field-0-is at c.in-Ok-Some.ensures in
    rw (c.head-head.ensures, c.as_slice.ensures)
    (few_bytes c.args.file.now c.args.at c.in-Ok-Some.lists most_bytes (sym c.lies.ensures ∙ c.if-not-lies.false) (sym listed) c.requires.file)
