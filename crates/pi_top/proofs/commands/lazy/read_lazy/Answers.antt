use Rattle.std.proofs.Common.{arith, map, string_bytes}
use borrow.Author.Tests.{ltb-false, ltb-true}
use Rattle.std.proofs.lemmas.List.{length-map}
use Rattle.pi_top.proofs.Wording.{lazy_words-none}
use Rattle.pi_top.proofs.commands.lazy.read_lazy.Goals as goal
use Rattle.pi_top.proofs.commands.lazy.read_lazy.Goals.{in_default-via-then-as_slice-lt4, in_default-via-else-as_slice-lt4+else-this-lt5}

pub returns-in_default : goal.returns-in_default
returns-in_default c =
    lazy_words-none (map string_bytes c.args.words.now.items) (λ e. elim c.in_default.branch [
      | in_default-via-then-as_slice-lt4 w ↦ omega (arith, ltb-true, ltb-false, length-map c.args.words.now.items string_bytes)
      | in_default-via-else-as_slice-lt4+else-this-lt5 w ↦ omega (arith, ltb-true, ltb-false, length-map c.args.words.now.items string_bytes)
    ])
