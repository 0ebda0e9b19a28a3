use Rattle.std.proofs.Common.{subst}
use Rattle.pi_format.proofs.Held.{content_holds}
use Rattle.pi_dex.specs.Judged.{AreBytes}
use Rattle.pi_dex.proofs.Codes.{codes_say}
use Rattle.pi_dex.proofs.Sayable.{says_classes}
use Rattle.pi_dex.proofs.weight.weigh.Goals as goal

pub code_weights-requires : goal.code_weights-requires
code_weights-requires c =
    let holds = content_holds c.args.raw.now c.requires.kept in
    codes_say c.args.raw.now c.args.codes.now c.requires.codes holds.code holds.indices

pub all_classes-requires-clause-says : goal.all_classes-requires-clause-says
all_classes-requires-clause-says c =
    let file = c.args.raw.now in
    let holds = content_holds file c.requires.kept in
    let bytes = subst AreBytes c.file.ensures.value c.are_bytes.ensures in
    says_classes file c.rows_are_members.ensures bytes c.file.ensures.small holds.code holds.indices
