use Rattle.std.proofs.Common.{◌≡◌, refl, ap}
use Rattle.pi_format.specs.Rules.Rows.{MemberRow}
use Rattle.pi_dex.proofs.words.argument_words.Goals as goal

pub returns : goal.returns
returns c =
    let flags : c.row.inside.flags ≡ c.args.row.now.flags = ap (λ (r : MemberRow). r.flags) c.row.view_is in
    rw (c.receiver_words.ensures.words, c.in_ok-words.ensures.words, c.proto_of.ensures.value, flags) refl
