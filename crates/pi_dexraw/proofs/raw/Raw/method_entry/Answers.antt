use Rattle.pi_dexraw.proofs.Kept.{method_there}
use Rattle.pi_dexraw.proofs.raw.Raw.method_entry.Goals as goal

pub returns-clause-class : goal.returns-clause-class
returns-clause-class c =
    let there = method_there c.args.self.now c.args.i c.file.ensures.kept c.requires in
    rw (c.member_at.ensures, c.file.ensures.value) there.class

pub returns-clause-kind : goal.returns-clause-kind
returns-clause-kind c =
    let there = method_there c.args.self.now c.args.i c.file.ensures.kept c.requires in
    rw (c.member_at.ensures, c.file.ensures.value) there.kind

pub returns-clause-name : goal.returns-clause-name
returns-clause-name c =
    let there = method_there c.args.self.now c.args.i c.file.ensures.kept c.requires in
    rw (c.member_at.ensures, c.file.ensures.value) there.name
