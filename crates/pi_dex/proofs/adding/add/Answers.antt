use Rattle.std.proofs.Common.{length, sym, ap, ◌∙◌, subst}
use Rattle.pi_format.specs.Says.Names.{Named}
use Rattle.pi_format.proofs.Held.{content_holds}
use Rattle.pi_dex.specs.Judged.{AreBytes}
use Rattle.pi_dex.specs.Ready.{SaysClasses}
use Rattle.pi_dex.proofs.Told.{names_fit, all_numbered, all_kept}
use Rattle.pi_dex.proofs.Behind.{are_parts, parts_fit, said_next, room_behind}
use Rattle.pi_dex.proofs.Sayable.{says_classes}
use Rattle.pi_dex.proofs.adding.add.Goals as goal

pub number-requires : goal.number-requires
number-requires c = names_fit c.args.prog.now c.args.raw.now c.requires.room c.requires.files c.file.ensures.small (all_kept c.args.raw.now c.file.ensures.kept c.requires.kept)

pub new-names-requires : goal.new-names-requires
new-names-requires c =
    ap length (c.as_slice.ensures ∙ c.in_ok-new.ensures.numbers) ∙ all_numbered c.args.prog.now.names c.args.raw.now

pub classes-requires-clause-says : goal.classes-requires-clause-says
classes-requires-clause-says c =
    let file = c.args.raw.now in
    let holds = content_holds file c.requires.kept in
    let bytes = subst AreBytes c.file.ensures.value c.are_bytes.ensures in
    let says : SaysClasses file = says_classes file c.rows_are_members.ensures bytes c.file.ensures.small holds.code holds.indices in
    subst SaysClasses (sym (ap (λ (n : Named). n.file) c.new-names.ensures)) says

pub add_file-requires : goal.add_file-requires
add_file-requires c =
    let p = c.args.prog.now in
    let file = c.args.raw.now in
    let parts = are_parts p file _ _ _ _ _ _ c.new-names.ensures (c.as_slice.ensures ∙ c.in_ok-new.ensures.numbers) c.files.ensures.value
    c.in_ok-new.ensures.new c.in_ok-types.ensures c.in_ok-classes.ensures in
    parts_fit p file _ _ _ parts (c.said_fits.ensures p file c.keeps.ensures c.requires.room c.requires.files c.file.ensures.small (all_kept file c.file.ensures.kept c.requires.kept))

pub returns-clause-said : goal.returns-clause-said
returns-clause-said c =
    let p = c.args.prog.now in
    let file = c.args.raw.now in
    let parts = are_parts p file _ _ _ _ _ _ c.new-names.ensures (c.as_slice.ensures ∙ c.in_ok-new.ensures.numbers) c.files.ensures.value
    c.in_ok-new.ensures.new c.in_ok-types.ensures c.in_ok-classes.ensures in
    said_next c.add_file.result p file _ _ _ _ parts (all_kept file c.file.ensures.kept c.requires.kept) c.add_file.ensures.ok

pub returns-clause-room : goal.returns-clause-room
returns-clause-room c =
    let p = c.args.prog.now in
    let file = c.args.raw.now in
    let parts = are_parts p file _ _ _ _ _ _ c.new-names.ensures (c.as_slice.ensures ∙ c.in_ok-new.ensures.numbers) c.files.ensures.value
    c.in_ok-new.ensures.new c.in_ok-types.ensures c.in_ok-classes.ensures in
    room_behind c.add_file.result p file _ (c.said_has_room.ensures p file c.requires.room c.file.ensures.small (all_kept file c.file.ensures.kept c.requires.kept))
    (said_next c.add_file.result p file _ _ _ _ parts (all_kept file c.file.ensures.kept c.requires.kept) c.add_file.ensures.ok)
