use Rattle.std.proofs.Common.{ℕ, ◌<◌, List, sym, ap, subst, ◌∙◌}
use Rattle.std.specs.List.{All}
use Rattle.pi_format.specs.Tables.{count_at, type_ids}
use Rattle.pi_format.specs.Rules.Entries.{list_at}
use Rattle.pi_format.specs.Rules.Classes.{class_entry}
use Rattle.pi_dexraw.proofs.Kept.{class_list, faces_there, ok_weaker}
use Rattle.pi_dexraw.proofs.raw.Raw.faces.Goals as goal

pub list-requires-clause-fits : goal.list-requires-clause-fits
list-requires-clause-fits c =
    rw (c.class_def_at.ensures.faces, c.file-file.ensures.value) (class_list c.args.self.now c.args.i c.file-file.ensures.kept c.requires)

pub returns-clause-there : goal.returns-clause-there
returns-clause-there c =
    let self = c.args.self.now in
    let same = c.file-file.ensures.value in
    let at = ap (λ (f : List ℕ). list_at f c.class_def_at.result.faces) same
    ∙ ap (list_at self) (c.class_def_at.ensures.faces ∙ ap (λ (f : List ℕ). (class_entry f c.args.i).faces) same) in
    ok_weaker c.list.result
    (λ list e. subst (λ (ts : List ℕ). All (λ t. t < count_at self type_ids) ts) (sym (e ∙ at)) (faces_there self c.args.i c.file-file.ensures.kept c.requires)) c.list.ensures
