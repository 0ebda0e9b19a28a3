use Rattle.std.proofs.Common.{ℕ, List, Bool, sym, ap, ◌∙◌}
use Rattle.std.specs.Prelude.{◌&&◌, nat_eq}
use Rattle.std.specs.List.{list_all}
use Rattle.pi_model.specs.Distinct.{all_distinct}
use Rattle.pi_format.specs.Rules.Entries.{list_fits, list_at}
use Rattle.pi_format.specs.Rules.Classes.{class_entry, is_class_id, stands_earlier, faces_hold}
use Rattle.pi_dexraw.proofs.classes.hold_faces.Goals as goal

pub returns-clause-value : goal.returns-clause-value
unfolding faces_hold
returns-clause-value c =
    let file = c.args.types.now in
    let i = c.args.i in
    let given = c.file-file.result.now in
    let same = c.file-file.ensures.same in
    let place : ℕ = (class_entry file i).faces in
    let at = c.class_def_at-at.ensures.faces ∙ ap (λ (g : List ℕ). (class_entry g i).faces) same in
    let fit = sym (c.fits.ensures ∙ ap (list_fits given) at ∙ ap (λ (g : List ℕ). list_fits g place) same) ∙ c.if-not-fits.false in
    c.is_from.ensures
    ∙ sym (c.in_ok-from.ensures.value.each i c.requires.counted)
    ∙ ap (λ (a : ℕ). list_all (λ t. is_class_id file t && stands_earlier file i t) (list_at file a) && all_distinct nat_eq (list_at file a)) at
    ∙ ap (λ (b : Bool). b && (list_all (λ t. is_class_id file t && stands_earlier file i t) (list_at file place) && all_distinct nat_eq (list_at file place))) (sym fit)
