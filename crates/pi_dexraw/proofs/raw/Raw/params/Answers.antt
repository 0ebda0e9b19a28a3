use Rattle.std.proofs.Common.{◌≡◌, ℕ, ◌<◌, List, true, sym, ap, subst, ◌∙◌}
use Rattle.std.specs.List.{All}
use Rattle.pi_format.specs.Tables.{count_at, type_ids}
use Rattle.pi_format.specs.Rules.Entries.{list_fits, list_at}
use Rattle.pi_format.specs.Rules.Members.{ProtoEntry, proto_entry}
use Rattle.pi_dexraw.proofs.Kept.{proto_list, params_there, ok_weaker}
use Rattle.pi_dexraw.proofs.raw.Raw.params.Goals as goal

pub list-requires-clause-fits : goal.list-requires-clause-fits
list-requires-clause-fits c =
    let self = c.args.self.now in
    let same = c.file-file.ensures.value in
    let place = ap (λ (e : ProtoEntry). e.params) (c.proto.view_is ∙ c.proto_at-proto.ensures ∙ ap (λ (f : List ℕ). proto_entry f c.args.i) same) in
    let fits = proto_list self c.args.i c.file-file.ensures.kept c.requires in
    subst (λ (f : List ℕ). list_fits f c.proto.inside.params ≡ true) (sym same) (subst (λ (n : ℕ). list_fits self n ≡ true) (sym place) fits)

pub returns-clause-there : goal.returns-clause-there
returns-clause-there c =
    let self = c.args.self.now in
    let same = c.file-file.ensures.value in
    let place = ap (λ (e : ProtoEntry). e.params) (c.proto.view_is ∙ c.proto_at-proto.ensures ∙ ap (λ (f : List ℕ). proto_entry f c.args.i) same) in
    let at = ap (λ (f : List ℕ). list_at f c.proto.inside.params) same ∙ ap (list_at self) place in
    ok_weaker c.list.result
    (λ list e. subst (λ (ts : List ℕ). All (λ t. t < count_at self type_ids) ts) (sym (e ∙ at)) (params_there self c.args.i c.file-file.ensures.kept c.requires)) c.list.ensures
