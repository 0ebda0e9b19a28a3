use Rattle.std.proofs.Common.{◌≡◌, ℕ, List, ◌∷◌, Bool, ap, ◌∙◌, subst}
use Rattle.std.specs.Prelude.{map}
use Rattle.std.specs.Result.{IfOk}
use Rattle.pi_model.specs.Texts.{same_text}
use Rattle.pi_format.specs.Rules.Entries.{list_at}
use Rattle.pi_format.specs.Rules.Descriptors.{short_letter}
use Rattle.pi_format.specs.Rules.Strings.{string_units, type_units}
use Rattle.pi_format.specs.Rules.Members.{ProtoEntry, proto_entry, short_agrees}
use Rattle.pi_dexraw.proofs.protos.spells_all.Goals as goal

pub returns : goal.returns
unfolding short_agrees
returns c =
    let file = c.args.types.now in
    let same = c.file-file.ensures.same in
    let i = c.args.i in
    let f : ℕ → ℕ = λ t. short_letter (type_units file t) in
    let given = c.file-file.result.now in
    let entry = c.proto.view_is ∙ c.proto_at-proto.ensures ∙ ap (λ (g : List ℕ). proto_entry g i) same in
    let wanted = c.as_slice.ensures.value ∙ c.in_ok-wanted.ensures
    ∙ ap (λ (e : ProtoEntry). short_letter (type_units file e.ret) ∷ map f c.args.params.now) entry
    ∙ ap (λ (ps : List ℕ). short_letter (type_units file (proto_entry file i).ret) ∷ map f ps) c.requires.params in
    let short = ap (λ (e : ProtoEntry). string_units given e.short) entry ∙ ap (λ (g : List ℕ). string_units g (proto_entry file i).short) same in
    let whole = ap (λ (w : List ℕ). same_text w (string_units given c.proto.inside.short)) wanted
    ∙ ap (same_text (short_letter (type_units file (proto_entry file i).ret) ∷ map f (list_at file (proto_entry file i).params))) short in
    subst (λ (b : Bool). IfOk c.spells.result (λ r. r ≡ b)) whole c.spells.ensures
