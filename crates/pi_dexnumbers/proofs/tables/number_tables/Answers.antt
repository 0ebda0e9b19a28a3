use Rattle.std.proofs.Common.{◌<◌, ◌^◌, sym, subst, ◌∙◌}
use Rattle.std.specs.List.{All}
use Rattle.pi_dexnumbers.proofs.Assembled.{strings_are, texts_are, type_entries_are, types_are, proto_entries_are, protos_are, field_entries_are, fields_are, method_entries_are, methods_are}
use Rattle.pi_dexnumbers.proofs.Numbering.{type_ranks_fit, proto_ranks_fit}
use Rattle.pi_dexnumbers.proofs.tables.number_tables.Goals as goal

pub rank_protos-requires : goal.rank_protos-requires
rank_protos-requires c =
    let g = c.args.all in
    let texts = c.as_slice-text_ranks.ensures ∙ texts_are g c.in_ok-texts.texts.ranks c.in_ok-texts.ensures.ranks in
    let types = types_are g c.requires.whole c.as_slice-text_ranks.result.now c.as_slice.result.now c.in_ok-types.types.ranks texts c.as_slice.ensures c.in_ok-types.ensures.ranks in
    subst (All (λ n. n < 2 ^ 16)) (sym (c.as_slice-type_ranks.ensures ∙ types)) (type_ranks_fit g c.requires.types)

pub rank_members-requires : goal.rank_members-requires
rank_members-requires c =
    let g = c.args.all in
    let texts = c.as_slice-text_ranks.ensures ∙ texts_are g c.in_ok-texts.texts.ranks c.in_ok-texts.ensures.ranks in
    let types = types_are g c.requires.whole c.as_slice-text_ranks.result.now c.as_slice.result.now c.in_ok-types.types.ranks texts c.as_slice.ensures c.in_ok-types.ensures.ranks in
    let fit = subst (All (λ n. n < 2 ^ 16)) (sym (c.as_slice-type_ranks.ensures ∙ types)) (type_ranks_fit g c.requires.types) in
    record { classes = fit; kinds = fit }

pub rank_members-requires-2 : goal.rank_members-requires-2
rank_members-requires-2 c =
    let g = c.args.all in
    let texts = c.as_slice-text_ranks.ensures ∙ texts_are g c.in_ok-texts.texts.ranks c.in_ok-texts.ensures.ranks in
    let types = c.as_slice-type_ranks.ensures
    ∙ types_are g c.requires.whole c.as_slice-text_ranks.result.now c.as_slice.result.now c.in_ok-types.types.ranks texts c.as_slice.ensures c.in_ok-types.ensures.ranks in
    let protos = protos_are g c.requires.whole c.as_slice-type_ranks.result.now c.in_ok-protos.protos.ranks c.as_slice-2.result.now types c.as_slice-2.ensures c.in_ok-protos.ensures.ranks in
    record {
      classes = subst (All (λ n. n < 2 ^ 16)) (sym types) (type_ranks_fit g c.requires.types);
      kinds = subst (All (λ n. n < 2 ^ 16)) (sym (c.as_slice-5.ensures ∙ protos)) (proto_ranks_fit g c.requires.protos);
    }

pub returns : goal.returns
returns c =
    let g = c.args.all in
    let whole = c.requires.whole in
    let text_slice = c.as_slice-text_ranks.result.now in
    let type_slice = c.as_slice-type_ranks.result.now in
    let texts_made = texts_are g c.in_ok-texts.texts.ranks c.in_ok-texts.ensures.ranks in
    let texts = c.as_slice-text_ranks.ensures ∙ texts_made in
    let types_made = types_are g whole text_slice c.as_slice.result.now c.in_ok-types.types.ranks texts c.as_slice.ensures c.in_ok-types.ensures.ranks in
    let types = c.as_slice-type_ranks.ensures ∙ types_made in
    let protos_made = protos_are g whole type_slice c.in_ok-protos.protos.ranks c.as_slice-2.result.now types c.as_slice-2.ensures c.in_ok-protos.ensures.ranks in
    let protos = c.as_slice-5.ensures ∙ protos_made in
    let fields_made = fields_are g whole text_slice type_slice c.in_ok-fields.fields.ranks c.as_slice-3.result.now texts types c.as_slice-3.ensures c.in_ok-fields.ensures.ranks in
    let methods_made = methods_are g whole text_slice type_slice c.as_slice-5.result.now c.in_ok-methods.methods.ranks c.as_slice-4.result.now
    texts types protos c.as_slice-4.ensures c.in_ok-methods.ensures.ranks in
    record {
      strings = strings_are g c.in_ok-texts.texts.sorted c.in_ok-texts.ensures.sorted;
      types = type_entries_are g whole text_slice c.as_slice.result.now c.in_ok-types.types.entries texts c.as_slice.ensures c.in_ok-types.ensures.entries;
      protos = proto_entries_are g whole text_slice type_slice c.as_slice-2.result.now c.in_ok-protos.protos.entries texts types c.as_slice-2.ensures c.in_ok-protos.ensures.entries;
      fields = field_entries_are g whole text_slice type_slice c.as_slice-3.result.now c.in_ok-fields.fields.entries texts types c.as_slice-3.ensures c.in_ok-fields.ensures.entries;
      methods = method_entries_are g whole text_slice type_slice c.as_slice-5.result.now c.as_slice-4.result.now c.in_ok-methods.methods.entries
          texts types protos c.as_slice-4.ensures c.in_ok-methods.ensures.entries;
      ranks = λ i. record { texts = texts_made i; types = types_made i; fields = fields_made i; methods = methods_made i };
    }
