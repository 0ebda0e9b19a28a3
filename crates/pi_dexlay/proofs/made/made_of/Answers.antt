use Rattle.std.proofs.Common.{◌≡◌, ◌+◌, ◌*◌, refl, ap, ◌∙◌, arith}
use Rattle.std.specs.List.{flat_map}
use Rattle.pi_bytes.specs.Numbers.{most_bytes}
use Rattle.pi_parts.specs.Parts.{offsets, aligned, aligned_offsets}
use Rattle.pi_dextables.specs.Codes.{code_item}
use Rattle.pi_dextables.specs.Items.{string_item}
use Rattle.pi_dextables.specs.Rows.{all_bodies, all_rows, class_data}
use Rattle.pi_dextables.specs.Image.{lists_begin, codes_begin, strings_begin, members_begin, arrays_begin, code_offsets, file_end}
use Rattle.pi_dextables.proofs.Head.{ordered}
use Rattle.pi_dexlay.specs.Heads.{all_fit}
use Rattle.pi_dexlay.proofs.Ends.{beyond, too_long}
use Rattle.pi_dexlay.proofs.MadeSteps.{at_lists, at_codes, at_strings, at_members, at_arrays, at_end, lists_placed, codes_placed, members_placed, arrays_placed, lists_ready, codes_ready, strings_ready, members_ready, arrays_ready}
use Rattle.pi_dexlay.proofs.made.made_of.Goals as goal

pub returns-in_default-clause-fault : goal.returns-in_default-clause-fault
returns-in_default-clause-fault c =
    let t = c.args.tables.now in
    let o = ordered t in
    too_long t (beyond (c.args.map + (4 + 12 * c.args.pools.now.kinds)) (lists_begin t) (file_end t) most_bytes (at_lists t c.args.map c.args.pools.now.kinds (c.args.map + (4 + 12 * c.args.pools.now.kinds)) c.requires.map c.requires.pools.kinds refl) (omega (arith, o.codes, o.strings, o.members, o.arrays, o.end)) c.in_default.ensures.long)

pub returns-in_default-end_of-clause-fault : goal.returns-in_default-end_of-clause-fault
returns-in_default-end_of-clause-fault c =
    let t = c.args.tables.now in
    let lists = lists_ready t c.args.map c.args.pools.now.kinds c.in-Some.lists_at c.len.result c.args.pools.now.lists.keys c.in_ok-lists.lists.bytes.items c.requires.map c.requires.pools.kinds c.in-Some.ensures.end c.requires.pools.lists c.in_ok-lists.ensures.bytes (c.len.ensures ∙ c.in_ok-lists.lists.bytes.ok.0) in
    let o = ordered t in
    too_long t (beyond (c.in-Some.lists_at + c.len.result) (codes_begin t) (file_end t) most_bytes (at_codes t c.in-Some.lists_at c.len.result (c.in-Some.lists_at + c.len.result) lists.is lists.long refl) (omega (arith, o.strings, o.members, o.arrays, o.end)) c.in_default-end_of.ensures.long)

pub returns-in_default-end_of-2-clause-fault : goal.returns-in_default-end_of-2-clause-fault
returns-in_default-end_of-2-clause-fault c =
    let t = c.args.tables.now in
    let lists = lists_ready t c.args.map c.args.pools.now.kinds c.in-Some.lists_at c.len.result c.args.pools.now.lists.keys c.in_ok-lists.lists.bytes.items c.requires.map c.requires.pools.kinds c.in-Some.ensures.end c.requires.pools.lists c.in_ok-lists.ensures.bytes (c.len.ensures ∙ c.in_ok-lists.lists.bytes.ok.0) in
    let codes = codes_ready t c.in-Some.lists_at c.len.result c.in-Some-end_of.codes_at c.len-2.result c.in_ok-codes.codes.bytes.items lists.is lists.long c.in-Some-end_of.ensures.end (c.in_ok-codes.ensures.bytes ∙ ap (λ z. aligned code_item c.in-Some-end_of.codes_at (all_bodies z)) c.as_slice-classes.ensures) (c.len-2.ensures ∙ c.in_ok-codes.codes.bytes.ok.0) in
    let o = ordered t in
    too_long t (beyond (c.in-Some-end_of.codes_at + c.len-2.result) (strings_begin t) (file_end t) most_bytes (at_strings t c.in-Some-end_of.codes_at c.len-2.result (c.in-Some-end_of.codes_at + c.len-2.result) codes.is codes.long refl) (omega (arith, o.members, o.arrays, o.end)) c.in_default-end_of-2.ensures.long)

pub returns-in_default-end_of-3-clause-fault : goal.returns-in_default-end_of-3-clause-fault
returns-in_default-end_of-3-clause-fault c =
    let t = c.args.tables.now in
    let lists = lists_ready t c.args.map c.args.pools.now.kinds c.in-Some.lists_at c.len.result c.args.pools.now.lists.keys c.in_ok-lists.lists.bytes.items c.requires.map c.requires.pools.kinds c.in-Some.ensures.end c.requires.pools.lists c.in_ok-lists.ensures.bytes (c.len.ensures ∙ c.in_ok-lists.lists.bytes.ok.0) in
    let codes = codes_ready t c.in-Some.lists_at c.len.result c.in-Some-end_of.codes_at c.len-2.result c.in_ok-codes.codes.bytes.items lists.is lists.long c.in-Some-end_of.ensures.end (c.in_ok-codes.ensures.bytes ∙ ap (λ z. aligned code_item c.in-Some-end_of.codes_at (all_bodies z)) c.as_slice-classes.ensures) (c.len-2.ensures ∙ c.in_ok-codes.codes.bytes.ok.0) in
    let strings = strings_ready t c.in-Some-end_of.codes_at c.len-2.result c.in-Some-end_of-2.strings_at c.len-3.result c.in_ok-strings.strings.bytes.items codes.is codes.long c.in-Some-end_of-2.ensures.end (c.in_ok-strings.ensures.bytes ∙ ap (flat_map string_item) c.as_slice.ensures) (c.len-3.ensures ∙ c.in_ok-strings.strings.bytes.ok.0) in
    let o = ordered t in
    too_long t (beyond (c.in-Some-end_of-2.strings_at + c.len-3.result) (members_begin t) (file_end t) most_bytes (at_members t c.in-Some-end_of-2.strings_at c.len-3.result (c.in-Some-end_of-2.strings_at + c.len-3.result) strings.is strings.long refl) (omega (arith, o.arrays, o.end)) c.in_default-end_of-3.ensures.long)

pub returns-in_default-end_of-4-clause-fault : goal.returns-in_default-end_of-4-clause-fault
returns-in_default-end_of-4-clause-fault c =
    let t = c.args.tables.now in
    let lists = lists_ready t c.args.map c.args.pools.now.kinds c.in-Some.lists_at c.len.result c.args.pools.now.lists.keys c.in_ok-lists.lists.bytes.items c.requires.map c.requires.pools.kinds c.in-Some.ensures.end c.requires.pools.lists c.in_ok-lists.ensures.bytes (c.len.ensures ∙ c.in_ok-lists.lists.bytes.ok.0) in
    let codes = codes_ready t c.in-Some.lists_at c.len.result c.in-Some-end_of.codes_at c.len-2.result c.in_ok-codes.codes.bytes.items lists.is lists.long c.in-Some-end_of.ensures.end (c.in_ok-codes.ensures.bytes ∙ ap (λ z. aligned code_item c.in-Some-end_of.codes_at (all_bodies z)) c.as_slice-classes.ensures) (c.len-2.ensures ∙ c.in_ok-codes.codes.bytes.ok.0) in
    let strings = strings_ready t c.in-Some-end_of.codes_at c.len-2.result c.in-Some-end_of-2.strings_at c.len-3.result c.in_ok-strings.strings.bytes.items codes.is codes.long c.in-Some-end_of-2.ensures.end (c.in_ok-strings.ensures.bytes ∙ ap (flat_map string_item) c.as_slice.ensures) (c.len-3.ensures ∙ c.in_ok-strings.strings.bytes.ok.0) in
    let placed : c.in_ok-codes.codes.offsets.items ≡ code_offsets t = codes_placed t c.in-Some-end_of.codes_at c.in_ok-codes.codes.offsets.items codes.is (c.in_ok-codes.ensures.offsets ∙ ap (λ z. aligned_offsets code_item c.in-Some-end_of.codes_at (all_bodies z)) c.as_slice-classes.ensures) in
    let members = members_ready t c.in-Some-end_of-2.strings_at c.len-3.result c.in-Some-end_of-3.members_at c.len-4.result c.deref.result.now c.in_ok-members.members.bytes.items strings.is strings.long c.in-Some-end_of-3.ensures.end (c.deref.ensures.value ∙ placed) (c.in_ok-members.ensures.bytes ∙ ap (λ z. flat_map class_data (all_rows c.deref.result.now z)) c.as_slice-classes.ensures) (c.len-4.ensures ∙ c.in_ok-members.members.bytes.ok.0) in
    let o = ordered t in
    too_long t (beyond (c.in-Some-end_of-3.members_at + c.len-4.result) (arrays_begin t) (file_end t) most_bytes (at_arrays t c.in-Some-end_of-3.members_at c.len-4.result (c.in-Some-end_of-3.members_at + c.len-4.result) members.is members.long refl) (omega (arith, o.end)) c.in_default-end_of-4.ensures.long)

pub returns-in_default-end_of-5-clause-fault : goal.returns-in_default-end_of-5-clause-fault
returns-in_default-end_of-5-clause-fault c =
    let t = c.args.tables.now in
    let lists = lists_ready t c.args.map c.args.pools.now.kinds c.in-Some.lists_at c.len.result c.args.pools.now.lists.keys c.in_ok-lists.lists.bytes.items c.requires.map c.requires.pools.kinds c.in-Some.ensures.end c.requires.pools.lists c.in_ok-lists.ensures.bytes (c.len.ensures ∙ c.in_ok-lists.lists.bytes.ok.0) in
    let codes = codes_ready t c.in-Some.lists_at c.len.result c.in-Some-end_of.codes_at c.len-2.result c.in_ok-codes.codes.bytes.items lists.is lists.long c.in-Some-end_of.ensures.end (c.in_ok-codes.ensures.bytes ∙ ap (λ z. aligned code_item c.in-Some-end_of.codes_at (all_bodies z)) c.as_slice-classes.ensures) (c.len-2.ensures ∙ c.in_ok-codes.codes.bytes.ok.0) in
    let strings = strings_ready t c.in-Some-end_of.codes_at c.len-2.result c.in-Some-end_of-2.strings_at c.len-3.result c.in_ok-strings.strings.bytes.items codes.is codes.long c.in-Some-end_of-2.ensures.end (c.in_ok-strings.ensures.bytes ∙ ap (flat_map string_item) c.as_slice.ensures) (c.len-3.ensures ∙ c.in_ok-strings.strings.bytes.ok.0) in
    let placed : c.in_ok-codes.codes.offsets.items ≡ code_offsets t = codes_placed t c.in-Some-end_of.codes_at c.in_ok-codes.codes.offsets.items codes.is (c.in_ok-codes.ensures.offsets ∙ ap (λ z. aligned_offsets code_item c.in-Some-end_of.codes_at (all_bodies z)) c.as_slice-classes.ensures) in
    let members = members_ready t c.in-Some-end_of-2.strings_at c.len-3.result c.in-Some-end_of-3.members_at c.len-4.result c.deref.result.now c.in_ok-members.members.bytes.items strings.is strings.long c.in-Some-end_of-3.ensures.end (c.deref.ensures.value ∙ placed) (c.in_ok-members.ensures.bytes ∙ ap (λ z. flat_map class_data (all_rows c.deref.result.now z)) c.as_slice-classes.ensures) (c.len-4.ensures ∙ c.in_ok-members.members.bytes.ok.0) in
    let arrays = arrays_ready t c.in-Some-end_of-3.members_at c.len-4.result c.in-Some-end_of-4.arrays_at c.len-5.result c.args.pools.now.arrays.keys c.in_ok-arrays.arrays.bytes.items members.is members.long c.in-Some-end_of-4.ensures.end c.requires.pools.arrays c.in_ok-arrays.ensures.bytes (c.len-5.ensures ∙ c.in_ok-arrays.arrays.bytes.ok.0) in
    too_long t (beyond (c.in-Some-end_of-4.arrays_at + c.len-5.result) (file_end t) (file_end t) most_bytes (at_end t c.in-Some-end_of-4.arrays_at c.len-5.result (c.in-Some-end_of-4.arrays_at + c.len-5.result) arrays.is arrays.long refl) (omega (arith)) c.in_default-end_of-5.ensures.long)

pub returns-clause-made : goal.returns-clause-made
returns-clause-made c =
    let t = c.args.tables.now in
    let lists = lists_ready t c.args.map c.args.pools.now.kinds c.in-Some.lists_at c.len.result c.args.pools.now.lists.keys c.in_ok-lists.lists.bytes.items c.requires.map c.requires.pools.kinds c.in-Some.ensures.end c.requires.pools.lists c.in_ok-lists.ensures.bytes (c.len.ensures ∙ c.in_ok-lists.lists.bytes.ok.0) in
    let codes = codes_ready t c.in-Some.lists_at c.len.result c.in-Some-end_of.codes_at c.len-2.result c.in_ok-codes.codes.bytes.items lists.is lists.long c.in-Some-end_of.ensures.end (c.in_ok-codes.ensures.bytes ∙ ap (λ z. aligned code_item c.in-Some-end_of.codes_at (all_bodies z)) c.as_slice-classes.ensures) (c.len-2.ensures ∙ c.in_ok-codes.codes.bytes.ok.0) in
    let strings = strings_ready t c.in-Some-end_of.codes_at c.len-2.result c.in-Some-end_of-2.strings_at c.len-3.result c.in_ok-strings.strings.bytes.items codes.is codes.long c.in-Some-end_of-2.ensures.end (c.in_ok-strings.ensures.bytes ∙ ap (flat_map string_item) c.as_slice.ensures) (c.len-3.ensures ∙ c.in_ok-strings.strings.bytes.ok.0) in
    let placed : c.in_ok-codes.codes.offsets.items ≡ code_offsets t = codes_placed t c.in-Some-end_of.codes_at c.in_ok-codes.codes.offsets.items codes.is (c.in_ok-codes.ensures.offsets ∙ ap (λ z. aligned_offsets code_item c.in-Some-end_of.codes_at (all_bodies z)) c.as_slice-classes.ensures) in
    let members = members_ready t c.in-Some-end_of-2.strings_at c.len-3.result c.in-Some-end_of-3.members_at c.len-4.result c.deref.result.now c.in_ok-members.members.bytes.items strings.is strings.long c.in-Some-end_of-3.ensures.end (c.deref.ensures.value ∙ placed) (c.in_ok-members.ensures.bytes ∙ ap (λ z. flat_map class_data (all_rows c.deref.result.now z)) c.as_slice-classes.ensures) (c.len-4.ensures ∙ c.in_ok-members.members.bytes.ok.0) in
    let arrays = arrays_ready t c.in-Some-end_of-3.members_at c.len-4.result c.in-Some-end_of-4.arrays_at c.len-5.result c.args.pools.now.arrays.keys c.in_ok-arrays.arrays.bytes.items members.is members.long c.in-Some-end_of-4.ensures.end c.requires.pools.arrays c.in_ok-arrays.ensures.bytes (c.len-5.ensures ∙ c.in_ok-arrays.arrays.bytes.ok.0) in
    let end = at_end t c.in-Some-end_of-4.arrays_at c.len-5.result c.in-Some-end_of-5.end arrays.is arrays.long c.in-Some-end_of-5.ensures.end in
    record {
      lists = record { is = lists.same; at = lists_placed t c.in-Some.lists_at c.args.pools.now.lists.keys c.in_ok-lists.lists.offsets.items lists.is c.requires.pools.lists c.in_ok-lists.ensures.offsets };
      codes = record { is = codes.same; at = placed; fit = c.in_ok-codes.ensures.fit ∙ ap (λ z. all_fit (all_bodies z)) c.as_slice-classes.ensures };
      strings = record {
        is = strings.same;
        at = c.in_ok-strings.ensures.offsets ∙ (ap (λ z. offsets string_item c.in-Some-end_of-2.strings_at z) c.as_slice.ensures ∙ ap (λ k. offsets string_item k t.strings) strings.is);
      };
      members = record {
        is = members.same;
        at = members_placed t c.in-Some-end_of-3.members_at c.deref.result.now c.in_ok-members.members.offsets.items members.is (c.deref.ensures.value ∙ placed)
            (c.in_ok-members.ensures.offsets ∙ ap (λ z. offsets class_data c.in-Some-end_of-3.members_at (all_rows c.deref.result.now z)) c.as_slice-classes.ensures);
      };
      arrays = record { is = arrays.same; at = arrays_placed t c.in-Some-end_of-4.arrays_at c.args.pools.now.arrays.keys c.in_ok-arrays.arrays.offsets.items arrays.is c.requires.pools.arrays c.in_ok-arrays.ensures.offsets };
      places = record {
        lists = lists.is;
        codes = codes.is;
        strings = strings.is;
        members = members.is;
        arrays = arrays.is;
        end = end;
        few = (let within = c.in-Some-end_of-5.ensures.within in omega (arith, end, within));
      };
    }
