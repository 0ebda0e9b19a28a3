use Rattle.std.proofs.Common.{◌∙◌, ap, sym, drop, length, ◌++◌, map, None}
use Rattle.pi_format.specs.declared.lists.MemberList.TheVariants.{StaticFields, InstanceFields, DirectMethods, VirtualMethods}
use Rattle.pi_dextables.specs.Rows.{bodies_in, field_row, method_rows, rows_bytes}
use Rattle.pi_dexlay.proofs.RowSteps.{no_data, no_codes, counts_of, data_put}
use Rattle.pi_dexlay.proofs.rows.put_class_data.Goals as goal

pub returns-then-has_no_members-clause-bytes : goal.returns-then-has_no_members-clause-bytes
returns-then-has_no_members-clause-bytes c =
    let offsets = c.args.offsets.now in
    no_data c.args.class.now offsets c.args.out.now.items c.has_no_members.result c.if-has_no_members.true (c.has_no_members.ensures offsets)

pub returns-then-has_no_members-clause-left : goal.returns-then-has_no_members-clause-left
returns-then-has_no_members-clause-left c =
    let offsets = c.args.offsets.now in
    no_codes c.args.class.now offsets c.has_no_members.result c.if-has_no_members.true (c.has_no_members.ensures offsets)

pub returns-clause-bytes : goal.returns-clause-bytes
returns-clause-bytes c =
    let offsets = c.args.offsets.now in
    let left = c.in_ok-left.left.now in
    let o1 = c.put_counts.new.out.items in
    let o2 = c.put_fields.new.out.items in
    let o3 = c.put_fields-2.new.out.items in
    let o4 = c.put_methods.new.out.items in
    data_put c.args.class.now offsets left c.args.out.now.items o1 o2 o3 o4 c.put_methods-2.new.out.items c.has_no_members.result
    c.if-has_no_members.false (c.has_no_members.ensures offsets)
    (c.in_ok-put_counts.ensures ∙ ap (λ z. c.args.out.now.items ++ z) (sym (counts_of c.args.class.now offsets)))
    (c.in_ok-put_fields.ensures ∙ ap (λ z. o1 ++ rows_bytes StaticFields None (map field_row z)) c.as_slice-statics.ensures)
    (c.in_ok-put_fields-2.ensures ∙ ap (λ z. o2 ++ rows_bytes InstanceFields None (map field_row z)) c.as_slice-instances.ensures)
    (c.in_ok-left.ensures.bytes ∙ ap (λ z. o3 ++ rows_bytes DirectMethods None (method_rows offsets z)) c.as_slice.ensures)
    (c.in_ok-left.ensures.left ∙ ap (λ z. drop (length (bodies_in z)) offsets) c.as_slice.ensures)
    (c.in_ok-left-2.ensures.bytes ∙ ap (λ z. o4 ++ rows_bytes VirtualMethods None (method_rows left z)) c.as_slice-2.ensures)
