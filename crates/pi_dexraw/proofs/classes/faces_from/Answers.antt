use Rattle.std.proofs.Common.{sym, ◌∙◌}
use Rattle.pi_format.specs.Tables.{count_at, class_defs, type_ids}
use Rattle.pi_dexraw.proofs.Judged.{class_in_range, one_more_in, face_goes}
use Rattle.pi_dexraw.proofs.classes.faces_from.Goals as goal

pub loop-k-preserved : goal.loop-k-preserved
loop-k-preserved c =
    let file = c.args.types.now in
    let faces = c.args.faces.now in
    let k = c.loop-k.k in
    let class = sym c.is_class.ensures ∙ c.if-not-is_class.false in
    record {
      few = c.greater-from.ensures.few (count_at file class_defs) c.loop-k.invariant.few c.behind.ensures.few;
      range = one_more_in (count_at file type_ids) k faces c.loop-k.invariant.range (class_in_range file _ class);
      so_far = λ i lt.
          c.loop-k.invariant.so_far i lt
          ∙ face_goes file faces i k c.loop-k.from c.behind.result c.greater-from.result c.loop-k-test.true class (c.behind.ensures.value i lt) (c.greater-from.ensures.value i);
    }
