use Rattle.std.proofs.Common.{arith}
use Rattle.pi_contents.specs.Named.{field_content, method_content}
use Rattle.pi_classtables.specs.Sized.{FieldSized, MethodSized}
use Rattle.pi_dexsizes.proofs.Numbers.{all_by}
use Rattle.pi_dexsizes.proofs.classes.sized.Goals as goal

pub returns : goal.returns
returns c text = record {
  flags = omega arith;
  fields = all_by FieldSized field_content c.args.class.now.fields c.read.ensures text;
  methods = all_by MethodSized method_content c.args.class.now.methods c.read-2.ensures text;
}
