-- What is none of the instructions that name something names nothing.
use Rattle.std.proofs.Common.{◌≡◌, ◌≢◌, ℕ, List, refl}
use Rattle.pi_model.specs.declared.insn.Access.{Access}
use Rattle.pi_model.specs.declared.insn.FieldRef.{FieldRef}
use Rattle.pi_model.specs.declared.insn.How.{How}
use Rattle.pi_model.specs.declared.insn.Insn.{Insn}
use Rattle.pi_model.specs.declared.insn.Insn.TheVariants.{ConstString, ConstClass, CheckCast, InstanceOf, NewInstance, NewArray, Filled, Iget, Iput, Sget, Sput, Invoke}
use Rattle.pi_model.specs.declared.insn.MethodRef.{MethodRef}
use Rattle.pi_model.specs.declared.numbers.NameNo.{NameNo}
use Rattle.pi_contents.specs.Contents.{NoName}
use Rattle.pi_contents.specs.Named.{naming_of}

pub nothing_named : (text : NameNo → List ℕ) (i : Insn)
    → ((a : ℕ) (s : NameNo) → i ≢ ConstString a s)
    → ((a : ℕ) (t : NameNo) → i ≢ ConstClass a t)
    → ((a : ℕ) (t : NameNo) → i ≢ CheckCast a t)
    → ((a : ℕ) (b : ℕ) (t : NameNo) → i ≢ InstanceOf a b t)
    → ((a : ℕ) (t : NameNo) → i ≢ NewInstance a t)
    → ((a : ℕ) (b : ℕ) (t : NameNo) → i ≢ NewArray a b t)
    → ((t : NameNo) (regs : List ℕ) → i ≢ Filled t regs)
    → ((kind : Access) (a : ℕ) (b : ℕ) (f : FieldRef) → i ≢ Iget kind a b f)
    → ((kind : Access) (a : ℕ) (b : ℕ) (f : FieldRef) → i ≢ Iput kind a b f)
    → ((kind : Access) (a : ℕ) (f : FieldRef) → i ≢ Sget kind a f)
    → ((kind : Access) (a : ℕ) (f : FieldRef) → i ≢ Sput kind a f)
    → ((how : How) (m : MethodRef) (regs : List ℕ) → i ≢ Invoke how m regs)
    → naming_of text i ≡ NoName
unfolding naming_of
nothing_named text (ConstString a s) string class cast test made array filled read write got set call = absurd (string a s refl)
nothing_named text (ConstClass a t) string class cast test made array filled read write got set call = absurd (class a t refl)
nothing_named text (CheckCast a t) string class cast test made array filled read write got set call = absurd (cast a t refl)
nothing_named text (InstanceOf a b t) string class cast test made array filled read write got set call = absurd (test a b t refl)
nothing_named text (NewInstance a t) string class cast test made array filled read write got set call = absurd (made a t refl)
nothing_named text (NewArray a b t) string class cast test made array filled read write got set call = absurd (array a b t refl)
nothing_named text (Filled t regs) string class cast test made array filled read write got set call = absurd (filled t regs refl)
nothing_named text (Iget kind a b f) string class cast test made array filled read write got set call = absurd (read kind a b f refl)
nothing_named text (Iput kind a b f) string class cast test made array filled read write got set call = absurd (write kind a b f refl)
nothing_named text (Sget kind a f) string class cast test made array filled read write got set call = absurd (got kind a f refl)
nothing_named text (Sput kind a f) string class cast test made array filled read write got set call = absurd (set kind a f refl)
nothing_named text (Invoke how m regs) string class cast test made array filled read write got set call = absurd (call how m regs refl)
nothing_named text i string class cast test made array filled read write got set call = refl
