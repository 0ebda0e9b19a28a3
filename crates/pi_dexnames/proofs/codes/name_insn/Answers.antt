use Rattle.pi_contents.specs.Named.{text_in, naming_of}
use Rattle.pi_dexnames.proofs.Unnamed.{nothing_named}
use Rattle.pi_dexnames.proofs.codes.name_insn.Goals as goal

pub returns-in-ConstClass : goal.returns-in-ConstClass
unfolding naming_of
returns-in-ConstClass c = rw c.in-ConstClass.is c.name_type.ensures

pub returns-in-CheckCast : goal.returns-in-CheckCast
unfolding naming_of
returns-in-CheckCast c = rw c.in-CheckCast.is c.name_type-in-CheckCast.ensures

pub returns-in-InstanceOf : goal.returns-in-InstanceOf
unfolding naming_of
returns-in-InstanceOf c = rw c.in-InstanceOf.is c.name_type-in-InstanceOf.ensures

pub returns-in-NewInstance : goal.returns-in-NewInstance
unfolding naming_of
returns-in-NewInstance c = rw c.in-NewInstance.is c.name_type-in-NewInstance.ensures

pub returns-in-NewArray : goal.returns-in-NewArray
unfolding naming_of
returns-in-NewArray c = rw c.in-NewArray.is c.name_type-in-NewArray.ensures

pub returns-in-Filled : goal.returns-in-Filled
unfolding naming_of
returns-in-Filled c = rw c.in-Filled.is c.name_type-in-Filled.ensures

pub returns-in-Iget : goal.returns-in-Iget
unfolding naming_of
returns-in-Iget c = rw c.in-Iget.is c.name_field_ref.ensures

pub returns-in-Iput : goal.returns-in-Iput
unfolding naming_of
returns-in-Iput c = rw c.in-Iput.is c.name_field_ref-in-Iput.ensures

pub returns-in-Sget : goal.returns-in-Sget
unfolding naming_of
returns-in-Sget c = rw c.in-Sget.is c.name_field_ref-in-Sget.ensures

pub returns-in-Sput : goal.returns-in-Sput
unfolding naming_of
returns-in-Sput c = rw c.in-Sput.is c.name_field_ref-in-Sput.ensures

pub returns-in-Invoke : goal.returns-in-Invoke
unfolding naming_of
returns-in-Invoke c = rw c.in-Invoke.is c.name_called.ensures

pub returns-in_default : goal.returns-in_default
returns-in_default c =
    let none = c.in_default in
    rw (nothing_named (text_in c.args.prog.now) c.args.insn.now none.not-ConstString none.not-ConstClass none.not-CheckCast
    none.not-InstanceOf none.not-NewInstance none.not-NewArray none.not-Filled none.not-Iget none.not-Iput none.not-Sget
    none.not-Sput none.not-Invoke) (c.name_nothing.ensures c.args.pools.now)
