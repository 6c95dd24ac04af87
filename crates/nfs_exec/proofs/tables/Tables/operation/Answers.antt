use Rattle.std.proofs.Common.{refl}
use Rattle.nfs_compound.specs.declared.op.Item.TheVariants.{Operation}
use Rattle.nfs_names.specs.State.{state_of}
use Rattle.nfs_exec.specs.Step.Machine.{machine_of}
use Rattle.nfs_exec.proofs.Step.Behind.{none_named, named_steps, file_steps, other_steps}
use Rattle.nfs_exec.proofs.tables.Tables.operation.Goals as goal

pub returns-in-Some-clause-steps : goal.returns-in-Some-clause-steps
returns-in-Some-clause-steps c =
    named_steps (machine_of c.args.self.now) c.args.context.now c.args.now (Operation c.args.op.now) c.args.out.now c.name_op.new.out c.name_op.result
    c.in-Some.status (state_of c.name_op.new.store) c.name_op.new.context c.name_op.ensures.comes c.in-Some.is

pub returns-in-Some-file_op-clause-steps : goal.returns-in-Some-file_op-clause-steps
returns-in-Some-file_op-clause-steps c =
    let m = machine_of c.args.self.now in
    let i = Operation c.args.op.now in
    file_steps m c.args.context.now c.args.now i c.args.out.now c.name_op.new.out c.file_op.new.out
    (state_of c.name_op.new.store) (state_of c.file_op.new.store) c.name_op.new.context c.file_op.new.context c.file_op.result c.in-Some-file_op.status
    (none_named m c.args.context.now c.args.now i c.args.out.now c.name_op.new.out c.name_op.result (state_of c.name_op.new.store) c.name_op.new.context
    c.name_op.ensures.comes c.in_default.is)
    c.file_op.ensures.comes c.in-Some-file_op.is

pub returns-clause-steps : goal.returns-clause-steps
returns-clause-steps c =
    let m = machine_of c.args.self.now in
    let i = Operation c.args.op.now in
    other_steps m (record m { store = state_of c.file_op.new.store }) (machine_of c.unstored-res.new.self) c.args.context.now c.args.now i
    c.args.out.now c.name_op.new.out c.file_op.new.out c.write.new.out (state_of c.name_op.new.store) (state_of c.file_op.new.store)
    c.name_op.new.context c.file_op.new.context c.file_op.result c.unstored-res.result c.status.result
    (none_named m c.args.context.now c.args.now i c.args.out.now c.name_op.new.out c.name_op.result (state_of c.name_op.new.store) c.name_op.new.context
    c.name_op.ensures.comes c.in_default.is)
    c.file_op.ensures.comes c.in_default-file_op.is refl c.unstored-res.ensures.outcome c.status.ensures c.write.ensures
