use Rattle.std.proofs.Common.{length}
use Rattle.nfs_exec.specs.Step.Machine.{machine_of}
use Rattle.nfs_exec.proofs.Step.Running.{Loop}
use Rattle.nfs_exec.proofs.tables.Tables.run.Given as goal

abbrev pub invariant-loop-item : goal.invariant-loop-item
invariant-loop-item l =
    Loop l.reply.limit l.reply.sofar (length l.initial.out.bytes) l.now (record { machine = machine_of l.initial.self; context = l.initial.context; sheet = l.initial.out })
    (record { machine = machine_of l.self; context = l.context; sheet = l.out }) l.initial.args l.args l.count

abbrev pub decreases-loop-item : goal.decreases-loop-item
decreases-loop-item l = length l.args.left
