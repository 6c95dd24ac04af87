use Rattle.nfs_lease.specs.Queue.{standing}
use Rattle.nfs_exec.specs.Step.Machine.{machine_of}
use Rattle.nfs_exec.proofs.Step.Expiring.{Expires}
use Rattle.nfs_exec.proofs.tables.Tables.expire.Given as goal

abbrev pub invariant-loop-client : goal.invariant-loop-client
invariant-loop-client l = Expires l.now (machine_of l.initial.self) (machine_of l.self)

abbrev pub decreases-loop-client : goal.decreases-loop-client
decreases-loop-client l = standing l.self.leases
