use Rattle.std.proofs.Common.{suc, ◌-◌}
use Rattle.nfs_names.specs.State.{state_of}
use Rattle.nfs_names.proofs.Ended.{IsOnItsWay}
use Rattle.nfs_names.proofs.store.Store.drop_own_files.Given as goal

abbrev pub invariant-loop-open : goal.invariant-loop-open
invariant-loop-open l = IsOnItsWay l.client l.after (state_of l.initial.self) (state_of l.self)

abbrev pub decreases-loop-open : goal.decreases-loop-open
decreases-loop-open l = suc (state_of l.initial.self).opens.last - l.after
