use Rattle.nfs_promises.proofs.Calls.WholeRuns.{in_a_run, in_a_turn}
use Rattle.nfs_promises.proofs.laws.calls.nothing_is_lost_in_a_run.Goals as goal

pub returns : goal.returns
returns c = record { ends = in_a_run; within = in_a_turn }
