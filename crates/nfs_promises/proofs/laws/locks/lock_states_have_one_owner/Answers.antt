use Rattle.nfs_promises.proofs.Locks.LockOwners.{states_have_one_owner, only_one_owner}
use Rattle.nfs_promises.proofs.laws.locks.lock_states_have_one_owner.Goals as goal

pub returns : goal.returns
returns c = record { states = states_have_one_owner; owners = only_one_owner }
