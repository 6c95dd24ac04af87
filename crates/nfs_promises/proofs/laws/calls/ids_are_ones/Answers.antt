use Rattle.nfs_promises.proofs.Calls.OwnIds as proof
use Rattle.nfs_promises.proofs.laws.calls.ids_are_ones.Goals as goal

pub returns : goal.returns
returns c = proof.ids_are_ones
