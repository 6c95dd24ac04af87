use Rattle.nfs_rpc.proofs.Lengths.{length_head, length_refusal}
use Rattle.nfs_rpc.proofs.laws.lengths.Goals as goal

pub returns-clause-head : goal.returns-clause-head
returns-clause-head c = length_head

pub returns-clause-refusal : goal.returns-clause-refusal
returns-clause-refusal c = length_refusal
