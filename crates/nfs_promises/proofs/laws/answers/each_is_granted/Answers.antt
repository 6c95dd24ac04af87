use Rattle.nfs_promises.proofs.Answers.Granted as proof
use Rattle.nfs_promises.proofs.laws.answers.each_is_granted.Goals as goal

pub returns : goal.returns
returns c = proof.each_is_granted
