use Rattle.nfs_promises.proofs.Answers.Reasons as proof
use Rattle.nfs_promises.proofs.laws.answers.each_no_has_its_reason.Goals as goal

pub returns : goal.returns
returns c = proof.each_no_has_its_reason
