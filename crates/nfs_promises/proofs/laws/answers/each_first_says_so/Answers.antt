use Rattle.nfs_promises.proofs.Answers.FirstSays as proof
use Rattle.nfs_promises.proofs.laws.answers.each_first_says_so.Goals as goal

pub returns : goal.returns
returns c = proof.each_first_says_so
