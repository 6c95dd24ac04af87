use Rattle.nfs_compound.proofs.RequestLaws.{request_takes, request_again, garbage_takes, garbage_again}
use Rattle.nfs_compound.proofs.laws.reading.Goals as goal

pub returns-clause-requests : goal.returns-clause-requests
returns-clause-requests c = λ bytes r fits. (request_takes bytes r fits, request_again bytes r fits)

pub returns-clause-garbage : goal.returns-clause-garbage
returns-clause-garbage c = λ bytes fits. (garbage_takes bytes fits, garbage_again bytes fits)
