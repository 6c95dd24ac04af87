use Rattle.nfs_results.proofs.WireLaws.{says}
use Rattle.nfs_results.proofs.laws.wire.Goals as goal

pub returns-clause-operation : goal.returns-clause-operation
returns-clause-operation c = λ r. (says r).operation_is

pub returns-clause-status : goal.returns-clause-status
returns-clause-status c = λ r. (says r).status_is

pub returns-clause-spelled : goal.returns-clause-spelled
returns-clause-spelled c = λ r. (says r).behind_is

pub returns-clause-fits : goal.returns-clause-fits
returns-clause-fits c = λ r. ((says r).to, (says r).from)
