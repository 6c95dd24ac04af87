use Rattle.nfs_exec.proofs.Step.Compared.{compares, differ_there}
use Rattle.nfs_exec.proofs.laws.compares_all_but_highest.Goals as goal

pub returns-clause-cut : goal.returns-clause-cut
returns-clause-cut c = compares

pub returns-clause-alone : goal.returns-clause-alone
returns-clause-alone c = differ_there
