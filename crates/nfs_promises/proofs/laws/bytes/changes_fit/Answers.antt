use Rattle.nfs_promises.proofs.Bytes.ChangesFit.{changes_fit, change_is_read, last_stays}
use Rattle.nfs_promises.proofs.laws.bytes.changes_fit.Goals as goal

pub returns-clause-fit : goal.returns-clause-fit
returns-clause-fit c = changes_fit

pub returns-clause-read : goal.returns-clause-read
returns-clause-read c = change_is_read

pub returns-clause-last : goal.returns-clause-last
returns-clause-last c = last_stays
