use Rattle.nfs_xdr.proofs.Formats.{is_readable, no_other}
use Rattle.nfs_xdr.proofs.laws.formats.Goals as goal

pub returns-clause-read : goal.returns-clause-read
returns-clause-read c = is_readable

pub returns-clause-prefix : goal.returns-clause-prefix
returns-clause-prefix c = no_other
