use Rattle.std.proofs.Common.{rules}
use Rattle.nfs_serve.proofs.hub.begin_sweep.Goals as goal

pub returns-clause-told : goal.returns-clause-told
returns-clause-told g c = search rules
