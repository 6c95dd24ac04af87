use Rattle.nfs_rpc.proofs.Following.{part_read, record_read, long_read}
use Rattle.nfs_rpc.proofs.laws.following.Goals as goal

pub returns-clause-more : goal.returns-clause-more
returns-clause-more c = part_read

pub returns-clause-whole : goal.returns-clause-whole
returns-clause-whole c = record_read

pub returns-clause-too_long : goal.returns-clause-too_long
returns-clause-too_long c = long_read
