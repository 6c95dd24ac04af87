use Rattle.nfs_rpc.proofs.Readings as readings
use Rattle.nfs_rpc.proofs.Existence.{starts}
use Rattle.nfs_rpc.proofs.laws.one_part.Goals as goal

pub returns-clause-unfinished : goal.returns-clause-unfinished
returns-clause-unfinished c = readings.part_unfinished

pub returns-clause-one : goal.returns-clause-one
returns-clause-one c = readings.part_same

pub returns-clause-empty : goal.returns-clause-empty
returns-clause-empty c = starts
