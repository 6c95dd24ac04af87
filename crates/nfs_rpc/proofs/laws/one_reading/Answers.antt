use Rattle.nfs_rpc.proofs.Readings as readings
use Rattle.nfs_rpc.proofs.Existence.{a_reading}
use Rattle.nfs_rpc.proofs.laws.one_reading.Goals as goal

pub returns-clause-some : goal.returns-clause-some
returns-clause-some c = a_reading

pub returns-clause-one : goal.returns-clause-one
returns-clause-one c = readings.one_reading

pub returns-clause-cut : goal.returns-clause-cut
returns-clause-cut c = readings.reading_then
