use Rattle.nfs_promises.proofs.Bytes.TimesRise.{times_rise, times_are_told}
use Rattle.nfs_promises.proofs.laws.bytes.times_rise.Goals as goal

pub returns-clause-rise : goal.returns-clause-rise
returns-clause-rise c = times_rise

pub returns-clause-told : goal.returns-clause-told
returns-clause-told c = times_are_told
