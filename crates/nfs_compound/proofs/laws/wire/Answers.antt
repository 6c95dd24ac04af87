use Rattle.nfs_compound.proofs.{FirstNumber.first_number, WireLaws.ops}
use Rattle.nfs_compound.proofs.laws.wire.Goals as goal

pub returns-clause-number : goal.returns-clause-number
returns-clause-number c = first_number

pub returns-clause-spelled : goal.returns-clause-spelled
returns-clause-spelled c = ops.same

pub returns-clause-fits : goal.returns-clause-fits
returns-clause-fits c = λ op. (ops.to op, ops.from op)
