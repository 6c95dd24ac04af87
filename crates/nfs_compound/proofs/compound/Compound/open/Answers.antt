use Rattle.std.proofs.Common.{arith}
use Rattle.nfs_compound.proofs.RequestLaws.{is_request, is_garbage}
use Rattle.nfs_compound.proofs.compound.Compound.open.Goals as goal

pub returns-clause-request : goal.returns-clause-request
returns-clause-request c = is_request c.args.bytes.now c.read.result (record { each = λ i. omega (arith, c.type_inv.bytes i) }) c.read.ensures

pub returns-clause-garbage : goal.returns-clause-garbage
returns-clause-garbage c = is_garbage c.args.bytes.now c.read.result (record { each = λ i. omega (arith, c.type_inv.bytes i) }) c.read.ensures
