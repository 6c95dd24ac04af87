use Rattle.std.proofs.Common.{arith}
use Rattle.nfs_results.proofs.entries.size.Goals as goal

pub returns-clause-bytes : goal.returns-clause-bytes
returns-clause-bytes c = record { each = λ i. omega (arith, c.type_inv.bytes i) }
