use Rattle.std.proofs.Common.{arith}
use Rattle.nfs_opens.proofs.key.are_bytes.Goals as goal

pub returns : goal.returns
returns c = record { each = λ i. omega (arith, c.type_inv.bytes i) }
