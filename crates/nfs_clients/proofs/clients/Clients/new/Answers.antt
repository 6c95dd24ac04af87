use Rattle.std.proofs.Common.{arith}
use Rattle.nfs_clients.proofs.clients.Clients.new.Goals as goal

pub invariant_of-result : goal.invariant_of-result
invariant_of-result c = rw c.new.ensures (
  record {
    rising = omega arith;
    alone = λ c d a b owner mark. absurd a;
    few = omega arith;
    instance = omega arith;
  },
  λ owner. c.new-2.ensures owner,
)
