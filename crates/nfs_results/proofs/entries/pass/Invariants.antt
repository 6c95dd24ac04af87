use Rattle.std.proofs.Common.{◌≡◌, ◌-◌}
use Rattle.nfs_xdr.specs.{Combinators.passed, Chain.{chain_at, chain}}
use Rattle.nfs_results.specs.Items.{entry}
use Rattle.nfs_results.proofs.entries.pass.Given as goal

abbrev pub invariant-loop : goal.invariant-loop
invariant-loop l = passed (chain_at entry.read (l.most - l.counter) l.c) ≡ passed ((chain entry).read l.fn.c)
