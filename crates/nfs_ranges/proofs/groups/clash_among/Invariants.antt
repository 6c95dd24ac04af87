use Rattle.std.proofs.Common.{◌≡◌, drop}
use Rattle.nfs_ranges.specs.Clashes.{tell}
use Rattle.nfs_ranges.proofs.groups.clash_among.Given as goal

abbrev pub invariant-loop-o : goal.invariant-loop-o
invariant-loop-o l = tell l.number l.kind l.first l.last l.told (drop l.o-index l.owners) ≡ tell l.number l.kind l.first l.last l.fn.best l.owners
