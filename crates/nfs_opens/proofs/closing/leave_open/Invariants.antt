use Rattle.std.specs.Prelude.{◌==◌, length}
use Rattle.nfs_opens.specs.Holding.{held_by, ListsNoMore}
use Rattle.nfs_opens.proofs.LeaveLemmas.{IsLeft}
use Rattle.nfs_opens.proofs.closing.leave_open.Given as goal

abbrev pub invariant-loop-lock : goal.invariant-loop-lock
invariant-loop-lock l = IsLeft (λ k. k.opened == l.opened) l.initial.locks.items (held_by l.initial.files) l.locks.items (held_by l.files)
    × ListsNoMore l.initial.files l.files

abbrev pub decreases-loop-lock : goal.decreases-loop-lock
decreases-loop-lock l = length l.locks.items
