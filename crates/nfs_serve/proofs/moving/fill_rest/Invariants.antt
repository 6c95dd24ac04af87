-- What stands in the buffer below `at` was read, and the reader goes on.
use Rattle.std.proofs.Common.{◌≡◌, ◌-◌, ◌≤◌, false, length, take}
use Rattle.std.specs.Io.KnownBytes.{Consumes}
use Rattle.nfs_serve.proofs.moving.fill_rest.Given as goal

abbrev pub invariant-loop-at : goal.invariant-loop-at
invariant-loop-at g l = (length l.buf ≡ length l.initial.buf) × (l.at ≤ length l.buf)
    × Consumes (g.R.Source.left l.initial.r) (g.R.Source.left l.r) (take l.at l.buf) × (g.R.Source.has_failed l.r ≡ false) × (g.R.Source.has_ended l.r ≡ false)

abbrev pub decreases-loop-at : goal.decreases-loop-at
decreases-loop-at g l = length l.buf - l.at
