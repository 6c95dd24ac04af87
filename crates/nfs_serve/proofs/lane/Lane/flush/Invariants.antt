-- What was taken so far were acts of this port; the rest is owed.
use Rattle.std.proofs.Common.{◌≡◌, List, true, length}
use Rattle.nfs_serve.specs.{Desk.Act, Lane.{desk_of, Quiet, Spends}}
use Rattle.nfs_serve.proofs.lane.Lane.flush.Given as goal

abbrev pub invariant-loop-ports : goal.invariant-loop-ports
invariant-loop-ports g l =
    ((acts : List Act) × Quiet l.port acts (desk_of l.fn.self) (desk_of l.self) (g.P.Ports.log l.fn.ports) (g.P.Ports.log l.ports) × Spends acts l.fn.left l.left)
    × (l.self.live ≡ true) × (l.self.gone ≡ l.fn.self.gone) × (l.self.heard ≡ l.fn.self.heard) × (l.self.connection ≡ l.fn.self.connection) × (l.self.unread ≡ l.fn.self.unread)

abbrev pub decreases-loop-ports : goal.decreases-loop-ports
decreases-loop-ports g l = length l.self.owed.bytes
