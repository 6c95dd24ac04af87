-- What was done so far were acts of this port, and what they did is counted.
use Rattle.std.proofs.Common.{◌≡◌, List, [], filter, true, length}
use Rattle.nfs_serve.specs.{Desk.{Act, is_of_read}, Lane.{stand, Advances, Spends}}
use Rattle.nfs_serve.proofs.lane.Lane.settle.Given as goal

abbrev pub invariant-loop-self : goal.invariant-loop-self
invariant-loop-self g l =
    ((acts : List Act) × Advances l.port acts (stand l.fn.engine.kept l.fn.self (g.P.Ports.log l.fn.ports) (g.C.Clock.told l.fn.clock))
    (stand l.engine.kept l.self (g.P.Ports.log l.ports) (g.C.Clock.told l.clock))
    × (filter is_of_read acts ≡ []) × Spends acts l.fn.left l.left)
    × (l.self.live ≡ true)

abbrev pub decreases-loop-self : goal.decreases-loop-self
decreases-loop-self g l = length l.self.unread
