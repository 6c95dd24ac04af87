use Rattle.std.specs.Prelude.{◌≡◌, length}
use Rattle.nfs_opens.specs.{Table.table, Calls.without_client}
use Rattle.nfs_opens.proofs.opens.Opens.end_client.Given as goal

abbrev pub invariant-loop-open : goal.invariant-loop-open
invariant-loop-open l = (without_client (table l.self) l.client ≡ without_client (table l.initial.self) l.client) × (l.self.ready ≡ l.initial.self.ready)

abbrev pub decreases-loop-open : goal.decreases-loop-open
decreases-loop-open l = length (table l.self).opens
