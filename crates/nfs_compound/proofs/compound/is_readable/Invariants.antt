use Rattle.std.proofs.Common.{◌≡◌, ◌-◌}
use Rattle.std.specs.Prelude.{is_some}
use Rattle.nfs_compound.specs.ReadRequest.{items_at}
use Rattle.nfs_compound.proofs.compound.is_readable.Given as goal

abbrev pub invariant-loop : goal.invariant-loop
invariant-loop l = is_some (items_at (l.count - l.counter) l.cursor) ≡ is_some (items_at l.count l.bytes)
