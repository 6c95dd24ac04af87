use Rattle.std.proofs.Common.{◌∙◌, sym, ap}
use Rattle.nfs_clients.specs.Seen.{case_seen}
use Rattle.nfs_clients.proofs.Rows.{adds_with_room, refuses_without_room, other_row}
use Rattle.nfs_clients.proofs.clients.Clients.case.Goals as goal

pub returns-then-has_room : goal.returns-then-has_room
returns-then-has_room c = adds_with_room _ _ (sym (ap case_seen c.in-Adds.is) ∙ c.row.ensures) (sym c.has_room.ensures ∙ c.if-has_room.true)

pub returns-else-has_room : goal.returns-else-has_room
returns-else-has_room c = refuses_without_room _ _ (sym (ap case_seen c.in-Adds.is) ∙ c.row.ensures) (sym c.has_room.ensures ∙ c.if-has_room.false)

pub returns-in_default : goal.returns-in_default
returns-in_default c = other_row _ _ _ c.row.ensures c.in_default.not-Adds
