use Rattle.std.proofs.Common.{ap, ◌∙◌}
use Rattle.std.specs.Prelude.{◌==◌, ◌&&◌, nat_lt, find}
use Rattle.nfs_opens.specs.{declared.records.LockState.LockState, Table.Kept}
use Rattle.nfs_opens.proofs.opens.Opens.next_under.Goals as goal

pub returns : goal.returns
returns c = c.next_under.ensures ∙ ap (λ (k : Kept). find (λ (l : LockState). (l.opened == c.args.opened) && nat_lt c.args.after l.number) k.locks) c.self.view_is
