use Rattle.std.proofs.Common.{ap, ◌∙◌}
use Rattle.std.specs.Prelude.{◌==◌, ◌&&◌, nat_lt, find}
use Rattle.nfs_opens.specs.{declared.records.LockState.LockState, Blocks.Listed}
use Rattle.nfs_opens.proofs.lock_states.LockStates.next_under.Goals as goal

pub returns : goal.returns
returns c = c.next_by.ensures.next (λ (l : LockState). l.opened) c.self.invariant.1
    ∙ ap (λ (x : Listed LockState). find (λ (l : LockState). (l.opened == c.args.opened) && nat_lt c.args.after l.number) x.items) c.self.view_is
