use Rattle.std.proofs.Common.{refl, ap, ◌∙◌}
use Rattle.std.specs.Prelude.{◌==◌, find}
use Rattle.nfs_opens.specs.{declared.records.LockState.LockState, Blocks.Listed, Keys.{lock_key, key_of}}
use Rattle.nfs_opens.proofs.lock_states.LockStates.owned.Goals as goal

pub returns : goal.returns
returns c = c.next_by.ensures.first lock_key c.self.invariant.2 refl
    ∙ ap (λ (x : Listed LockState). find (λ (l : LockState). lock_key l == key_of c.args.key.now) x.items) c.self.view_is
