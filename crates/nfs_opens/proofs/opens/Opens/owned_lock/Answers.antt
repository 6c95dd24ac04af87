use Rattle.std.proofs.Common.{ap, ◌∙◌}
use Rattle.std.specs.Prelude.{◌==◌, find}
use Rattle.nfs_opens.specs.{declared.records.LockState.LockState, Keys.{lock_key, key_of}, Table.Kept}
use Rattle.nfs_opens.proofs.opens.Opens.owned_lock.Goals as goal

pub returns : goal.returns
returns c = c.owned.ensures ∙ ap (λ (k : Kept). find (λ (l : LockState). lock_key l == key_of c.args.key.now) k.locks) c.self.view_is
