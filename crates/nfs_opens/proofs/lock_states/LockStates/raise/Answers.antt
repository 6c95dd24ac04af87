use Rattle.std.proofs.Common.{refl}
use Rattle.nfs_opens.specs.{declared.records.LockState.LockState, Locking.raised, Keys.lock_key}
use Rattle.nfs_opens.proofs.IndexLemmas.{index_changed}
use Rattle.nfs_opens.proofs.lock_states.LockStates.raise.Goals as goal

pub invariant_of-self : goal.invariant_of-self
invariant_of-self c =
    let locks = c.self.inside.states.items in (
      index_changed (λ (l : LockState). l.file) (λ l. l.number) raised c.args.number locks c.change.new.self.items c.self.inside.by_file.items
          c.change.ensures.items (λ l. refl) (λ l. refl) c.self.invariant.0,
      index_changed (λ (l : LockState). l.opened) (λ l. l.number) raised c.args.number locks c.change.new.self.items c.self.inside.by_open.items
          c.change.ensures.items (λ l. refl) (λ l. refl) c.self.invariant.1,
      index_changed lock_key (λ l. l.number) raised c.args.number locks c.change.new.self.items c.self.inside.by_owner.items
          c.change.ensures.items (λ l. refl) (λ l. refl) c.self.invariant.2,
    )
