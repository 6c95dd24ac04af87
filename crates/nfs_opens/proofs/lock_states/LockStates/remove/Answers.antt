use Rattle.std.proofs.Common.{◌≡◌, ℕ, Some, None, sym, subst, ap, ◌∙◌}
use Rattle.std.specs.{Prelude.{◌==◌, find}, Option.option_copied}
use Rattle.nfs_xdr.specs.Tables.{In}
use Rattle.nfs_opens.specs.{declared.records.LockState.LockState, Index.{HasTaken, pair_of}, Keys.lock_key}
use Rattle.nfs_opens.proofs.IndexLemmas.{pair_in, index_taken, index_left}
use Rattle.nfs_opens.proofs.lock_states.LockStates.remove.Goals as goal
use Rattle.nfs_opens.proofs.lock_states.LockStates.remove.Goals.{in-Some, in_default}

pub take-requires : goal.take-requires
take-requires c = pair_in (λ (l : LockState). l.file) (λ l. l.number) c.args.number c.self.inside.states.items c.in-Some.lock.now c.self.inside.by_file.items
    c.self.invariant.0 (sym c.get.ensures ∙ ap option_copied c.in-Some.is)

pub take-requires-in-Some : goal.take-requires-in-Some
take-requires-in-Some c = pair_in (λ (l : LockState). l.opened) (λ l. l.number) c.args.number c.self.inside.states.items c.in-Some.lock.now
    c.self.inside.by_open.items c.self.invariant.1 (sym c.get.ensures ∙ ap option_copied c.in-Some.is)

pub take-requires-in-Some-2 : goal.take-requires-in-Some-2
take-requires-in-Some-2 c = subst (λ (k : ℕ). In (pair_of k c.args.number) c.self.inside.by_owner.items) (sym c.key.ensures.key)
    (pair_in lock_key (λ l. l.number) c.args.number c.self.inside.states.items c.in-Some.lock.now c.self.inside.by_owner.items c.self.invariant.2
    (sym c.get.ensures ∙ ap option_copied c.in-Some.is))

pub invariant_of-self : goal.invariant_of-self
invariant_of-self c =
    let n = c.args.number in
    let locks = c.self.inside.states.items in
    elim c.match-get.branch [
      | in-Some w ↦ rw (c.remove.ensures.items, w.self-inside-is) (
          let l = w.in-Some.lock.now in
          let found : find (λ (x : LockState). x.number == n) locks ≡ Some l = sym c.get.ensures ∙ ap option_copied w.in-Some.is in (
            index_taken (λ (x : LockState). x.file) (λ x. x.number) 1 c.kept.ensures.0 n locks l c.self.inside.by_file.items w.take.new.self.items
                c.kept.ensures.1 c.self.invariant.0 found w.take.ensures.taken,
            index_taken (λ (x : LockState). x.opened) (λ x. x.number) 1 c.kept.ensures.0 n locks l c.self.inside.by_open.items
                w.take-in-Some.new.self.items c.kept.ensures.1 c.self.invariant.1 found w.take-in-Some.ensures.taken,
            index_taken lock_key (λ x. x.number) 1 c.kept.ensures.0 n locks l c.self.inside.by_owner.items w.take-in-Some-2.new.self.items
                c.kept.ensures.1 c.self.invariant.2 found
                (subst (λ (k : ℕ). HasTaken c.self.inside.by_owner.items (pair_of k n) w.take-in-Some-2.new.self.items) w.key.ensures.key
                w.take-in-Some-2.ensures.taken),
          ))
      | in_default w ↦ rw (c.remove.ensures.items, w.self-inside-is) (
          let gone : find (λ (x : LockState). x.number == n) locks ≡ None = sym c.get.ensures ∙ ap option_copied w.in_default.is in (
            index_left (λ (x : LockState). x.file) (λ x. x.number) n locks c.self.inside.by_file.items c.self.invariant.0 gone,
            index_left (λ (x : LockState). x.opened) (λ x. x.number) n locks c.self.inside.by_open.items c.self.invariant.1 gone,
            index_left lock_key (λ x. x.number) n locks c.self.inside.by_owner.items c.self.invariant.2 gone,
          ))
    ]
