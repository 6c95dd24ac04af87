use Rattle.std.proofs.Common.{refl, subst, ap, ◌∙◌}
use Rattle.std.specs.Prelude.{◌==◌, find}
use Rattle.nfs_opens.specs.{declared.records.LockState.LockState, Blocks.Listed, TableInvariants.Rises}
use Rattle.nfs_opens.proofs.lock_states.LockStates.first_under.Goals as goal

pub returns-clause-found : goal.returns-clause-found
returns-clause-found c = c.next_by.ensures.first (λ (l : LockState). l.opened) c.self.invariant.1 refl
    ∙ ap (λ (x : Listed LockState). find (λ (l : LockState). l.opened == c.args.opened) x.items) c.self.view_is

pub returns-clause-rises : goal.returns-clause-rises
returns-clause-rises c = subst (λ (x : Listed LockState). Rises (λ (l : LockState). l.number) 1 x.items) c.self.view_is c.kept.ensures
