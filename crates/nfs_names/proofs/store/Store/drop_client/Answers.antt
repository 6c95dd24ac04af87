use Rattle.std.proofs.Common.{◌≡◌, not, sym, ap, subst, ◌∙◌}
use Rattle.std.specs.Prelude.{◌==◌}
use Rattle.nfs_opens.specs.{Table.table, Calls.without_client}
use Rattle.nfs_names.specs.{State.{State, state_of}, StoreInvariants.IsStore, Ending.{with_opens, staying}}
use Rattle.nfs_names.proofs.Staying.{staying_others, store_staying}
use Rattle.nfs_names.proofs.store.Store.drop_client.Goals as goal
use Rattle.nfs_names.proofs.store.Store.drop_client.Goals.{After-end_client}

pub returns-then-not-has_open-clause-state : goal.returns-then-not-has_open-clause-state
returns-then-not-has_open-clause-state c = sym (staying_others (state_of c.args.self.now) c.args.client c.requires c.has_open.ensures.kept
    (sym c.has_open.ensures.found ∙ c.if-not-has_open.true))

ended : (c : After-end_client) → with_opens (state_of c.drop_own_files.new.self) (table c.end_client.new.self)
    ≡ staying (λ k. not (k == c.args.client)) (state_of c.args.self.now)
ended c = ap (with_opens (state_of c.drop_own_files.new.self)) c.end_client.ensures.after
    ∙ ap (λ (s : State). with_opens s (without_client s.opens c.args.client)) c.drop_own_files.ensures

pub returns-clause-state : goal.returns-clause-state
returns-clause-state c = ended c

pub returns-clause-store : goal.returns-clause-store
returns-clause-store c = subst IsStore (sym (ended c)) (store_staying (λ k. not (k == c.args.client)) (state_of c.args.self.now) c.requires)
