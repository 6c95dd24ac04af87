use Rattle.std.proofs.Common.{sym, subst}
use Rattle.nfs_names.specs.{State.{State, state_of}, StoreInvariants.{IsRooted, IsStore}}
use Rattle.nfs_names.proofs.StoreInvariants.{unused_empty, rooted_without, store_without}
use Rattle.nfs_names.proofs.store.Store.drop_unused.Goals as goal

pub drop_empty-requires : goal.drop_empty-requires
drop_empty-requires c unused = unused_empty (state_of c.args.self.now) c.args.number c.kept.ensures c.requires unused

pub returns-clause-rooted : goal.returns-clause-rooted
returns-clause-rooted c = subst (λ (s : State). IsRooted s.tree) (sym c.drop_empty.ensures) (rooted_without (state_of c.args.self.now) c.args.number c.requires)

pub returns-clause-store : goal.returns-clause-store
returns-clause-store c but = subst IsStore (sym c.drop_empty.ensures) (store_without (state_of c.args.self.now) c.args.number but)
