use Rattle.std.proofs.Common.{sym, ◌∙◌}
use Rattle.nfs_names.specs.{State.state_of, Ending.without_opens}
use Rattle.nfs_names.proofs.StoreInvariants.{unused_empty}
use Rattle.nfs_names.proofs.store.Store.drop_own_file.Goals as goal

pub forget-requires-clause-empty : goal.forget-requires-clause-empty
forget-requires-clause-empty c = unused_empty (without_opens (state_of c.args.self.now) c.args.client) c.args.file c.kept.ensures c.requires
    (sym c.is_used_without.ensures ∙ c.if-is_used_without.false)
