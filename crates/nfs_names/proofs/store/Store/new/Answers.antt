use Rattle.std.proofs.Common.{sym, ap, subst, ◌∙◌}
use Rattle.nfs_tree.specs.{Files.Files, Create.new_tree}
use Rattle.nfs_opens.specs.Table.{Table, table}
use Rattle.nfs_names.specs.{State.State, StoreInvariants.IsStore}
use Rattle.nfs_names.proofs.StoreInvariants.{store_at_first}
use Rattle.nfs_names.proofs.store.Store.new.Goals as goal

pub returns-clause-store : goal.returns-clause-store
returns-clause-store c =
    let by_parts : Files → Table → State = λ t o. record { tree = t; opens = o; lease = c.args.start.now.lease } in
    let same = ap (λ t. by_parts t (table c.new-2.result)) c.in_ok-tree.ensures ∙ ap (by_parts (new_tree c.args.start.now.mode c.args.now c.args.start.now.limits c.args.start.now.profile)) c.new-2.ensures in
    subst IsStore (sym same) (store_at_first c.args.start.now c.args.now)
