use Rattle.std.proofs.Common.{sym, ap, ◌∙◌, arith}
use Rattle.nfs_opens.specs.{contracts.opens.Opens.the_view, Table.{Kept, table}, Locking.clash}
use Rattle.nfs_opens.proofs.LockLemmas.{clash_told}
use Rattle.nfs_opens.proofs.opens.Opens.clash.Goals as goal

pub returns : goal.returns
returns c =
    sym (clash_told (table (the_view c.self.inside)) c.args.wish.now.file c.args.state c.args.wish.now.kind c.args.wish.now.first c.args.wish.now.last
    c.clash.result c.self.invariant.table c.requires (omega arith) c.clash.ensures)
    ∙ ap (λ (k : Kept). clash (table k) c.args.state c.args.wish.now) c.self.view_is
