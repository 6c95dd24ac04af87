use Rattle.nfs_clients.proofs.Rows.{added}
use Rattle.nfs_clients.proofs.clients.Clients.exchange.Goals as goal

pub returns-in_ok-add-in-Adds : goal.returns-in_ok-add-in-Adds
returns-in_ok-add-in-Adds c =
    added c.args.self.now _ c.args.owner.now c.args.verifier c.args.flags c.args.uid c.args.has_open _ _ c.in-Adds.is c.case.ensures
    c.in_ok-add-in-Adds.ensures.ok c.in_ok-add-in-Adds.ensures.answer
