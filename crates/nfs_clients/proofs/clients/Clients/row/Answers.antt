use Rattle.std.proofs.Common.{◌∙◌, ap}
use Rattle.nfs_clients.specs.ExchangeId.{asks, case_by}
use Rattle.nfs_clients.proofs.clients.Clients.row.Goals as goal

pub returns-in-Some : goal.returns-in-Some
returns-in-Some c =
    c.case.ensures c.args.owner.now ∙ ap (case_by (asks c.args.owner.now c.args.verifier c.args.flags c.args.uid c.args.has_open)) c.in-Some.ensures

pub returns-in-None : goal.returns-in-None
returns-in-None c =
    c.case_of_unknown.ensures c.args.owner.now c.args.verifier c.args.uid c.args.has_open
    ∙ ap (case_by (asks c.args.owner.now c.args.verifier c.args.flags c.args.uid c.args.has_open)) c.in-None.ensures
