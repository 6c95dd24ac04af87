use Rattle.std.proofs.Common.{◌∙◌, ap}
use Rattle.std.specs.Prelude.{◌==◌, is_some}
use Rattle.nfs_opens.specs.{declared.records.OpenState.OpenState, Table.table}
use Rattle.nfs_opens.proofs.{IndexLemmas.any_found, IndexedLemmas.copied_some}
use Rattle.nfs_opens.proofs.opens.Opens.has_open.Goals as goal

pub returns-clause-found : goal.returns-clause-found
returns-clause-found c = c.is_some.ensures ∙ (copied_some c.first_of.result ∙ (ap is_some c.first_of.ensures.found
    ∙ any_found (λ (o : OpenState). o.client == c.args.client) (table c.args.self.now).opens))
