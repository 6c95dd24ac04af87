use Rattle.std.proofs.Common.{◌∙◌, ap}
use Rattle.std.specs.Prelude.{◌==◌, is_some}
use Rattle.nfs_opens.specs.{declared.records.OpenState.OpenState, Table.table}
use Rattle.nfs_opens.proofs.{IndexLemmas.any_found, IndexedLemmas.copied_some}
use Rattle.nfs_opens.proofs.opens.Opens.is_open.Goals as goal

pub returns : goal.returns
returns c = c.is_some.ensures ∙ (copied_some c.first_on.result ∙ (ap is_some c.first_on.ensures.found
    ∙ any_found (λ (o : OpenState). o.file == c.args.file) (table c.args.self.now).opens))
