use Rattle.std.proofs.Common.{◌∙◌}
use Rattle.nfs_opens.specs.{declared.records.OpenState.OpenState, Table.table}
use Rattle.nfs_opens.proofs.IndexLemmas.{first_state}
use Rattle.nfs_opens.proofs.opens.Opens.first_of.Goals as goal

pub returns-clause-found : goal.returns-clause-found
returns-clause-found c = c.next_of.ensures.found
    ∙ first_state (λ (o : OpenState). o.client) (λ o. o.number) c.args.client _ (table c.args.self.now).opens c.next_of.ensures.kept.opens
