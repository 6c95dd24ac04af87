use Rattle.std.proofs.Common.{◌∙◌}
use Rattle.nfs_clients.proofs.FiledLemmas.{find_filed}
use Rattle.nfs_clients.proofs.records.Records.get.Goals as goal

pub returns : goal.returns
returns c = rw (← c.self.view_is) (c.get.ensures.value ∙ find_filed c.self.inside.by_id.entries c.args.id c.self.invariant)
