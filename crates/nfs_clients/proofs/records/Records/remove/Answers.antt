use Rattle.nfs_clients.proofs.FiledLemmas.{remove_filed}
use Rattle.nfs_clients.proofs.records.Records.remove.Goals as goal

pub invariant_of-self : goal.invariant_of-self
invariant_of-self c = (remove_filed c.self.inside.by_id.entries c.remove.new.self.entries c.args.id c.self.invariant c.remove.ensures.entries).is

pub returns : goal.returns
returns c = rw (← c.self.view_is) (remove_filed c.self.inside.by_id.entries c.remove.new.self.entries c.args.id c.self.invariant c.remove.ensures.entries).view
