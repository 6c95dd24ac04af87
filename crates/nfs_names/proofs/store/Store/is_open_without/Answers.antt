use Rattle.std.proofs.Common.{◌∙◌}
use Rattle.nfs_names.specs.State.{state_of}
use Rattle.nfs_names.proofs.Ended.{other_open}
use Rattle.nfs_names.proofs.store.Store.is_open_without.Goals as goal

pub returns : goal.returns
returns c = c.has_other.ensures ∙ other_open c.args.file c.args.client (state_of c.args.self.now).opens.opens
