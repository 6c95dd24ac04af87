use Rattle.nfs_promises.proofs.Names.Handles.{handles_lead, handles_tell}
use Rattle.nfs_promises.proofs.laws.names.handles_lead.Goals as goal

pub returns : goal.returns
returns c = record { lead = handles_lead; tell = handles_tell }
