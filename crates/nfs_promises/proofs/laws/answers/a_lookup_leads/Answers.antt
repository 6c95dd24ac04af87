use Rattle.nfs_promises.proofs.Answers.LookupLeads as proof
use Rattle.nfs_promises.proofs.laws.answers.a_lookup_leads.Goals as goal

pub returns : goal.returns
returns c = proof.lookup_leads
