use Rattle.nfs_rpc.proofs.HeadLaws.{message_leads, header_leads, text_judged, text_taken}
use Rattle.nfs_rpc.proofs.laws.heads.Goals as goal

pub returns-clause-message : goal.returns-clause-message
returns-clause-message c = message_leads

pub returns-clause-header : goal.returns-clause-header
returns-clause-header c = header_leads

pub returns-clause-judged : goal.returns-clause-judged
returns-clause-judged c = text_judged

pub returns-clause-accepted : goal.returns-clause-accepted
returns-clause-accepted c = text_taken
