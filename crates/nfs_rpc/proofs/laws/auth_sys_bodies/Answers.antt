use Rattle.nfs_rpc.proofs.HeadLaws.{auth_sys_leads, text_named, text_body}
use Rattle.nfs_rpc.proofs.laws.auth_sys_bodies.Goals as goal

pub returns-clause-read : goal.returns-clause-read
returns-clause-read c = auth_sys_leads

pub returns-clause-named : goal.returns-clause-named
returns-clause-named c = text_named

pub returns-clause-taken : goal.returns-clause-taken
returns-clause-taken c = text_body
