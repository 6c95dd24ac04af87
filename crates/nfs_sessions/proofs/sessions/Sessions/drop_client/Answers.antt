use Rattle.std.specs.Prelude.{◌==◌, not}
use Rattle.nfs_sessions.proofs.TableLemmas.{sessions_filtered}
use Rattle.nfs_sessions.proofs.sessions.Sessions.drop_client.Goals as goal

pub invariant_of-self : goal.invariant_of-self
invariant_of-self c = rw c.drop_sessions_of.ensures (sessions_filtered _ (λ s. not (s.client == c.args.client)) c.self.invariant)
