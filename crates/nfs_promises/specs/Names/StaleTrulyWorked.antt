-- Filehandles of files that are gone, worked by hand over the run of `FileStaysWorked` (RFC 8881 sections 4.2.2 and 15.1.2.7).
use Rattle.std.specs.Prelude.{◌≡◌, [], ◌∷◌}
use Rattle.nfs_xdr.specs.declared.status.Status.TheVariants.{Nfs4Ok, Stale}
use Rattle.nfs_names.specs.Context.{anonymous}
use Rattle.nfs_exec.specs.Runs.Ops.{RanOp}
use Rattle.nfs_promises.specs.{Runs.{Requests.{words, handle, stateid, in_session, closing, reading}, Points.ops_of}, Network.Endpoint.Arrival}
use Rattle.nfs_promises.specs.Names.{FileStaysWorked.{with_status, removed, first_of, reads, missed, closed, returns}, StaleTruly.IsStaleTruly}
use Rattle.nfs_promises.specs.Locks.LockKeptWorked.{came, last_of, statuses}
use Rattle.nfs_compound.specs.declared.op.Op.TheVariants as Op

abbrev pub closes : Arrival
closes = came 109 9 (in_session 1 7 (Op.PutFh (handle 2) ∷ closing (stateid 1 1) ∷ reading anonymous 0 8 ∷ []))

abbrev pub older : Arrival
older = came 109 9 (in_session 1 7 (Op.PutFh (words (6 ∷ 0 ∷ 0 ∷ 2 ∷ [])) ∷ []))

-- The file is stale behind its last CLOSE, where it has no name, and so are its filehandle and one that another start of the server gave.
pub record IsGone : Type 0 where
  pub gone : statuses (ops_of missed closes) ≡ Nfs4Ok ∷ Nfs4Ok ∷ Stale ∷ []
  pub given : statuses (ops_of closed returns) ≡ Stale ∷ []
  pub older : statuses (ops_of missed older) ≡ Stale ∷ []
  -- the promise refuses a READ and a PUTFH that are answered so while the file is open
  pub early : (d : RanOp) → IsStaleTruly (with_status Stale (last_of d (ops_of removed reads))) → ⊥
  pub returned : (d : RanOp) → IsStaleTruly (with_status Stale (first_of d (ops_of removed reads))) → ⊥
