-- Filehandles of files that are gone, computed.
use Rattle.std.proofs.Common.{refl}
use Rattle.nfs_names.specs.{GetFh.get_fh, Remove.remove}
use Rattle.nfs_promises.specs.Names.FileStaysWorked.{first_of, reads, removed, with_status}
use Rattle.nfs_promises.specs.{Names.StaleTrulyWorked.IsGone, Locks.LockKeptWorked.last_of, Runs.Points.ops_of}
use Rattle.nfs_promises.proofs.{Names.StaleTruly.{at_current, put_found}, Runs.Computing.computing}
use Rattle.nfs_xdr.specs.declared.status.Status.TheVariants as S

pub is_gone : IsGone
unfolding computing get_fh remove
is_gone = record {
  gone = refl;
  given = refl;
  older = refl;
  early = λ d is. at_current (with_status S.Stale (last_of d (ops_of removed reads))) 2 refl refl refl refl (is _ refl refl);
  returned = λ d is. put_found (with_status S.Stale (first_of d (ops_of removed reads))) 2 refl _ refl refl (is _ refl refl);
}
