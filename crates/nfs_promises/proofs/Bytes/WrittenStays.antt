-- A byte that was told stays through whatever records come.
use Rattle.nfs_exec.specs.Runs.WrittenRun.{the_byte}
use Rattle.nfs_exec.proofs.Runs.WrittenRun.{byte_stays, told_run}
use Rattle.nfs_promises.specs.Bytes.WrittenStays.{BytesStay}
use Rattle.nfs_promises.proofs.Runs.Followed.{kept_from}

pub bytes_stay : BytesStay
bytes_stay start earlier c b front write back same writes =
    kept_from (the_byte b) (byte_stays b) start earlier c front write back tt same (λ run. told_run b write run writes)
