-- No operation's result says NFS4ERR_EXPIRED.
use Rattle.std.proofs.Common.{◌≡◌, Some, None, sym, ◌∙◌, ap, arith}
use Rattle.std.specs.Int.{w32, from_be_bytes}
use Rattle.nfs_xdr.specs.{Status.status_number, StatusCodec.status_of, declared.status.Status.Status}
use Rattle.nfs_xdr.proofs.StatusLaws.{is_status_listing}
use Rattle.nfs_files.proofs.WrittenOps.{number_back}
use Rattle.nfs_promises.specs.Calls.NeverExpired.{NoneIsExpired}
use Rattle.nfs_promises.proofs.Runs.{LaterRecords.ran_in, StatusTold.status_told}

no_status : (s : Status) → status_number s ≡ 10011 → ⊥
no_status s e = let found : None ≡ Some s = sym (ap status_of e) ∙ is_status_listing.found s in absurd cc

pub none_is_expired : NoneIsExpired
none_is_expired start records c d there e =
    no_status d.status (sym (number_back (status_number d.status) (is_status_listing.small d.status))
    ∙ (ap (from_be_bytes w32) (sym (status_told d (ran_in start records c d there)) ∙ e) ∙ number_back 10011 (omega arith)))
