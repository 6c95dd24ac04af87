use Rattle.std.proofs.Common.{refl}
use Rattle.nfs_xdr.specs.{declared.status.Status.Status, Status.status_number, StatusCodec.{statuses, status}, Time.time, Text.enum, Wire.nfstime4}
use Rattle.nfs_xdr.proofs.{TextLaws.{times, readable}, WordLaws.{is_time, listed_number}, StatusLaws.{is_status, is_status_listing}}
use Rattle.nfs_xdr.proofs.laws.statuses.Goals as goal

pub returns-clause-status : goal.returns-clause-status
returns-clause-status c = readable status (λ (s : Status). enum (status_number s)) (record { same = λ s. refl; to = λ s fits. fits; from = λ s fits. fits }) is_status

pub returns-clause-own : goal.returns-clause-own
returns-clause-own c = is_status_listing.found

pub returns-clause-none_else : goal.returns-clause-none_else
returns-clause-none_else c = λ n s. listed_number status_number statuses n s

pub returns-clause-times : goal.returns-clause-times
returns-clause-times c = readable time nfstime4 times is_time
