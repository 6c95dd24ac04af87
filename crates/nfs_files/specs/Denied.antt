-- The lock that is reported with NFS4ERR_DENIED (LOCK4denied, RFC 8881 section 18.10.2).
use Rattle.std.specs.Prelude.{ℕ, suc, ◌-◌, ◌==◌, [], take, Option, Some, None, if◌then◌else◌}
use Rattle.nfs_xdr.specs.{declared.status.Status.Status, Limits.opaque_limit}
use Rattle.nfs_xdr.specs.declared.status.Status.TheVariants as S
use Rattle.nfs_compound.specs.{declared.state_owner.StateOwner.StateOwner, declared.lock_args.LockType.LockType}
use Rattle.nfs_compound.specs.declared.lock_args.LockType.TheVariants as LockTypes
use Rattle.nfs_results.specs.declared.res.Denied as result
use Rattle.nfs_ranges.specs.{declared.Kind.Kind, declared.Held.Held}
use Rattle.nfs_ranges.specs.declared.Kind.TheVariants as Kinds
use Rattle.nfs_opens.specs.{declared.records.LockState.LockState, declared.locking.OpenFault.OpenFault}
use Rattle.nfs_opens.specs.{declared.locking.OpenFault.TheVariants.{Refused, Denied, Memory}, Table.{Table, lock_at}}
use Rattle.nfs_files.specs.Ranges.{all_ones}

abbrev pub type_of : Kind → LockType
type_of Kinds.Read = LockTypes.Read
type_of Kinds.Write = LockTypes.Write

-- a run that reaches the last byte has a length of all ones
abbrev pub size_of : Held → ℕ
size_of h = if h.last == all_ones then all_ones else suc h.last - h.first

-- The holder's client and lock owner. A holder's state stands, so the first line is never met; and no owner has more than 1,024 bytes.
abbrev pub holder : Option LockState → StateOwner
holder None = record { clientid = 0; owner = [] }
holder (Some l) = record { clientid = l.client; owner = take opaque_limit l.owner }

unfoldable pub lock_denied : Table → Held → result.Denied
lock_denied t h = record { offset = h.first; length = size_of h; locktype = type_of h.kind; owner = holder (lock_at t h.owner) }

-- the status of what the table of opens refuses
abbrev pub open_fault_status : OpenFault → Status
open_fault_status (Refused status) = status
open_fault_status (Denied h) = S.Denied
open_fault_status Memory = S.Delay

-- the bytes of the largest result of LOCK and of LOCKT
abbrev pub most_denied : ℕ
most_denied = 1064
