-- Each number is read as its own status.
use Rattle.std.proofs.Common.{◌≡◌, ◌<◌, ◌^◌, Some, refl, arith}
use Rattle.nfs_xdr.specs.declared.status.Status.{Status}
use Rattle.nfs_xdr.specs.declared.status.Status.TheVariants.{Nfs4Ok, Perm, NoEnt, Access, Exist, NotDir, IsDir, Inval, FBig, NoSpc, MLink, NameTooLong}
use Rattle.nfs_xdr.specs.declared.status.Status.TheVariants.{NotEmpty, Stale, BadHandle, BadCookie, NotSupp, TooSmall, ServerFault, BadType, Delay, Same}
use Rattle.nfs_xdr.specs.declared.status.Status.TheVariants.{Denied, Locked, ShareDenied, ClidInUse, NoFileHandle, MinorVersMismatch, StaleClientId, OldStateId}
use Rattle.nfs_xdr.specs.declared.status.Status.TheVariants.{BadStateId, NotSame, Symlink, AttrNotSupp, NoGrace, BadXdr, LocksHeld, OpenMode, BadOwner, BadChar}
use Rattle.nfs_xdr.specs.declared.status.Status.TheVariants.{BadName, OpIllegal, BadSession, BadSlot, CompleteAlready, SeqMisordered, SequencePos, ReqTooBig}
use Rattle.nfs_xdr.specs.declared.status.Status.TheVariants.{RepTooBig, TooManyOps, OpNotInSession, ClientIdBusy, SeqFalseRetry, BadHighSlot, NotOnlyOp}
use Rattle.nfs_xdr.specs.{declared.status.Status.TheVariants.WrongType, Status.status_number, StatusCodec.{status_of, statuses, status}}
use Rattle.nfs_xdr.specs.Lawful.{IsListing, IsCodec}
use Rattle.nfs_xdr.proofs.WordLaws.{is_listed}

status_found : (s : Status) → status_of (status_number s) ≡ Some s
status_found Nfs4Ok = refl
status_found Perm = refl
status_found NoEnt = refl
status_found Access = refl
status_found Exist = refl
status_found NotDir = refl
status_found IsDir = refl
status_found Inval = refl
status_found FBig = refl
status_found NoSpc = refl
status_found MLink = refl
status_found NameTooLong = refl
status_found NotEmpty = refl
status_found Stale = refl
status_found BadHandle = refl
status_found BadCookie = refl
status_found NotSupp = refl
status_found TooSmall = refl
status_found ServerFault = refl
status_found BadType = refl
status_found Delay = refl
status_found Same = refl
status_found Denied = refl
status_found Locked = refl
status_found ShareDenied = refl
status_found ClidInUse = refl
status_found NoFileHandle = refl
status_found MinorVersMismatch = refl
status_found StaleClientId = refl
status_found OldStateId = refl
status_found BadStateId = refl
status_found NotSame = refl
status_found Symlink = refl
status_found AttrNotSupp = refl
status_found NoGrace = refl
status_found BadXdr = refl
status_found LocksHeld = refl
status_found OpenMode = refl
status_found BadOwner = refl
status_found BadChar = refl
status_found BadName = refl
status_found OpIllegal = refl
status_found BadSession = refl
status_found BadSlot = refl
status_found CompleteAlready = refl
status_found SeqMisordered = refl
status_found SequencePos = refl
status_found ReqTooBig = refl
status_found RepTooBig = refl
status_found TooManyOps = refl
status_found OpNotInSession = refl
status_found ClientIdBusy = refl
status_found SeqFalseRetry = refl
status_found BadHighSlot = refl
status_found NotOnlyOp = refl
status_found WrongType = refl

status_small : (s : Status) → status_number s < 2 ^ 32
status_small Nfs4Ok = omega arith
status_small Perm = omega arith
status_small NoEnt = omega arith
status_small Access = omega arith
status_small Exist = omega arith
status_small NotDir = omega arith
status_small IsDir = omega arith
status_small Inval = omega arith
status_small FBig = omega arith
status_small NoSpc = omega arith
status_small MLink = omega arith
status_small NameTooLong = omega arith
status_small NotEmpty = omega arith
status_small Stale = omega arith
status_small BadHandle = omega arith
status_small BadCookie = omega arith
status_small NotSupp = omega arith
status_small TooSmall = omega arith
status_small ServerFault = omega arith
status_small BadType = omega arith
status_small Delay = omega arith
status_small Same = omega arith
status_small Denied = omega arith
status_small Locked = omega arith
status_small ShareDenied = omega arith
status_small ClidInUse = omega arith
status_small NoFileHandle = omega arith
status_small MinorVersMismatch = omega arith
status_small StaleClientId = omega arith
status_small OldStateId = omega arith
status_small BadStateId = omega arith
status_small NotSame = omega arith
status_small Symlink = omega arith
status_small AttrNotSupp = omega arith
status_small NoGrace = omega arith
status_small BadXdr = omega arith
status_small LocksHeld = omega arith
status_small OpenMode = omega arith
status_small BadOwner = omega arith
status_small BadChar = omega arith
status_small BadName = omega arith
status_small OpIllegal = omega arith
status_small BadSession = omega arith
status_small BadSlot = omega arith
status_small CompleteAlready = omega arith
status_small SeqMisordered = omega arith
status_small SequencePos = omega arith
status_small ReqTooBig = omega arith
status_small RepTooBig = omega arith
status_small TooManyOps = omega arith
status_small OpNotInSession = omega arith
status_small ClientIdBusy = omega arith
status_small SeqFalseRetry = omega arith
status_small BadHighSlot = omega arith
status_small NotOnlyOp = omega arith
status_small WrongType = omega arith

pub is_status_listing : IsListing status_number statuses
is_status_listing = record { found = status_found; small = status_small }

pub is_status : IsCodec status
is_status = is_listed status_number statuses is_status_listing
