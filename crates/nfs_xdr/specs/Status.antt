-- The number of each status (RFC 8881 section 15.1).
use Rattle.std.specs.Prelude.{ℕ}
use Rattle.nfs_xdr.specs.declared.status.Status.{Status}
use Rattle.nfs_xdr.specs.declared.status.Status.TheVariants.{Nfs4Ok, Perm, NoEnt, Access, Exist, NotDir, IsDir, Inval, FBig, NoSpc, MLink, NameTooLong}
use Rattle.nfs_xdr.specs.declared.status.Status.TheVariants.{NotEmpty, Stale, BadHandle, BadCookie, NotSupp, TooSmall, ServerFault, BadType, Delay, Same}
use Rattle.nfs_xdr.specs.declared.status.Status.TheVariants.{Denied, Locked, ShareDenied, ClidInUse, NoFileHandle, MinorVersMismatch, StaleClientId, OldStateId}
use Rattle.nfs_xdr.specs.declared.status.Status.TheVariants.{BadStateId, NotSame, Symlink, AttrNotSupp, NoGrace, BadXdr, LocksHeld, OpenMode, BadOwner, BadChar}
use Rattle.nfs_xdr.specs.declared.status.Status.TheVariants.{BadName, OpIllegal, BadSession, BadSlot, CompleteAlready, SeqMisordered, SequencePos, ReqTooBig}
use Rattle.nfs_xdr.specs.declared.status.Status.TheVariants.{RepTooBig, TooManyOps, OpNotInSession, ClientIdBusy, SeqFalseRetry, BadHighSlot, NotOnlyOp}
use Rattle.nfs_xdr.specs.declared.status.Status.TheVariants.{WrongType}

abbrev pub status_number : Status → ℕ
status_number Nfs4Ok = 0
status_number Perm = 1
status_number NoEnt = 2
status_number Access = 13
status_number Exist = 17
status_number NotDir = 20
status_number IsDir = 21
status_number Inval = 22
status_number FBig = 27
status_number NoSpc = 28
status_number MLink = 31
status_number NameTooLong = 63
status_number NotEmpty = 66
status_number Stale = 70
status_number BadHandle = 10001
status_number BadCookie = 10003
status_number NotSupp = 10004
status_number TooSmall = 10005
status_number ServerFault = 10006
status_number BadType = 10007
status_number Delay = 10008
status_number Same = 10009
status_number Denied = 10010
status_number Locked = 10012
status_number ShareDenied = 10015
status_number ClidInUse = 10017
status_number NoFileHandle = 10020
status_number MinorVersMismatch = 10021
status_number StaleClientId = 10022
status_number OldStateId = 10024
status_number BadStateId = 10025
status_number NotSame = 10027
status_number Symlink = 10029
status_number AttrNotSupp = 10032
status_number NoGrace = 10033
status_number BadXdr = 10036
status_number LocksHeld = 10037
status_number OpenMode = 10038
status_number BadOwner = 10039
status_number BadChar = 10040
status_number BadName = 10041
status_number OpIllegal = 10044
status_number BadSession = 10052
status_number BadSlot = 10053
status_number CompleteAlready = 10054
status_number SeqMisordered = 10063
status_number SequencePos = 10064
status_number ReqTooBig = 10065
status_number RepTooBig = 10066
status_number TooManyOps = 10070
status_number OpNotInSession = 10071
status_number ClientIdBusy = 10074
status_number SeqFalseRetry = 10076
status_number BadHighSlot = 10077
status_number NotOnlyOp = 10081
status_number WrongType = 10083
