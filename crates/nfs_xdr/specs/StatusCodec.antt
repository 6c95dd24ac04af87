-- How a status is read: one of those that are listed, by its number.
use Rattle.std.specs.Prelude.{ℕ, List, [], ◌∷◌, Option}
use Rattle.nfs_xdr.specs.{Status.status_number, Codec.Codec, Combinators.{listed_at, listed}, declared.status.Status.Status}
use Rattle.nfs_xdr.specs.declared.status.Status.TheVariants.{Nfs4Ok, Perm, NoEnt, Access, Exist, NotDir, IsDir, Inval, FBig, NoSpc, MLink, NameTooLong}
use Rattle.nfs_xdr.specs.declared.status.Status.TheVariants.{NotEmpty, Stale, BadHandle, BadCookie, NotSupp, TooSmall, ServerFault, BadType, Delay, Same}
use Rattle.nfs_xdr.specs.declared.status.Status.TheVariants.{Denied, Locked, ShareDenied, ClidInUse, NoFileHandle, MinorVersMismatch, StaleClientId, OldStateId}
use Rattle.nfs_xdr.specs.declared.status.Status.TheVariants.{BadStateId, NotSame, Symlink, AttrNotSupp, NoGrace, BadXdr, LocksHeld, OpenMode, BadOwner, BadChar}
use Rattle.nfs_xdr.specs.declared.status.Status.TheVariants.{BadName, OpIllegal, BadSession, BadSlot, CompleteAlready, SeqMisordered, SequencePos, ReqTooBig}
use Rattle.nfs_xdr.specs.declared.status.Status.TheVariants.{RepTooBig, TooManyOps, OpNotInSession, ClientIdBusy, SeqFalseRetry, BadHighSlot, NotOnlyOp}
use Rattle.nfs_xdr.specs.declared.status.Status.TheVariants.{WrongType}

-- every status
abbrev pub statuses : List Status
statuses =
    Nfs4Ok ∷ Perm ∷ NoEnt ∷ Access ∷ Exist ∷ NotDir ∷ IsDir ∷ Inval ∷ FBig ∷ NoSpc ∷ MLink ∷ NameTooLong ∷ NotEmpty ∷ Stale ∷ BadHandle ∷
    BadCookie ∷ NotSupp ∷ TooSmall ∷ ServerFault ∷ BadType ∷ Delay ∷ Same ∷ Denied ∷ Locked ∷ ShareDenied ∷ ClidInUse ∷ NoFileHandle ∷
    MinorVersMismatch ∷ StaleClientId ∷ OldStateId ∷ BadStateId ∷ NotSame ∷ Symlink ∷ AttrNotSupp ∷ NoGrace ∷ BadXdr ∷ LocksHeld ∷
    OpenMode ∷ BadOwner ∷ BadChar ∷ BadName ∷ OpIllegal ∷ BadSession ∷ BadSlot ∷ CompleteAlready ∷ SeqMisordered ∷ SequencePos ∷ ReqTooBig ∷
    RepTooBig ∷ TooManyOps ∷ OpNotInSession ∷ ClientIdBusy ∷ SeqFalseRetry ∷ BadHighSlot ∷ NotOnlyOp ∷ WrongType ∷ []

-- the status that has the number
abbrev pub status_of : ℕ → Option Status
status_of n = listed_at status_number statuses n

abbrev pub status : Codec Status
status = listed status_number statuses
