-- A no is true, also where an open is the reason: an OPEN that is answered NFS4ERR_SHARE_DENIED, and a READ, WRITE or SETATTR that is answered NFS4ERR_LOCKED, is
-- forbidden by an open that was granted and that nothing has ended since (RFC 8881 sections 8.2.3, 9.7, 18.16, 18.22, 18.30 and 18.32).
use Rattle.std.specs.Prelude.{◌≡◌, ◌<◌, ◌^◌, true, List, ◌∷◌, ◌++◌, Option, Some, None, Ok, is_some}
use Rattle.nfs_xdr.specs.declared.status.Status.TheVariants.{ShareDenied, Locked}
use Rattle.nfs_compound.specs.{declared.file_args.SetAttr.SetAttr, declared.open_args.Open.Open, declared.op.Item.Item, declared.op.Item.TheVariants.Operation}
use Rattle.nfs_compound.specs.declared.stateid.Stateid.{Stateid}
use Rattle.nfs_compound.specs.declared.op.Op.TheVariants as Op
use Rattle.nfs_attrs.specs.declared.wanted.Wanted.{Wanted}
use Rattle.nfs_opens.specs.{declared.share.Share.Share, declared.stateid.CurrentSeqid.TheVariants.Any, declared.stateid.StateId.StateId, StateId.is_anonymous}
use Rattle.nfs_opens.specs.Share.{meets}
use Rattle.nfs_names.specs.{declared.start.Start.Start, Create.attributes_in}
use Rattle.nfs_files.specs.{Bytes.{reading, writing}, OpenTold.{OpenTold, Bits, claimed, forbids}, StateIds.meant}
use Rattle.nfs_exec.specs.Runs.Ops.{RanOp}
use Rattle.nfs_promises.specs.{Network.Endpoint.Arrival, Locks.OpenGranted.IsGrantedOpen, Permission.Permitted.is_special, Runs.Points.{reached, ops_of}}

-- The OPEN is of the file of an open of another owner: that denies access which is asked for, or has access which is to be denied.
pub record IsForbidden (start : Start) (records : List Arrival) (c : Arrival) (until : List RanOp) (d : RanOp) (a : Open) : Type 0 where
  pub held : OpenTold
  pub bits : Bits
  pub file : claimed d.before.store.tree d.context a.claim ≡ Some held.file
  pub forbidden : forbids held bits d.context a ≡ true
  pub granted : IsGrantedOpen start held bits records c until

-- In every run, of every OPEN that is answered NFS4ERR_SHARE_DENIED.
abbrev pub ShareDenialsAreTrue : Type 0
ShareDenialsAreTrue = (start : Start) (records : List Arrival) (c : Arrival) (until : List RanOp) (d : RanOp) (behind : List RanOp) (a : Open) → start.instance < 2 ^ 32
    → ops_of (reached start records) c ≡ until ++ d ∷ behind → d.item ≡ Operation (Op.Open a) → d.status ≡ ShareDenied
    → IsForbidden start records c until d a

-- by which stateid bytes are read or changed, and which of the two
abbrev pub by_stateid : Item → Option (Stateid × Share)
by_stateid (Operation (Op.Read a)) = Some (a.stateid, reading)
by_stateid (Operation (Op.Write a)) = Some (a.stateid, writing)
by_stateid (Operation (Op.SetAttr a)) = Some (a.stateid, writing)
by_stateid item = None

-- The stateid is a special one, and not the one that bypasses share reservations, if bytes are read; a SETATTR gives a size; and an open of the file denies the access.
pub record IsShut (start : Start) (records : List Arrival) (c : Arrival) (until : List RanOp) (d : RanOp) (given : Stateid) (wanted : Share) : Type 0 where
  pub id : StateId
  pub means : meant d.context Any given ≡ Ok id
  pub special : is_special id ≡ true
  pub read : wanted ≡ reading → is_anonymous id ≡ true
  pub size : (a : SetAttr) → d.item ≡ Operation (Op.SetAttr a) → (w : Wanted) × (attributes_in a.obj_attributes ≡ Ok w) × (is_some w.size ≡ true)
  pub held : OpenTold
  pub bits : Bits
  pub file : d.context.current ≡ Some held.file
  pub denied : meets wanted bits.deny ≡ true
  pub granted : IsGrantedOpen start held bits records c until

-- In every run, of every READ, WRITE and SETATTR that is answered NFS4ERR_LOCKED.
abbrev pub LockedIsTrue : Type 0
LockedIsTrue = (start : Start) (records : List Arrival) (c : Arrival) (until : List RanOp) (d : RanOp) (behind : List RanOp) (given : Stateid) (wanted : Share)
    → start.instance < 2 ^ 32
    → ops_of (reached start records) c ≡ until ++ d ∷ behind → by_stateid d.item ≡ Some (given, wanted) → d.status ≡ Locked
    → IsShut start records c until d given wanted
