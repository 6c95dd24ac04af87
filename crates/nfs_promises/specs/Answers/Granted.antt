-- What has no reason to be refused is granted: the table of refusals, read the other way (RFC 8881 sections 8.2, 15.1 and 18.10). So a stateid that has the seqid of its
-- state is taken, and a LOCK is granted where nobody else holds a byte so that the two clash.
use Rattle.std.specs.Prelude.{◌≡◌, ◌≢◌, ◌⊎◌, ℕ, ◌+◌, ◌≤◌, true, false, List, Some}
use Rattle.nfs_xdr.specs.{Tables.In, declared.status.Status.Status}
use Rattle.nfs_xdr.specs.declared.status.Status.TheVariants.{OldStateId, BadStateId}
use Rattle.nfs_compound.specs.{declared.lock_args.Lock.Lock, declared.op.{Op.Op, Item.TheVariants.Operation}}
use Rattle.nfs_tree.specs.{declared.object.Object.Object, declared.object.FileType.TheVariants.Regular, Files.object_at}
use Rattle.nfs_opens.specs.{declared.records.LockState.LockState, declared.share.Share.Share, declared.stateid.StateId.StateId}
use Rattle.nfs_names.specs.{declared.start.Start.Start, declared.context.Context.Context, Outcome.is_ok, State.{State, is_used}}
use Rattle.nfs_files.specs.Ranges.{kind_of}
use Rattle.nfs_exec.specs.Runs.Ops.{RanOp}
use Rattle.nfs_promises.specs.{Network.Endpoint.Arrival, Runs.Points.{reached, ops_of}, Permission.Permitted.has_right}
use Rattle.nfs_promises.specs.Answers.Asked.{StateGiven, by_state, of_locker, of_type, IsSpecial, StandsFor, InRange, LiesBeside, IsAskers}
use Rattle.nfs_promises.specs.Answers.{Invalid.IsSpent, Reasons.{StateTold, state_of, IsOwn, access_under, Reason, LacksRoom}}

-- no row of the table refuses the operation, the reply has room for its result, and there is memory
pub record HasNoReason (d : RanOp) (op : Op) : Type 0 where
  pub none : (f : Status) → is_ok f ≡ false → Reason d.before.store d.context (Operation op) f → ⊥
  pub room : LacksRoom d → ⊥
  pub memory : d.refused ≡ false

-- a stateid that stands for a state of the client, of the sort and the file that are wanted, with any seqid or with the state's
pub record IsAsTold (s : State) (x : Context) (k : StateGiven) (id : StateId) (m : StateTold) : Type 0 where
  pub means : StandsFor x k id
  pub plain : IsSpecial id → ⊥
  pub names : state_of s.opens id ≡ Some m
  pub own : IsOwn x k m
  pub seqid : (id.seqid ≡ 0) ⊎ (id.seqid ≡ m.seqid)

-- A LOCK of bytes that nobody else holds in a way that clashes, by such a stateid of the current file, whose open has the access. No counter is at its end.
pub record MayLock (s : State) (x : Context) (a : Lock) : Type 0 where
  pub file : ℕ
  pub object : Object
  pub at : x.current ≡ Some file
  pub there : object_at s.tree file ≡ Some object
  pub used : is_used s file ≡ true
  pub kind : object.kind ≡ Regular
  pub some : a.length ≢ 0
  pub within : (a.length ≡ 0xffff_ffff_ffff_ffff) ⊎ (a.offset + a.length ≤ 0xffff_ffff_ffff_ffff)
  pub fresh : a.reclaim ≡ false
  pub id : StateId
  pub state : StateTold
  pub told : IsAsTold s x (of_locker a.locker) id state
  pub access : Share
  pub has : access_under s.opens id.number ≡ Some access
  pub may : has_right access (of_type a.locktype) ≡ true
  pub free : (holder : LockState) (b : ℕ) → In holder s.opens.locks → (IsAskers x (Operation (Op.Lock a)) holder → ⊥) → InRange a.offset a.length b
      → LiesBeside (kind_of a.locktype) (s.opens.held file holder.number b)
  pub counted : IsSpent s → ⊥

pub record IsNotRefused (d : RanOp) : Type 0 where
  pub granted : (op : Op) → d.item ≡ Operation op → HasNoReason d op → is_ok d.status ≡ true
  pub taken : (k : StateGiven) (id : StateId) (m : StateTold) → by_state d.item ≡ Some k → IsAsTold d.before.store d.context k id m
      → (d.status ≢ OldStateId) × (d.status ≢ BadStateId)
  pub locked : (a : Lock) → d.item ≡ Operation (Op.Lock a) → MayLock d.before.store d.context a → (LacksRoom d → ⊥) → d.refused ≡ false → is_ok d.status ≡ true

-- In every run of a server.
abbrev pub EachIsGranted : Type 0
EachIsGranted = (start : Start) (records : List Arrival) (c : Arrival) (d : RanOp) → In d (ops_of (reached start records) c) → IsNotRefused d
