-- A lock that was told, and what ends it: what a client asked and was answered (RFC 8881 sections 8.3, 9.1, 18.2, 18.10 and 18.12). That is an operation
-- that answers NFS4_OK and unlocks a byte of it, locks one in another way or closes its open; and the end of its client.
use Rattle.std.specs.{Prelude.{◌≡◌, ℕ, ◌≤◌, ◌==◌, ◌&&◌, not, Bool, false, List, [], ◌∷◌, Option, Some, Ok, option_map, bytes_eq}, List.list_any}
use Rattle.std.specs.Option.{option_map_or}
use Rattle.nfs_xdr.specs.{Caller.Caller}
use Rattle.nfs_compound.specs.declared.lock_args.Lock as args
use Rattle.nfs_compound.specs.{declared.lock_args.LockU.LockU, declared.open_args.Close.Close, declared.op.Item.Item, declared.op.Item.TheVariants.Operation}
use Rattle.nfs_compound.specs.{declared.session_args.Sequence.Sequence, Request.Request}
use Rattle.nfs_compound.specs.declared.op_num.OpNum.TheVariants as Num
use Rattle.nfs_compound.specs.declared.op.Op.TheVariants as Op
use Rattle.nfs_sessions.specs.Id.{id_of}
use Rattle.nfs_clients.specs.Roster.{ClientRecord, Roster, client_at}
use Rattle.nfs_opens.specs.{declared.locking.Wish.Wish, declared.records.LockState.LockState, declared.stateid.CurrentSeqid.TheVariants.Own}
use Rattle.nfs_opens.specs.{declared.stateid.StateId.StateId, Table.lock_at}
use Rattle.nfs_names.specs.Outcome.{is_ok}
use Rattle.nfs_files.specs.{StateIds.meant, Ranges.wished, LockTold.{Names, LockTold, Stands, IsAlike, IsBeside, Clashes}}
use Rattle.nfs_exec.specs.{Step.Machine.Machine, Step.Run.is_here, Step.Compound.first_item, Runs.Kept.{Kept, While}}
use Rattle.nfs_exec.specs.{Step.Laws.{MachineEvent, Expires, Asks, ran}, Runs.Ops.RanOp}
use Rattle.nfs_exec.specs.Runs.Kept as kept

-- a LOCK for the bytes of a wish that answered NFS4_OK and the stateid of lock state n
pub record LocksFor (d : RanOp) (n : ℕ) (w : Wish) : Type 0 where
  pub asked : args.Lock
  pub is : d.item ≡ Operation (Op.Lock asked)
  pub wish : wished d.before.store d.context asked.locktype asked.offset asked.length ≡ Ok w
  pub names : Names Num.Lock d.result n

-- a LOCKU that did
pub record UnlocksFor (d : RanOp) (n : ℕ) (w : Wish) : Type 0 where
  pub asked : LockU
  pub is : d.item ≡ Operation (Op.LockU asked)
  pub wish : wished d.before.store d.context asked.locktype asked.offset asked.length ≡ Ok w
  pub names : Names Num.LockU d.result n

-- a CLOSE of open n, whose stateid may be the current one, that answered NFS4_OK and a stateid that names nothing
pub record ClosesOf (d : RanOp) (n : ℕ) : Type 0 where
  pub asked : Close
  pub id : StateId
  pub is : d.item ≡ Operation (Op.Close asked)
  pub means : meant d.context Own asked.open_stateid ≡ Ok id
  pub opened : id.number ≡ n
  pub names : Names Num.Close d.result 0

-- It is no LOCK of another kind and no LOCKU for the lock state on a byte of it, and no CLOSE of its open.
pub record Spares (k : LockTold) (d : RanOp) : Type 0 where
  pub locks : (w : Wish) → LocksFor d k.state w → IsAlike w k
  pub unlocks : (w : Wish) → UnlocksFor d k.state w → IsBeside w k
  pub closes : ClosesOf d k.opened → ⊥

-- it stands before the operation, which is no LOCK that clashes with it and answered NFS4_OK
pub record StandsBefore (k : LockTold) (d : RanOp) : Type 0 where
  pub stands : Stands k d.before.store.opens
  pub refused : (n : ℕ) (w : Wish) → LocksFor d n w → Clashes k n w → ⊥

abbrev pub the_lock : LockTold → Kept
the_lock k = record {
  Way = Unit {0};
  Stands = λ way s. Stands k s.opens;
  Before = λ way d. StandsBefore k d;
  Spares = Spares k;
  after = λ way d. way;
}

abbrev pub AreSpared : LockTold → List RanOp → Type 0
AreSpared k ds = kept.AreSpared (the_lock k) ds

abbrev pub StandsWhile : LockTold → List RanOp → Type 0
StandsWhile k ds = While (the_lock k) tt ds

-- A LOCK told the lock: its range, or a part of it, in its way; and the open that its lock state then has.
pub record Tells (k : LockTold) (d : RanOp) : Type 0 where
  pub wish : Wish
  pub locks : LocksFor d k.state wish
  pub range : (wish.first ≤ k.first) × (k.first ≤ k.last) × (k.last ≤ wish.last)
  pub kind : k.kind ≡ wish.kind
  pub file : k.file ≡ wish.file
  pub client : k.client ≡ d.context.client
  pub opened : option_map (λ (l : LockState). l.opened) (lock_at d.behind.store.opens k.state) ≡ Some k.opened

-- the record of the id has this owner
abbrev pub is_of_owner : Roster → ℕ → List ℕ → Bool
is_of_owner t client owner = list_any (λ (c : ClientRecord). (c.id == client) && bytes_eq c.owner owner) t.records

-- a CREATE_SESSION of another id of the client's owner
abbrev pub takes_place : ℕ → Roster → Item → Bool
takes_place client t (Operation (Op.CreateSession c)) =
    not (c.clientid == client) && option_map_or (λ (k : ClientRecord). is_of_owner t client k.owner) (client_at t c.clientid) false
takes_place client t item = false

abbrev pub replaces_in : ℕ → Machine → Request → Caller → ℕ → Option ℕ → List Item → Bool
replaces_in client m r who now choice [] = false
replaces_in client m r who now choice (item ∷ more) = is_ok (first_item m r.declared who now (is_here choice) item).status && takes_place client m.clients item

-- The event replaces the client: such a CREATE_SESSION, which is answered NFS4_OK.
abbrev pub replaces : ℕ → Machine → MachineEvent → Bool
replaces client m (Expires now) = false
replaces client m (Asks r who size now choice) = r.minor == 1 && replaces_in client m r who now choice r.left

-- The SEQUENCE behind which the event runs operations is of a session of the client, and so renews its lease.
abbrev pub is_of : ℕ → Sequence → Bool
is_of client s = (id_of s.sessionid).client == client

abbrev pub renews : ℕ → Machine → MachineEvent → Bool
renews client m e = option_map_or (is_of client) (ran m e) false
