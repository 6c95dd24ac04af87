-- A no is true: whoever is refused a lock is told of one that a LOCK granted before, and that nothing has ended since (RFC 8881 sections 8.3, 9.1, 18.10 and 18.11).
use Rattle.std.specs.Prelude.{◌≡◌, ◌⊎◌, ℕ, ◌+◌, ◌<◌, ◌≤◌, ◌^◌, true, false, List, [], ◌∷◌, ◌++◌, take, Some, None}
use Rattle.nfs_xdr.specs.{Limits.opaque_limit, Tables.In, declared.status.Status.TheVariants.Denied}
use Rattle.nfs_ranges.specs.Told.{meets}
use Rattle.nfs_opens.specs.declared.locking.Wish.{Wish}
use Rattle.nfs_names.specs.{declared.start.Start.Start}
use Rattle.nfs_files.specs.{Denied.{type_of, size_of}, LockTold.LockTold}
use Rattle.nfs_exec.specs.{Runs.LockHeld.AreSpared, Runs.Ops.RanOp}
use Rattle.nfs_serve.specs.{Step.new_state}
use Rattle.nfs_promises.specs.Locks.{Denials.{IsRefusedFor, asks_for_lock, byte_of, Grants, IsBegunBy, IsOthers}, LockKept.replaces_by}
use Rattle.nfs_promises.specs.{Locks.NoneOutlives.last_renewal, Bytes.ChangeTells.RunsIn, Network.Endpoint.Arrival, Runs.Points.{state_after, reached, taken}}
use Rattle.nfs_promises.specs.Runs.Points.{before, ops_of}

-- Nothing has ended it.

-- by the renewals in the records before, the client's lease lasts when the next record comes
abbrev pub IsInLease : (start : Start) (client : ℕ) → List Arrival → Arrival → Type 0
IsInLease start client records c =
    (last : ℕ) × (last_renewal client None (new_state start) records ≡ Some last) × (taken (reached start records) c ≤ last + start.lease)

-- a record behind others ends it neither by an operation, nor by coming late, nor by a CREATE_SESSION that puts another id in its client's place and changes something
pub record Passes (start : Start) (k : LockTold) (records : List Arrival) (c : Arrival) : Type 0 where
  pub lasts : IsInLease start k.client records c
  pub spared : AreSpared k (ops_of (reached start records) c)
  pub alone : (replaces_by k.client (reached start records) c ≡ false)
      ⊎ ((state_after (reached start records) c).machine ≡ before (reached start records) c)

abbrev pub AllPass : (start : Start) → LockTold → List Arrival → List Arrival → Type 0
AllPass start k records [] = Unit {0}
AllPass start k records (c ∷ more) = Passes start k records c × AllPass start k (records ++ c ∷ []) more

-- A LOCK in one of the records granted it, and nothing behind that has ended it.
pub record IsGrantedIn (start : Start) (k : LockTold) (owner : List ℕ) (records : List Arrival) : Type 0 where
  pub earlier : List Arrival
  pub arrival : Arrival
  pub between : List Arrival
  pub all : records ≡ earlier ++ arrival ∷ between
  pub front : List RanOp
  pub lock : RanOp
  pub back : List RanOp
  pub ops : ops_of (reached start earlier) arrival ≡ front ++ lock ∷ back
  pub grants : Grants k owner lock
  pub spared : AreSpared k back
  pub passed : AllPass start k (earlier ++ arrival ∷ []) between

-- One in a record before, or in the same compound, granted it, and nothing has ended it before this operation.
pub data IsGranted (start : Start) (k : LockTold) (owner : List ℕ) (records : List Arrival) (c : Arrival) (until : List RanOp) : Type 0 where
  Before : IsGrantedIn start k owner records → IsInLease start k.client records c → AreSpared k until
      → IsGranted start k owner records c until
  Within : (front : List RanOp) (lock : RanOp) (back : List RanOp) → until ≡ front ++ lock ∷ back → Grants k owner lock → AreSpared k back
      → IsGranted start k owner records c until

-- The refusal is of a wish that clashes with a lock on a byte. It reports that lock, with its client, its kind and its range, and the string that a LOCK of a new lock owner
-- gave for its lock state; that is not whoever asks; and each byte of that range was granted and has not ended.
pub record IsTrue (start : Start) (records : List Arrival) (c : Arrival) (until : List RanOp) (d : RanOp) : Type 0 where
  pub wish : Wish
  pub held : LockTold
  pub owner : List ℕ
  pub refused : IsRefusedFor d wish (record {
    offset = held.first;
    length = size_of (record { owner = held.state; kind = held.kind; first = held.first; last = held.last });
    locktype = type_of held.kind;
    owner = record { clientid = held.client; owner = take opaque_limit owner };
  })
  pub file : held.file ≡ wish.file
  pub others : IsOthers d held.state held.client owner
  pub begun : (first : RanOp) × (RunsIn (new_state start) records first ⊎ In first until) × IsBegunBy first held.state held.client owner
  pub clash : (wish.first ≤ held.last) × (held.first ≤ wish.last) × (held.first ≤ held.last)
  pub kinds : meets wish.kind (Some held.kind) ≡ true
  pub granted : (b : ℕ) → held.first ≤ b → b ≤ held.last → IsGranted start (byte_of held b) owner records c until

-- In every run, of every LOCK and LOCKT that is answered NFS4ERR_DENIED.
abbrev pub NoIsTrue : Type 0
NoIsTrue = (start : Start) (records : List Arrival) (c : Arrival) (until : List RanOp) (d : RanOp) (behind : List RanOp) → start.instance < 2 ^ 32
    → ops_of (reached start records) c ≡ until ++ d ∷ behind → asks_for_lock d.item ≡ true → d.status ≡ Denied
    → IsTrue start records c until d
