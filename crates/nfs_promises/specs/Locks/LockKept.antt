-- A lock told is a lock kept: what becomes, over any list of records, of a byte range that a LOCK told as held (RFC 8881
-- sections 8.3, 9.1 to 9.5 and 18.10).
use Rattle.std.specs.{Prelude.{◌≡◌, ℕ, ◌+◌, ◌≤◌, Bool, false, List, [], ◌∷◌, ◌++◌, if◌then◌else◌}, Option.option_map_or}
use Rattle.nfs_xdr.specs.Tables.{In}
use Rattle.nfs_opens.specs.declared.locking.Wish.{Wish}
use Rattle.nfs_names.specs.declared.start.Start.{Start}
use Rattle.nfs_files.specs.LockTold.{LockTold, Clashes}
use Rattle.nfs_exec.specs.Runs.{Ops.RanOp, Kept.{Kept, While, after_all}, LockHeld.{LocksFor, the_lock, AreSpared, StandsWhile, Tells, replaces, renews}}
use Rattle.nfs_serve.specs.Step.{ServerState}
use Rattle.nfs_promises.specs.{Network.Endpoint.Arrival, Runs.Points.{state_after, reached, taken, before, asked_by, ops_of}}
use Rattle.nfs_exec.specs.Runs.Kept as kept

-- a request of it runs in a session of the client, and so renews the client's lease
abbrev pub renews_by : ℕ → ServerState → Arrival → Bool
renews_by client s c = option_map_or (renews client (before s c)) (asked_by s c) false

-- it puts another id in the client's place: a CREATE_SESSION of another id of its owner, which is answered NFS4_OK
abbrev pub replaces_by : ℕ → ServerState → Arrival → Bool
replaces_by client s c = option_map_or (replaces client (before s c)) (asked_by s c) false

-- It stands here, and stays through these records, where `last` is the moment of its client's last renewal: if the next one is taken at
-- most one lease behind that, it stands before each operation of it as long as all before it spared it, and nothing there is answered that it forbids;
-- and if they all spare it, and the record puts no other id in the client's place, the same holds of the records behind it, in the way in which it
-- stands then. (That each record is at most one lease behind the renewal before it is the same as that neighbours among the renewals and the last
-- record are: a record between two renewals is not later than the second.)
abbrev pub StaysFor : (k : Kept) → (client lease last : ℕ) → k.Way → ServerState → List Arrival → Type 0
StaysFor k client lease last way s [] = k.Stands way s.machine.store
StaysFor k client lease last way s (c ∷ more) =
    k.Stands way s.machine.store
    × (taken s c ≤ last + lease →
    While k way (ops_of s c)
    × (kept.AreSpared k (ops_of s c) → replaces_by client s c ≡ false →
    StaysFor k client lease (if renews_by client s c then taken s c else last) (after_all k.after way (ops_of s c)) (state_after s c) more))

-- The records come in time, and spare it and its client, up to a way, a state and a moment of the client's last renewal of which this holds.
abbrev pub InTimeFor : (k : Kept) → (client lease last : ℕ) → k.Way → ServerState → List Arrival → (k.Way → ℕ → ServerState → Type 0) → Type 0
InTimeFor k client lease last way s [] Then = Then way last s
InTimeFor k client lease last way s (c ∷ more) Then =
    (taken s c ≤ last + lease)
    × kept.AreSpared k (ops_of s c)
    × (replaces_by client s c ≡ false)
    × InTimeFor k client lease (if renews_by client s c then taken s c else last) (after_all k.after way (ops_of s c)) (state_after s c) more Then

-- A lock does so where operations spare it: no LOCK that clashes is answered NFS4_OK.
abbrev pub StaysHeld : LockTold → (lease last : ℕ) → ServerState → List Arrival → Type 0
StaysHeld k lease last s records = StaysFor (the_lock k) k.client lease last tt s records

abbrev pub AreInTime : LockTold → (lease last : ℕ) → ServerState → List Arrival → (ℕ → ServerState → Type 0) → Type 0
AreInTime k lease last s records Then = InTimeFor (the_lock k) k.client lease last tt s records (λ way. Then)

-- In every run of a server whose leases last so many seconds, from its start on: a LOCK in the record's compound told the lock, and
-- these operations are behind it there. The lock stands before each of them while they spare it; and if they all do, it stays through
-- whatever records come, from the moment of this record on, which renewed its client's lease.
abbrev pub LockKept : Type 0
LockKept = (start : Start) (earlier : List Arrival) (c : Arrival) (k : LockTold) (front : List RanOp) (lock : RanOp) (back : List RanOp)
    → (let s = reached start earlier in
    ops_of s c ≡ front ++ lock ∷ back → Tells k lock
    → StandsWhile k back × (AreSpared k back → (more : List Arrival) → StaysHeld k start.lease (taken s c) (state_after s c) more))

-- Whatever LOCK was told told a lock: all that it asked for, where that is a byte at least, as each range on the wire is.
abbrev pub EachIsTold : Type 0
EachIsTold = (start : Start) (records : List Arrival) (c : Arrival) (d : RanOp) (n : ℕ) (w : Wish)
    → In d (ops_of (reached start records) c) → LocksFor d n w → w.first ≤ w.last
    → (opened : ℕ)
    × Tells (record { state = n; client = d.context.client; opened = opened; file = w.file; kind = w.kind; first = w.first; last = w.last }) d

-- Only one writer is told: of two LOCKs that clash on a byte, each answered NFS4_OK and the stateid of a lock state of its own, the second comes
-- behind an end of the first. Between them an operation unlocks a byte of the first or locks one in another way or closes its open, or another id is
-- put in its client's place, or its client's lease runs out: else there are no two such LOCKs.
abbrev pub OnlyOneIsTold : Type 0
OnlyOneIsTold = (start : Start) (earlier : List Arrival) (c : Arrival) (k : LockTold) (front : List RanOp) (first : RanOp) (back : List RanOp)
    (between : List Arrival) (d : Arrival) (until : List RanOp) (second : RanOp) (behind : List RanOp) (n : ℕ) (w : Wish)
    → (let s = reached start earlier in
    ops_of s c ≡ front ++ first ∷ back → Tells k first → AreSpared k back
    → AreInTime k start.lease (taken s c) (state_after s c) between
    (λ last t. (ops_of t d ≡ until ++ second ∷ behind) × (taken t d ≤ last + start.lease) × AreSpared k until)
    → LocksFor second n w → Clashes k n w → ⊥)
