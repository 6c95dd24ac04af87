-- A no is true of sessions too: a call whose reply says NFS4ERR_BADSESSION, of its SEQUENCE or its DESTROY_SESSION, names a session that nobody was given, or that something has
-- ended since (RFC 8881 sections 2.10, 8.3, 18.36, 18.37 and 18.46).
use Rattle.std.specs.Prelude.{◌≡◌, ◌⊎◌, ℕ, ◌+◌, ◌<◌, true, List, [], ◌∷◌, Some, if◌then◌else◌}
use Rattle.nfs_xdr.specs.{Text.{Begins, void}, declared.status.Status.Status, declared.status.Status.TheVariants.BadSession}
use Rattle.nfs_rpc.specs.CallHead.{Call, Accepted, call_of}
use Rattle.nfs_compound.specs.{declared.op.Item.Item, declared.op.Item.TheVariants.Operation, declared.op_num.OpNum.OpNum, OpNum.op_number, Request.Request}
use Rattle.nfs_compound.specs.declared.op.Op.TheVariants as Op
use Rattle.nfs_compound.specs.declared.op_num.OpNum.TheVariants as Num
use Rattle.nfs_results.specs.Wire.{text_of, ends}
use Rattle.nfs_names.specs.{declared.start.Start.Start}
use Rattle.nfs_sessions.specs.{declared.id.SessionId.SessionId, Id.id_of}
use Rattle.nfs_exec.specs.Runs.OneSession.{MakesOne}
use Rattle.nfs_serve.specs.{Step.{ServerState, step, asked_of}}
use Rattle.nfs_promises.specs.{Network.{Endpoint.{Answer, Arrival, Heading}, ThisServer.{IsAnswer, front, heading}}, Locks.LockKept.{renews_by, replaces_by}}
use Rattle.nfs_promises.specs.{Runs.Points.{state_after, state_after_all, reached, taken, before}, Calls.SessionStays.{ends_by, RunsThere}}
use Rattle.nfs_promises.specs.Calls.SessionsOnce.{GivesIn}

-- The reply to a record says so much of the first operation of its compound: which it was, and how it ended.
pub record SaysFirst (n : OpNum) (status : Status) (s : ServerState) (c : Arrival) : Type 0 where
  pub reply : List ℕ
  pub sent : (step s c.bytes c.now c.choice).reply ≡ Some reply
  pub answer : Answer
  pub is : IsAnswer reply answer
  pub first : Begins (front (text_of (ends (op_number n) status void))) answer.result

-- The record is a call of a compound that begins with a SEQUENCE in the session, or with a DESTROY_SESSION of it; and its reply says NFS4ERR_BADSESSION of that.
pub data IsBadSession (id : SessionId) (s : ServerState) (c : Arrival) : Type 0 where
  BySequence : (h : Heading) → heading c.bytes ≡ Some h → h.place.session ≡ id → SaysFirst Num.Sequence BadSession s c → IsBadSession id s c
  ByDestroy : (call : Call) (r : Request) (sessionid : List ℕ) (more : List Item) → call_of c.bytes ≡ Accepted call
      → asked_of call call.procedure ≡ Some r → r.left ≡ Operation (Op.DestroySession sessionid) ∷ more → id_of sessionid ≡ id
      → SaysFirst Num.DestroySession BadSession s c → IsBadSession id s c

-- One of these records comes when the lease has run out of the client that last renewed it at moment `last`, ends the session, or puts another id in its
-- client's place; or the lease has run out when the last record comes.
abbrev pub HasEnded : SessionId → (lease last : ℕ) → ServerState → List Arrival → Arrival → Type 0
HasEnded id lease last s [] d = last + lease < taken s d
HasEnded id lease last s (c ∷ more) d =
    ((last + lease < taken s c) ⊎ ((ends_by id s c ≡ true) ⊎ (replaces_by id.client s c ≡ true)))
    ⊎ HasEnded id lease (if renews_by id.client s c then taken s c else last) (state_after s c) more d

-- A CREATE_SESSION made the session: it was answered NFS4_OK and the session's id, which named no session before. The first one that is answered an id makes the session
-- (`EachWasMade` of SessionsOnce). Or a request of the record ran in it.
pub data Stands (id : SessionId) (s : ServerState) (c : Arrival) : Type 0 where
  Made : (number : ℕ) (text : List ℕ) → GivesIn id.client number text s c → (m : MakesOne id.client text (before s c).sessions (state_after s c).machine.sessions)
      → m.session ≡ id → Stands id s c
  Ran : RunsThere id s c → Stands id s c

-- In every run of a server whose leases last so many seconds: a session that was made, or in which a request ran, is denied only when something has ended it since.
abbrev pub BadSessionIsTrue : Type 0
BadSessionIsTrue = (start : Start) (earlier : List Arrival) (c : Arrival) (id : SessionId) (between : List Arrival) (d : Arrival)
    → (let s = reached start earlier in
    Stands id s c → IsBadSession id (state_after_all (state_after s c) between) d → HasEnded id start.lease (taken s c) (state_after s c) between d)
