-- A session stays, with its slots: what becomes of it, over any list of records, while its client renews in time, nobody ends it and nobody takes the client's place
-- (RFC 8881 sections 2.10, 8.3, 18.36 and 18.37). While it stays, a lost reply can be had again.
use Rattle.std.specs.{Prelude.{◌≡◌, ℕ, ◌+◌, ◌≤◌, true, false, Bool, List, [], ◌∷◌, Some, is_some, if◌then◌else◌}, Option.option_map_or}
use Rattle.nfs_compound.specs.declared.session_args.Sequence.{Sequence}
use Rattle.nfs_names.specs.declared.start.Start.{Start}
use Rattle.nfs_sessions.specs.{declared.id.SessionId.SessionId, Id.id_of, Sessions.session_at}
use Rattle.nfs_exec.specs.Step.{Machine.Machine, Laws.{MachineEvent, ran}}
use Rattle.nfs_serve.specs.Step.{ServerState}
use Rattle.nfs_promises.specs.{Runs.{SessionLasts.ends_session, Points.{state_after, reached, taken, before, asked_by}}, Network.Endpoint.Arrival}
use Rattle.nfs_promises.specs.Locks.LockKept.{renews_by, replaces_by}

abbrev pub HasSession : SessionId → Machine → Type 0
HasSession id m = is_some (session_at m.sessions id) ≡ true

-- the record ends the session: a DESTROY_SESSION of it that is answered NFS4_OK
abbrev pub ends_by : SessionId → ServerState → Arrival → Bool
ends_by id s c = option_map_or (ends_session id (before s c)) (asked_by s c) false

-- a request of the record runs in the session
pub record RunsThere (id : SessionId) (s : ServerState) (c : Arrival) : Type 0 where
  pub event : MachineEvent
  pub asks : asked_by s c ≡ Some event
  pub sequence : Sequence
  pub runs : ran (before s c) event ≡ Some sequence
  pub session : id_of sequence.sessionid ≡ id

-- The session stands here, and stays through these records, where `last` is the moment of its client's last renewal: if the next one is taken at most one lease behind
-- that, it stands when that one's compound begins; and if that neither ends it nor puts another id in the client's place, the same holds behind it.
abbrev pub StaysThere : SessionId → (lease last : ℕ) → ServerState → List Arrival → Type 0
StaysThere id lease last s [] = HasSession id s.machine
StaysThere id lease last s (c ∷ more) =
    HasSession id s.machine
    × (taken s c ≤ last + lease →
    HasSession id (before s c)
    × (ends_by id s c ≡ false → replaces_by id.client s c ≡ false →
    StaysThere id lease (if renews_by id.client s c then taken s c else last) (state_after s c) more))

-- In every run of a server whose leases last so many seconds: a session in which a record's request ran stays through whatever records come.
abbrev pub SessionsStay : Type 0
SessionsStay = (start : Start) (earlier : List Arrival) (c : Arrival) (id : SessionId)
    → (let s = reached start earlier in
    RunsThere id s c → (more : List Arrival) → StaysThere id start.lease (taken s c) (state_after s c) more)
