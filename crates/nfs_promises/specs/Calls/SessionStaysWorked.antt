-- A session that stays, worked by hand over the run of `LockKeptWorked` (RFC 8881 sections 2.10, 8.3 and 18.37).
use Rattle.std.specs.Prelude.{◌≡◌, ◌+◌, ◌*◌, ◌^◌, false, List, [], ◌∷◌}
use Rattle.nfs_sessions.specs.{declared.id.SessionId.SessionId, Sessions.no_sessions}
use Rattle.nfs_serve.specs.Step.{ServerState}
use Rattle.nfs_promises.specs.{Network.Endpoint.Arrival, Runs.Points.state_after, Locks.LockKeptWorked.{outset, locks, locked, waits}}
use Rattle.nfs_promises.specs.Calls.SessionStays.{ends_by, RunsThere, StaysThere}

-- Worked over the run of `LockKeptWorked`: client 1 of instance 7 locks a byte in its session 1, and renews its lease at the last second, twice; another client comes.
abbrev pub id : SessionId
id = record { client = 7 * 2 ^ 32 + 1; counter = 1 }

-- a server that keeps no session behind a record
abbrev pub forgetful : ServerState
forgetful = record locked { machine = record locked.machine { sessions = no_sessions 64 } }

-- none of these ends the session
abbrev pub NoneEnds : ServerState → List Arrival → Type 0
NoneEnds s [] = Unit {0}
NoneEnds s (c ∷ more) = (ends_by id s c ≡ false) × NoneEnds (state_after s c) more

pub record StaysToLast : Type 0 where
  pub runs : RunsThere id outset locks
  pub spared : NoneEnds locked waits
  -- the law refuses a server that forgets the session
  pub forgotten : StaysThere id 90 102 forgetful [] → ⊥
