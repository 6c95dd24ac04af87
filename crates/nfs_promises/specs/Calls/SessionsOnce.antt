-- One session a CREATE_SESSION, in whole runs (RFC 8881 section 18.36.4).
use Rattle.std.specs.{Prelude.{◌≡◌, ◌⊎◌, ℕ, ◌+◌, ◌-◌, ◌<◌, ◌^◌, false, List, [], ◌∷◌, ◌++◌, Some, if◌then◌else◌}, Option.option_map_or}
use Rattle.nfs_xdr.specs.Numbers.{next_number}
use Rattle.nfs_names.specs.declared.start.Start.{Start}
use Rattle.nfs_exec.specs.{Step.Laws.MachineEvent, Runs.OneSession.{asks_session, Gives, MakesOne}}
use Rattle.nfs_serve.specs.Step.{ServerState, new_state}
use Rattle.nfs_promises.specs.{Runs.Points.{state_after, state_after_all, reached, before, asked_by}, Network.Endpoint.Arrival}

-- how many of these records ask for a session of the client
abbrev pub asked : ℕ → ServerState → List Arrival → ℕ
asked client s [] = 0
asked client s (c ∷ more) = (if option_map_or (asks_session client) (asked_by s c) false then 1 else 0) + asked client (state_after s c) more

-- it is a CREATE_SESSION of the client with this number, and is answered NFS4_OK and this session id
pub record GivesIn (client number : ℕ) (id : List ℕ) (s : ServerState) (c : Arrival) : Type 0 where
  pub event : MachineEvent
  pub asks : asked_by s c ≡ Some event
  pub gives : Gives client number id (before s c) event

-- In every run: a CREATE_SESSION that is answered NFS4_OK makes one session of its client, of the id that is answered, which did not stand before; or it
-- changes nothing.
abbrev pub EachMakesOne : Type 0
EachMakesOne = (start : Start) (records : List Arrival) (c : Arrival) (client number : ℕ) (id : List ℕ)
    → (let s = reached start records in
    GivesIn client number id s c → ((state_after s c).machine ≡ before s c) ⊎ MakesOne client id (before s c).sessions (state_after s c).machine.sessions)

-- one of these records was a CREATE_SESSION of the client with this number, was answered this session id, and made a session of it
pub record WasMade (client number : ℕ) (id : List ℕ) (outset : ServerState) (records : List Arrival) : Type 0 where
  pub earlier : List Arrival
  pub maker : Arrival
  pub later : List Arrival
  pub order : records ≡ earlier ++ maker ∷ later
  pub gives : GivesIn client number id (state_after_all outset earlier) maker
  pub makes : MakesOne client id (before (state_after_all outset earlier) maker).sessions (state_after (state_after_all outset earlier) maker).machine.sessions

-- In every run: the session that a CREATE_SESSION is answered was made by it, or by a record before it of the same client and number. So the first one of a
-- number that is answered NFS4_OK makes a session.
abbrev pub EachWasMade : Type 0
EachWasMade = (start : Start) (records : List Arrival) (c : Arrival) (client number : ℕ) (id : List ℕ) → start.instance < 2 ^ 32 → number < 2 ^ 32
    → GivesIn client number id (reached start records) c → WasMade client number id (new_state start) (records ++ c ∷ [])

-- In every run: a second one of the same client and number is answered the same session id and changes nothing, whatever came between, if fewer than 2^32 - 1
-- of it ask for a session of that client.
abbrev pub RepeatsMakeNone : Type 0
RepeatsMakeNone = (start : Start) (earlier : List Arrival) (c : Arrival) (between : List Arrival) (d : Arrival) (client number : ℕ) (id other : List ℕ) → start.instance < 2 ^ 32
    → (let s = reached start earlier in
    let t = state_after_all (state_after s c) between in
    GivesIn client number id s c → asked client (state_after s c) between < 2 ^ 32 - 1 → GivesIn client number other t d
    → (other ≡ id) × ((state_after t d).machine ≡ before t d))

-- In every run: where none of the records between asks for a session of the client, the next number makes another session.
abbrev pub NextMakesOne : Type 0
NextMakesOne = (start : Start) (earlier : List Arrival) (c : Arrival) (between : List Arrival) (d : Arrival) (client number : ℕ) (id other : List ℕ) → start.instance < 2 ^ 32
    → (let s = reached start earlier in
    let t = state_after_all (state_after s c) between in
    GivesIn client number id s c → asked client (state_after s c) between ≡ 0 → GivesIn client (next_number number) other t d
    → MakesOne client other (before t d).sessions (state_after t d).machine.sessions)
