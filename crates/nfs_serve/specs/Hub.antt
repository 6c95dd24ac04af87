-- Many connections over one server: the ports have their turns in the order of their numbers, sweep after sweep. Who is ready, and who
-- begins, comes from outside.
use Rattle.std.specs.Prelude.{length, ◌≡◌, ◌≢◌, ◌≤◌, ◌<◌, ◌⊎◌, ◌^◌, ◌-◌, ℕ, suc, ◌+◌, List, [], ◌∷◌, flat_map, get_or, Option}
use Rattle.nfs_serve.specs.{Step.ServerState, Told.{Told, Sweep, Turn, Logs}}
use Rattle.nfs_serve.specs.{Desk.{most_ports, Desk, closed, opened, Act, Opened, Goes, EndsTurn, IsPassed, HasMore, step_count}, Deeds.{Deed, looked, over, shown, asked}}

abbrev pub Desks : Type 0
Desks = ℕ → Desk

-- what stands on each port
abbrev pub at : List Desk → Desks
at desks = λ port. get_or desks port closed

abbrev pub none_live : Desks
none_live = λ port. closed

-- the ports that were made, and how many there may be
pub record HubModel : Type 0 where
  pub desks : List Desk
  pub most : ℕ

-- what comes from outside, and what is done in a turn
pub data Round : Type 0 where
  Opens : (port : ℕ) → Round
  Turns : (port : ℕ) → (acts : List Act) → Round

-- every port but this one is as it was
abbrev pub OthersStay : Desks → Desks → ℕ → Type 0
OthersStay old new port = (c : ℕ) → c ≢ port → new c ≡ old c

-- The rounds, one after the other: one port alone changes in each, and each turn ends as turns end.
abbrev pub Turning : ServerState → Desks → List Round → ServerState → Desks → Type 0
Turning s old [] t new = (t ≡ s) × ((c : ℕ) → new c ≡ old c)
Turning s old (Opens port ∷ rounds) t new = (between : Desks) × (port < most_ports) × (between port ≡ opened) × OthersStay old between port
    × Turning s between rounds t new
Turning s old (Turns port acts ∷ rounds) t new = (u : ServerState) × (between : Desks) × (port < most_ports) × Goes port s (old port) acts u (between port)
    × EndsTurn acts (between port) × OthersStay old between port × Turning u between rounds t new

abbrev pub shown_in : Round → List Deed
shown_in (Opens port) = record { port = port; act = Opened } ∷ []
shown_in (Turns port acts) = flat_map (shown port) acts

-- how many turns there are
abbrev pub turns_in : List Round → ℕ
turns_in [] = 0
turns_in (Opens port ∷ rounds) = turns_in rounds
turns_in (Turns port acts ∷ rounds) = suc (turns_in rounds)

-- a sweep shows first that it was looked at who is ready and who begins, on as many ports as have turns in it
abbrev pub shown_of : List Round → List Deed
shown_of sweep = looked (turns_in sweep) ∷ flat_map shown_in sweep

-- what the clock tells of a round, and of a sweep
abbrev pub asked_in : Round → List Told
asked_in (Opens port) = []
asked_in (Turns port acts) = Turn ∷ flat_map asked acts

abbrev pub asked_of : List Round → List Told
asked_of sweep = Sweep ∷ flat_map asked_in sweep

-- how many parts are stepped
abbrev pub steps_in : List Round → ℕ
steps_in [] = 0
steps_in (Opens port ∷ rounds) = steps_in rounds
steps_in (Turns port acts ∷ rounds) = step_count acts + steps_in rounds

-- The turns are in the order of the ports, from one port on and below another, so that each has one at most. A connection begins before the
-- first turn alone.
abbrev pub InOrder : ℕ → ℕ → List Round → Type 0
InOrder from to [] = from ≤ to
InOrder from to (Opens port ∷ rounds) = (from ≡ 0) × InOrder from to rounds
InOrder from to (Turns port acts ∷ rounds) = (from ≤ port) × InOrder (suc port) to rounds

-- a round is of a port: its turn in which it is not passed over, or a connection that begins there
abbrev pub IsOf : ℕ → Round → Type 0
IsOf port (Opens p) = p ≡ port
IsOf port (Turns p acts) = (p ≡ port) × (IsPassed acts → ⊥)

abbrev pub IsServed : ℕ → List Round → Type 0
IsServed port [] = ⊥
IsServed port (r ∷ rounds) = IsOf port r ⊎ IsServed port rounds

abbrev pub HasTurn : ℕ → List Round → Type 0
HasTurn port [] = ⊥
HasTurn port (Opens p ∷ rounds) = HasTurn port rounds
HasTurn port (Turns p acts ∷ rounds) = (p ≡ port) ⊎ HasTurn port rounds

-- One sweep over the ports that were made so far, of `most` ports: each has one turn, and one on which something waits to be stepped is not passed over
-- in it. One that is passed over said that it is not ready. On a port that was not made there is no connection.
pub record Sweeps (most : ℕ) (s : ServerState) (old : Desks) (sweep : List Round) (t : ServerState) (new : Desks) : Type 0 where
  pub made : ℕ
  pub few : made ≤ most
  pub turning : Turning s old sweep t new
  pub in_order : InOrder 0 made sweep
  pub each : (port : ℕ) → port < made → HasTurn port sweep
  pub none_passed : (port : ℕ) → HasMore (old port) → IsServed port sweep
  pub none_else : (port : ℕ) → made ≤ port → new port ≡ closed

abbrev pub Sweeping : ℕ → ServerState → Desks → List (List Round) → ServerState → Desks → Type 0
Sweeping most s old [] t new = (t ≡ s) × ((c : ℕ) → new c ≡ old c)
Sweeping most s old (sweep ∷ sweeps) t new = (u : ServerState) × (between : Desks) × Sweeps most s old sweep u between
    × Sweeping most u between sweeps t new

-- From ports without a connection on, `most` of them: for some sweeps, the state left is that of their rounds. What the connections show is of each sweep that it
-- was looked at who is ready and who begins, and what its rounds show; the clock told of each its begin and what it told of its rounds; and nothing else.
pub record ServesRounds (most : ℕ) (old new : ServerState) (desks : List Desk) (count : ℕ) (l0 l1 : Option (List Deed)) (c0 c1 : Option (List Told)) : Type 0 where
  pub sweeps : List (List Round)
  pub rounds : List Round
  pub are : rounds ≡ flat_map (λ sweep. sweep) sweeps
  pub counted : length sweeps ≡ count
  pub turning : Turning old none_live rounds new (at desks)
  pub sweeping : Sweeping most old none_live sweeps new (at desks)
  pub logs : Logs l0 l1 (flat_map shown_of sweeps)
  pub clock : Logs c0 c1 (flat_map asked_of sweeps)

-- The same to the end: until no connection is left and none will come, or for 2^64 - 1 sweeps.
abbrev pub Serves : ℕ → ServerState → ServerState → List Desk → Option (List Deed) → Option (List Deed) → Option (List Told) → Option (List Told) → Type 0
Serves most old new desks l0 l1 c0 c1 = (count : ℕ) × (before : Option (List Deed)) × ServesRounds most old new desks count l0 before c0 c1
    × (Logs before l1 over ⊎ ((count ≡ 2 ^ 64 - 1) × (before ≡ l1)))
