-- How long a record waits for its turn: as long as a bounded number of records of others takes.
use Rattle.std.specs.Prelude.{◌≡◌, ◌≤◌, ℕ, ◌+◌, ◌-◌, ◌*◌, List, ◌∷◌, ◌++◌}
use Rattle.nfs_serve.specs.{Step.ServerState, Desk.{Act, HasMore, most_steps}, Hub.{Desks, Round, Turns, IsOf, Sweeps, steps_in}}

-- On a port, behind these rounds of a sweep, there is a turn in the next sweep in which it is not passed over, or a connection that begins there; and in between
-- no more than 16 parts of each other port are stepped.
abbrev pub HasTurnSoon : (most : ℕ) (behind second : List Round) (port : ℕ) → Type 0
HasTurnSoon most behind second port = (front : List Round) × (round : Round) × (back : List Round) × (second ≡ front ++ round ∷ back) × IsOf port round
    × (steps_in behind + steps_in front ≤ (most - 1) * most_steps)

-- Behind its turn something waits on a port, of so many. Then it has its next turn in the next sweep, unless another connection begins there, and
-- between the two no more than 16 parts of each other port are stepped.
abbrev pub WaitsForFew : Type 0
WaitsForFew = (most : ℕ) (s u t : ServerState) (old mid new : Desks) (first second before behind : List Round) (port : ℕ) (acts : List Act)
    → Sweeps most s old first u mid → Sweeps most u mid second t new → first ≡ before ++ Turns port acts ∷ behind → HasMore (mid port)
    → HasTurnSoon most behind second port
