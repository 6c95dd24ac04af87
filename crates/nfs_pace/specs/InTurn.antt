-- In which order the connections of a client have their turns (docs/OPERATING.md).
use Rattle.std.specs.Prelude.{◌≡◌, ◌⊎◌, ◌≤◌, ◌<◌, ℕ, zero, suc, Bool, true, false, nat_eq, if◌then◌else◌}
use Rattle.nfs_pace.specs.{declared.turns.Turn.Turn, Turns.{is_of, has_one, last_of}}

-- where a port asks as `ask` says
module _ (ask : (client sweep port : ℕ) → Turn → Turn) where
  -- of the ports below one, those that ask have asked
  abbrev pub asked_below : (ℕ → Bool) → ℕ → (client sweep : ℕ) → Turn → Turn
  asked_below asks zero client sweep turn = turn
  asked_below asks (suc port) client sweep turn =
      let before = asked_below asks port client sweep turn in
      if asks port then ask client sweep port before else before

-- The first port that has a turn is one that asks. It is behind that of the last turn if one that asks is, and no such one is below it; else none that asks is
-- below it.
pub record ComesNext (asks : ℕ → Bool) (count client sweep last : ℕ) (turn : Turn) : Type 0 where
  pub within : turn.first < count
  pub asks_first : asks turn.first ≡ true
  pub has : has_one client sweep turn.first turn ≡ true
  pub behind : (port : ℕ) → port < count → asks port ≡ true → last < port → (last < turn.first) × (turn.first ≤ port)
  pub least : (port : ℕ) → port < count → asks port ≡ true → (last < turn.first) ⊎ (turn.first ≤ port)

-- in each sweep of which no port had asked yet
abbrev pub TakeTurns : ((client sweep port : ℕ) → Turn → Turn) → Type 0
TakeTurns ask = (asks : ℕ → Bool) (count client sweep : ℕ) (turn : Turn) → nat_eq turn.sweep sweep ≡ false
    → (port : ℕ) → port < count → asks port ≡ true → ComesNext asks count client sweep (last_of client turn) (asked_below ask asks count client sweep turn)

-- the lowest port that asks is the first in every sweep
abbrev pub lowest_first : (client sweep port : ℕ) → Turn → Turn
lowest_first client sweep port turn = if is_of client sweep turn then turn
    else record { client = client; sweep = sweep; micros = 0; first = port; last = last_of client turn }
