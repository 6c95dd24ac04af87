-- What leases rest on: by how much a clock rises from one sweep to a later one, and that whoever renews in time is told a moment within its lease
-- (RFC 8881 section 8.3; docs/OPERATING.md).
use Rattle.std.specs.Prelude.{◌≡◌, ◌≤◌, ℕ, ◌+◌, ◌-◌, ◌*◌, ◌/◌, List, [], ◌∷◌}
use Rattle.nfs_pace.specs.{declared.paced.Paced.Paced, Paced.{second, step, takes, begins, tells}}

-- what is asked of a clock: a sweep begins at a reading; a moment is told; a reading is taken
pub data Call : Type 0 where
  Sweep : (read : ℕ) → Call
  Tell : Call
  Read : (read : ℕ) → Call

-- no reading falls
abbrev pub Ascends : ℕ → List Call → Type 0
Ascends from [] = Unit {0}
Ascends from (Sweep read ∷ calls) = (from ≤ read) × Ascends read calls
Ascends from (Tell ∷ calls) = Ascends from calls
Ascends from (Read read ∷ calls) = (from ≤ read) × Ascends read calls

abbrev pub sweeps : List Call → ℕ
sweeps [] = 0
sweeps (Sweep read ∷ calls) = 1 + sweeps calls
sweeps (call ∷ calls) = sweeps calls

-- what passed, with a sixteenth of it
abbrev pub made_more : ℕ → ℕ
made_more passed = passed + passed / 16

-- of a clock that shows what `show` says
module _ (show : Paced → ℕ) where
  abbrev pub does : Paced → Call → Paced
  does p (Sweep read) = begins show p read
  does p Tell = tells show p
  does p (Read read) = takes p read

  abbrev pub after : Paced → List Call → Paced
  after p [] = p
  after p (c ∷ calls) = after (does p c) calls

  -- From one sweep to a later one it rises by what passed between their begins and a sixteenth of it at most, and by a step a sweep at most: so long as
  -- what was told last is no more than a lease ago by then, since a clock that nobody asks for longer makes up all that it lags at once.
  pub record AddsUp (p : Paced) (calls : List Call) : Type 0 where
    pub passed : p.begun + made_more ((after p calls).since - p.since) ≤ p.told + p.lease
        → (after p calls).begun ≤ p.begun + made_more ((after p calls).since - p.since)
    pub steps : p.begun + sweeps calls * step p ≤ p.told + p.lease → (after p calls).begun ≤ p.begun + sweeps calls * step p

  -- what a clock keeps, from its start on
  pub record IsPaced (p : Paced) : Type 0 where
    pub since : p.since ≤ p.read
    pub begun : p.begun ≤ p.last
    pub told : p.told ≤ p.last
    pub step : p.last ≤ p.begun + step p
    pub passed : p.last ≤ p.begun + made_more (p.read - p.since)

  abbrev pub AlwaysAddsUp : Type 0
  AlwaysAddsUp = (p : Paced) (calls : List Call) → IsPaced p → Ascends p.read calls → AddsUp p calls × IsPaced (after p calls)

  -- A renewal was told its moment in a sweep, and its reply left in it: `rest` is the rest of that sweep and the begin of the next. The next renewal came
  -- in a sweep that began no later than three quarters of a lease behind that begin, and was told its moment in the sweep behind it or sooner.
  pub record RenewsInTime (lease : ℕ) (p : Paced) (rest between until : List Call) : Type 0 where
    pub lasts : p.lease ≡ lease * second
    pub told : p.told ≡ p.last
    pub answered : sweeps rest ≤ 1
    pub soon : (after (after p rest) between).since - (after p rest).since ≤ 3 * p.lease / 4
    pub heard : sweeps until ≤ 1

  -- then it is told a moment within a lease of the first
  abbrev pub KeepsWhoRenews : Type 0
  KeepsWhoRenews = (lease : ℕ) (p : Paced) (rest between until : List Call) → IsPaced p → RenewsInTime lease p rest between until
      → Ascends p.read rest → Ascends (after p rest).read between → Ascends (after (after p rest) between).read until
      → show (after (after (after p rest) between) until) / second ≤ p.told / second + lease
