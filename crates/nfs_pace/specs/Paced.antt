-- A clock of many connections that is slowed where sweeps over them are long (docs/OPERATING.md). In microseconds.
use Rattle.std.specs.Prelude.{ℕ, ◌+◌, ◌-◌, ◌*◌, ◌/◌, nat_lt, nat_le, Bool, min, max, if◌then◌else◌}
use Rattle.nfs_pace.specs.declared.paced.Paced.{Paced}

abbrev pub second : ℕ
second = 1000000

-- a turn has lasted long enough
abbrev pub enough : ℕ
enough = 2000

-- by how much it rises in a sweep at most: a sixteenth of a lease
abbrev pub step : Paced → ℕ
step p = p.lease / 16

-- what is made up of a lag, where so much passed in a sweep: a sixteenth of that, in sweeps shorter than a second
abbrev pub made_up : ℕ → ℕ
made_up passed = if nat_lt passed second then passed / 16 else 0

-- a clock that shows what is read, for a lease of so many seconds
abbrev pub starts : ℕ → ℕ → Paced
starts lease read = record { lease = lease * second; begun = read; since = read; last = read; told = read; read = read; turn = read }

-- What it shows: what it showed when the sweep began, and what passed since then with what is made up, at most a step. It never leads what is read,
-- and never falls.
abbrev pub risen : Paced → ℕ
risen p =
    let passed = p.read - p.since in
    max p.last (min p.read (p.begun + min (passed + made_up passed) (step p)))

-- nobody asked for longer than a lease, so that none lasts
abbrev pub is_idle : Paced → ℕ → Bool
is_idle p shown = nat_lt (p.told + p.lease) shown

abbrev pub sweeps_from : Paced → ℕ → ℕ → Paced
sweeps_from p read shown = record p { read = read; since = read; begun = shown; last = shown }

-- a reading is taken
abbrev pub takes : Paced → ℕ → Paced
takes p read = record p { read = read }

-- a turn begins; those of its client before it in this sweep lasted so long, and it is as if it had begun with them
abbrev pub begins_turn : ℕ → Paced → Paced
begins_turn before p = record p { turn = p.read - before }

abbrev pub is_late : Paced → ℕ → Bool
is_late p read = nat_le enough (read - p.turn)

-- What a clock does that shows what `show` says: a sweep begins at a reading, and a moment is told.
module _ (show : Paced → ℕ) where
  abbrev pub begins : Paced → ℕ → Paced
  begins p read =
      let shown = show (takes p read) in
      sweeps_from p read (if is_idle p shown then max shown read else shown)

  abbrev pub tells : Paced → Paced
  tells p = record p { last = show p; told = show p }

-- how long a server waits at most, with a lease of so many seconds
abbrev pub patience : ℕ → ℕ
patience lease = min (lease * second / 32) 500000
