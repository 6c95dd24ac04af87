-- A worked run, and clocks by which a client that renews in time loses its lease.
use Rattle.std.specs.Prelude.{◌≡◌, ℕ, ◌+◌, ◌-◌, ◌*◌, ◌/◌, List, [], ◌∷◌, min, max}
use Rattle.nfs_pace.specs.{declared.paced.Paced.Paced, Paced.{second, starts, tells, risen}}
use Rattle.nfs_pace.specs.Laws.{Call, Sweep, Read, Ascends, after, IsPaced, RenewsInTime, KeepsWhoRenews}

-- so many seconds behind the start
abbrev pub at : ℕ → ℕ
at seconds = (1000 + seconds) * second

-- Leases last 90 seconds. Somebody else's records take 20 seconds a sweep. A client renews, and renews again 60 seconds behind the reply to that; each
-- time its request waits a sweep, so that 121 seconds pass between the moments of the two.
abbrev pub renewed : Paced
renewed = tells risen (starts 90 (at 0))

abbrev pub rest : List Call
rest = Read (at 20) ∷ Sweep (at 20) ∷ []

abbrev pub between : List Call
between = Sweep (at 40) ∷ Read (at 60) ∷ Sweep (at 60) ∷ Sweep (at 80) ∷ []

abbrev pub until : List Call
until = Read (at 100) ∷ Sweep (at 101) ∷ Read (at 121) ∷ []

-- the second moment is 33 seconds behind the first, so that the client keeps its lease
pub record WorkedRun : Type 0 where
  pub first : renewed.told / second ≡ 1000
  pub paced : IsPaced risen renewed
  pub renews : RenewsInTime risen 90 renewed rest between until
  pub rests : Ascends renewed.read rest
  pub goes_on : Ascends (after risen renewed rest).read between
  pub ends : Ascends (after risen (after risen renewed rest) between).read until
  pub last : risen (after risen (after risen (after risen renewed rest) between) until) / second ≡ 1033

-- a clock that shows what is read
abbrev pub prompt : Paced → ℕ
prompt p = max p.last p.read

-- one that rises by a quarter of a lease in a sweep, and makes up a third of what passes
abbrev pub hasty : Paced → ℕ
hasty p =
    let passed = p.read - p.since in
    max p.last (min p.read (p.begun + min (passed + passed / 3) (p.lease / 4)))

pub record WrongClocks : Type 0 where
  pub prompt : KeepsWhoRenews prompt → ⊥
  pub hasty : KeepsWhoRenews hasty → ⊥
