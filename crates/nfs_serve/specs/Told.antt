-- What a clock tells of the time of many connections, in its order.
use Rattle.std.specs.Prelude.{◌≡◌, ℕ, Bool, List, ◌++◌, Option, Some, None}

-- A sweep over the ports begins; the turn of a port begins; the moment of a record; and, behind that record, whether the turn has lasted long
-- enough, so that what waits may wait for the next sweep.
pub data Told : Type 0 where
  Sweep : Told
  Turn : Told
  Moment : (moment : ℕ) → Told
  Late : (late : Bool) → Told

-- what is known grows by these
abbrev pub Logs : {A : Type 0} → Option (List A) → Option (List A) → List A → Type 0
Logs None new more = Unit {0}
Logs (Some xs) None more = ⊥
Logs (Some xs) (Some ys) more = ys ≡ xs ++ more
