-- What each answer of a connection shows of what was done.
use Rattle.std.specs.Prelude.{ℕ, zero, suc, ◌-◌, ◌<◌, ◌≤◌, List, [], ◌∷◌, length, take, Option, unwrap_or}
use Rattle.nfs_serve.specs.{Deeds.{Deed, looked, over}, Desk.{Opened, Unready, ReadBlocked, WriteBlocked, Failed}, declared.ports.Next.Next}
use Rattle.nfs_serve.specs.{declared.ports.Came.Came, declared.ports.Took.Took}
use Rattle.nfs_serve.specs.Desk as act
use Rattle.nfs_serve.specs.declared.ports.Next.TheVariants as next
use Rattle.nfs_serve.specs.declared.ports.Came.TheVariants as read
use Rattle.nfs_serve.specs.declared.ports.Took.TheVariants as written

-- it is one of the first ports, of which there are so many
abbrev pub NamesPort : ℕ → Next → Type 0
NamesPort ports (next.Opened port) = port < ports
NamesPort ports next = Unit {0}

-- of those it was looked at who begins
abbrev pub named : ℕ → Next → List Deed
named ports (next.Opened port) = looked ports ∷ record { port = port; act = Opened } ∷ []
named ports next.Nobody = looked ports ∷ []
named ports next.Over = over

-- so many ports from one on show that they are not ready
abbrev pub passed : ℕ → ℕ → List Deed
passed from zero = []
passed from (suc n) = record { port = from; act = Unready } ∷ passed (suc from) n

-- the first port from one on and below another that is ready, and each before it shows that it is not
abbrev pub passes : (from to : ℕ) → Option ℕ → List Deed
passes from to found = passed from (unwrap_or found to - from)

abbrev pub ComesWithin : Came → List ℕ → Type 0
ComesWithin (read.Bytes n) buf = (0 < n) × (n ≤ length buf)
ComesWithin came buf = Unit {0}

abbrev pub came : ℕ → Came → List ℕ → List Deed
came port (read.Bytes n) buf = record { port = port; act = act.Came (take n buf) } ∷ []
came port read.Blocked buf = record { port = port; act = ReadBlocked } ∷ []
came port read.Ended buf = record { port = port; act = act.Ended } ∷ []
came port read.Failed buf = record { port = port; act = Failed } ∷ []

abbrev pub TakesWithin : Took → List ℕ → Type 0
TakesWithin (written.Bytes n) bytes = (0 < n) × (n ≤ length bytes)
TakesWithin took bytes = Unit {0}

abbrev pub took : ℕ → Took → List ℕ → List Deed
took port (written.Bytes n) bytes = record { port = port; act = act.Took (take n bytes) } ∷ []
took port written.Blocked bytes = record { port = port; act = WriteBlocked } ∷ []
took port written.Failed bytes = record { port = port; act = Failed } ∷ []
