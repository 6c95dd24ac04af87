-- What the connections show of what was done, in its order, and what each answer of theirs says.
use Rattle.std.specs.Prelude.{ℕ, List, [], ◌∷◌, Bool, true, false}
use Rattle.nfs_serve.specs.{Told.{Told, Moment, Late}, Desk.{Act, Looked, Stepped, Counted}}
use Rattle.nfs_serve.specs.Desk as act

pub record Deed : Type 0 where
  pub port : ℕ
  pub act : Act

-- it was looked at which of so many ports are ready, and who begins on one of them
abbrev pub looked : ℕ → Deed
looked made = record { port = made; act = Looked }

-- no connection is left; it is of no port
abbrev pub over : List Deed
over = record { port = 0; act = act.Over } ∷ []

-- the port is told that its connection counts
abbrev pub counted : ℕ → Bool → List Deed
counted port false = []
counted port true = record { port = port; act = Counted } ∷ []

-- what an act shows to the connections, and what the clock told for it
abbrev pub shown : ℕ → Act → List Deed
shown port (Stepped moment part late first) = counted port first
shown port act = record { port = port; act = act } ∷ []

abbrev pub asked : Act → List Told
asked (Stepped moment part late first) = Moment moment ∷ Late late ∷ []
asked act = []
