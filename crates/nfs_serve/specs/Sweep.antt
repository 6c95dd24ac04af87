-- What comes of a sweep in the midst, and of who begins before it; private contracts alone speak of it.
use Rattle.std.specs.Prelude.{◌≡◌, ◌⊎◌, ℕ, ◌-◌, ◌<◌, ◌≤◌, List, [], ◌∷◌, length, replicate, flat_map, Bool, true, false, Option}
use Rattle.nfs_serve.specs.{Step.ServerState, Told.{Told, Turn, Logs}, Desk.{opened, HasMore, Opened}, Server.{KeptServer, state_of}}
use Rattle.nfs_serve.specs.{Deeds.{Deed, looked, over}, Shows.passed, Lane.desks_of, declared.lane.Lane.Lane}
use Rattle.nfs_serve.specs.Hub.{Desks, at, Round, OthersStay, Turning, InOrder, HasTurn, IsServed, Sweeps, shown_in, shown_of, turns_in, asked_in, asked_of}

-- the ports below one had their turns
pub record SweepsBelow (to : ℕ) (s : ServerState) (old : Desks) (t : ServerState) (new : Desks) (l0 l1 : Option (List Deed)) (c0 c1 : Option (List Told)) : Type 0 where
  pub sweep : List Round
  pub turning : Turning s old sweep t new
  pub in_order : InOrder 0 to sweep
  pub count : turns_in sweep ≡ to
  pub each : (port : ℕ) → port < to → HasTurn port sweep
  pub none_passed : (port : ℕ) → port < to → HasMore (old port) → IsServed port sweep
  pub others : (port : ℕ) → to ≤ port → new port ≡ old port
  pub logs : Logs l0 l1 (flat_map shown_in sweep)
  pub clock : Logs c0 c1 (flat_map asked_in sweep)

-- all that were made had them
abbrev pub SweepsAll : KeptServer → List Lane → KeptServer → List Lane → Option (List Deed) → Option (List Deed) → Option (List Told) → Option (List Told) → Type 0
SweepsAll s old t new = SweepsBelow (length old) (state_of s) (at (desks_of old)) (state_of t) (at (desks_of new))

-- where those below one port had theirs, those below another have theirs too
abbrev pub SweepsOn : (from to : ℕ) → KeptServer → List Lane → KeptServer → List Lane → Option (List Deed) → Option (List Deed) → Option (List Told) → Option (List Told) → Type 0
SweepsOn from to a lanes b more l1 l2 c1 c2 = (s : ServerState) (old : Desks) (l0 : Option (List Deed)) (c0 : Option (List Told))
    → SweepsBelow from s old (state_of a) (at (desks_of lanes)) l0 l1 c0 c1 → SweepsBelow to s old (state_of b) (at (desks_of more)) l0 l2 c0 c2

-- where it is known, nothing waits to be stepped on any port
abbrev pub Quiet : Bool → List Lane → Type 0
Quiet quiet lanes = quiet ≡ true → (port : ℕ) → HasMore (at (desks_of lanes) port) → ⊥

-- what is passed over: on no port from one on and below another something waits to be stepped, and each shows that it is not ready
pub record PassesOver (from to : ℕ) (lanes : List Lane) (l0 l1 : Option (List Deed)) (c0 c1 : Option (List Told)) : Type 0 where
  pub on : from ≤ to
  pub within : to ≤ length lanes
  pub none : (port : ℕ) → from ≤ port → port < to → HasMore (at (desks_of lanes) port) → ⊥
  pub logs : Logs l0 l1 (passed from (to - from))
  pub clock : Logs c0 c1 (replicate (to - from) Turn)

-- it is looked at who begins on those that were made: nobody, or a connection on one of them; or no connection is left
abbrev pub Begins : ℕ → Bool → Desks → Desks → Option (List Deed) → Option (List Deed) → Type 0
Begins made true old new l0 l1 = (((c : ℕ) → new c ≡ old c) × Logs l0 l1 (looked made ∷ []))
    ⊎ ((port : ℕ) × (port < made) × (new port ≡ opened) × OthersStay old new port × Logs l0 l1 (looked made ∷ record { port = port; act = Opened } ∷ []))
Begins made false old new l0 l1 = Logs l0 l1 over

-- whoever begins, and then a whole sweep
pub record Swept (made : ℕ) (s : ServerState) (old : Desks) (u : ServerState) (new : Desks) (l0 l1 : Option (List Deed)) (c0 c1 : Option (List Told)) : Type 0 where
  pub sweep : List Round
  pub sweeps : Sweeps made s old sweep u new
  pub logs : Logs l0 l1 (shown_of sweep)
  pub clock : Logs c0 c1 (asked_of sweep)

-- or nobody is left, and nothing changes
abbrev pub ServesOnce : Bool → ℕ → ServerState → Desks → ServerState → Desks → Option (List Deed) → Option (List Deed) → Option (List Told) → Option (List Told) → Type 0
ServesOnce true made s old u new l0 l1 c0 c1 = Swept made s old u new l0 l1 c0 c1
ServesOnce false made s old u new l0 l1 c0 c1 = (u ≡ s) × ((c : ℕ) → new c ≡ old c) × Logs l0 l1 over × (c1 ≡ c0)
