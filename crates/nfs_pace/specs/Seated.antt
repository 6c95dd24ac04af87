-- What is done with the places of a server, and who keeps a seat by it (docs/OPERATING.md). In microseconds.
use Rattle.std.specs.Prelude.{◌≡◌, ◌≤◌, ◌<◌, ℕ, ◌+◌, List, [], ◌∷◌, length, set, Bool, true, false, Some, None, is_none}
use Rattle.nfs_pace.specs.declared.guest.Guest.{Guest}
use Rattle.nfs_pace.specs.Places.{PlacesModel, Guests, guest_at, seat_at, AreEach, answers, hears, ends, newcomer, sits, left, has_ended, is_at, is_of, used_at, is_run_out, seats_of, crowd_of, is_seated, asker, SeatsNext}

-- a newcomer has a port from now on; a SEQUENCE of a client was answered there, or something else; a session was ended there; its connection is gone; one
-- of the hall is given a seat, if there is one for it
pub data Deed : Type 0 where
  Stands : (port address now shown sweep : ℕ) → Deed
  Answers : (port client shown : ℕ) → Deed
  Hears : (port shown : ℕ) → Deed
  Ends : (port : ℕ) → Deed
  Leaves : (port shown : ℕ) → Deed
  Seated : (shown : ℕ) → (given : Bool) → Deed

-- the seats stay, and how long one is spared
abbrev pub GuestsBecome : PlacesModel → Guests → PlacesModel → Type 0
GuestsBecome p guests q = q ≡ record p { guests = guests }

-- what is known of the places behind a deed
abbrev pub Does : PlacesModel → Deed → PlacesModel → Type 0
Does p (Stands port address now shown sweep) q = AreEach (left port (has_ended (guest_at p.guests port)) p.lease shown) p.seats q.seats
    × (q.guests ≡ set p.guests port (Some (newcomer address now shown sweep))) × (q.lease ≡ p.lease)
Does p (Answers port client shown) q = AreEach (sits port client shown) p.seats q.seats
    × (q.guests ≡ set p.guests port (answers client shown (guest_at p.guests port))) × (q.lease ≡ p.lease)
Does p (Hears port shown) q = GuestsBecome p (set p.guests port (hears shown (guest_at p.guests port))) q
Does p (Ends port) q = GuestsBecome p (set p.guests port (ends (guest_at p.guests port))) q
Does p (Leaves port shown) q = AreEach (left port (has_ended (guest_at p.guests port)) p.lease shown) p.seats q.seats
    × (q.guests ≡ set p.guests port None) × (q.lease ≡ p.lease)
Does p (Seated shown given) q = SeatsNext p shown given q

-- a client has a seat, or is kept one, on which a SEQUENCE of it was answered at a moment or later
abbrev pub HasSeat : PlacesModel → ℕ → ℕ → Type 0
HasSeat p client moment = (j : ℕ) × (j < length p.seats) × (is_of client (seat_at p.seats j) ≡ true) × (moment ≤ used_at (seat_at p.seats j))

-- a port's seat is the client's
abbrev pub SitsAt : PlacesModel → ℕ → ℕ → Type 0
SitsAt p client port = (j : ℕ) × (j < length p.seats) × (is_of client (seat_at p.seats j) ≡ true) × (is_at port (seat_at p.seats j) ≡ true)

-- within a lease of the moment
abbrev pub IsWithin : PlacesModel → ℕ → ℕ → Type 0
IsWithin p moment shown = (moment ≤ shown) × (shown ≤ moment + p.lease)

-- What the client does not do: end its session or client record on the connection of its seat and then the connection, or let a session of another client
-- be answered there. And what is shown stands within a lease of the moment.
abbrev pub Renewed : PlacesModel → ℕ → ℕ → Deed → Type 0
Renewed p client moment (Stands port address now shown sweep) = IsWithin p moment shown × (SitsAt p client port → has_ended (guest_at p.guests port) ≡ false)
Renewed p client moment (Answers port other shown) = IsWithin p moment shown × (SitsAt p client port → other ≡ client)
Renewed p client moment (Hears port shown) = Unit {0}
Renewed p client moment (Ends port) = Unit {0}
Renewed p client moment (Leaves port shown) = IsWithin p moment shown × (SitsAt p client port → has_ended (guest_at p.guests port) ≡ false)
Renewed p client moment (Seated shown given) = IsWithin p moment shown

-- The two laws are of places of which this is known behind a deed, so that wrong ones can be tried.
module _ (Acts : PlacesModel → Deed → PlacesModel → Type 0) where
  -- deeds one after the other, in each of which that is so
  abbrev pub RunsBy : PlacesModel → ℕ → ℕ → List Deed → PlacesModel → Type 0
  RunsBy p client moment [] q = q ≡ p
  RunsBy p client moment (d ∷ deeds) q = (between : PlacesModel) × Acts p d between × Renewed p client moment d × RunsBy between client moment deeds q

  -- Whoever has a seat or is kept one has it behind any deeds, whoever comes and whatever is answered to others, as long as no more than a lease has passed
  -- since a SEQUENCE of it was answered there.
  abbrev pub KeepsSeatsBy : Type 0
  KeepsSeatsBy = (p q : PlacesModel) (client moment : ℕ) (deeds : List Deed) → HasSeat p client moment → RunsBy p client moment deeds q → HasSeat q client moment

abbrev pub RunsRenewed : PlacesModel → ℕ → ℕ → List Deed → PlacesModel → Type 0
RunsRenewed p client moment deeds q = RunsBy Does p client moment deeds q

abbrev pub KeepsSeats : Type 0
KeepsSeats = KeepsSeatsBy Does

-- a seat that somebody has or is kept, in its lease; and its client has one at most beyond those of another
pub record IsHad (p : PlacesModel) (shown : ℕ) (g : Guest) (j : ℕ) : Type 0 where
  pub taken : is_none (seat_at p.seats j) ≡ false
  pub lasts : is_run_out p.lease shown (seat_at p.seats j) ≡ false
  pub few : crowd_of p.seats (seat_at p.seats j) ≤ seats_of g.client p.seats + 1

-- If one in the hall whose client is known is given no seat, each seat is such: of as many clients as there are seats, where its own client has none.
abbrev pub AreHadBy : (PlacesModel → ℕ → Bool → PlacesModel → Type 0) → Type 0
AreHadBy Next = (p q : PlacesModel) (shown port : ℕ) (g : Guest) → Next p shown false q → port < length p.guests
    → asker (is_seated p port) (guest_at p.guests port) ≡ Some g → (j : ℕ) → j < length p.seats → IsHad p shown g j

abbrev pub SeatsAreHad : Type 0
SeatsAreHad = AreHadBy SeatsNext
