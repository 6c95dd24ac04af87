-- A seat that is kept, worked by hand, and places that take it or give none. In microseconds.
use Rattle.std.specs.Prelude.{◌≡◌, ℕ, ◌*◌, List, [], ◌∷◌, Bool, false, set, Some, None}
use Rattle.nfs_pace.specs.declared.{guest.Guest.Guest, seat.Seat.Seat}
use Rattle.nfs_pace.specs.Paced.{second}
use Rattle.nfs_pace.specs.Places.{PlacesModel, guest_at, seat_at, given_to}
use Rattle.nfs_pace.specs.Seated.{Deed, Stands, Answers, Seated, Does, HasSeat, RunsRenewed, KeepsSeatsBy, AreHadBy}

-- Client 1 has the one seat, and was answered a SEQUENCE at 100 seconds. Leases last 90 seconds. At 120 seconds another connection comes, and client 2 is answered on it;
-- at 190 seconds it asks for a seat, and is given none.
abbrev pub at : ℕ → ℕ
at seconds = seconds * second

abbrev pub guest : (address client came : ℕ) → Guest
guest address client came = record { address = address; client = client; used = at came; since = at came; came = at came; sweep = 0; ended = false }

abbrev pub its_seat : Seat
its_seat = record { client = 1; address = 5; used = at 100; port = Some 0 }

abbrev pub first : PlacesModel
first = record { guests = Some (guest 5 1 100) ∷ None ∷ []; seats = Some its_seat ∷ []; lease = at 90 }

abbrev pub last : PlacesModel
last = record first { guests = Some (guest 5 1 100) ∷ Some (guest 6 2 120) ∷ [] }

abbrev pub deeds : List Deed
deeds = Stands 1 6 (at 120) (at 120) 0 ∷ Answers 1 2 (at 120) ∷ Seated (at 190) false ∷ []

pub record IsKept : Type 0 where
  pub has : HasSeat first 1 (at 100)
  pub runs : RunsRenewed first 1 (at 100) deeds last
  pub still : HasSeat last 1 (at 100)

-- whoever asks is given the first seat
abbrev pub takes : PlacesModel → Deed → PlacesModel → Type 0
takes p (Seated shown given) q = q ≡ record p { seats = set p.seats 0 (given_to 1 (guest_at p.guests 1) (seat_at p.seats 0)) }
takes p d q = Does p d q

-- nobody is given one
abbrev pub gives_none : PlacesModel → ℕ → Bool → PlacesModel → Type 0
gives_none p shown given q = q ≡ p

pub record SeatsRefused : Type 0 where
  pub taken : KeepsSeatsBy takes → ⊥
  pub none : AreHadBy gives_none → ⊥
