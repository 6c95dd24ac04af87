-- Who has a seat among the connections of a server, who stands in the hall, and who gives way to a newcomer (docs/OPERATING.md). In microseconds.
use Rattle.std.specs.Prelude.{◌≡◌, ◌⊎◌, ◌≤◌, ◌<◌, ℕ, zero, suc, ◌+◌, ◌-◌, nat_eq, nat_lt, nat_le, List, length, map, get_or, set, Bool, true, false, not, ◌&&◌, ◌||◌, Option, Some, None, is_none, min, max, if◌then◌else◌}
use Rattle.std.specs.List.{count_by, list_any, position}
use Rattle.nfs_pace.specs.declared.{guest.Guest.Guest, seat.Seat.Seat}

abbrev pub Guests : Type 0
Guests = List (Option Guest)

abbrev pub Seats : Type 0
Seats = List (Option Seat)

-- who is on each port, who has each seat, and how long one is spared
pub record PlacesModel : Type 0 where
  pub guests : Guests
  pub seats : Seats
  pub lease : ℕ

abbrev pub guest_at : Guests → ℕ → Option Guest
guest_at guests port = get_or guests port None

abbrev pub seat_at : Seats → ℕ → Option Seat
seat_at seats j = get_or seats j None

-- each seat becomes what a function makes of it
abbrev pub AreEach : (Option Seat → Option Seat) → Seats → Seats → Type 0
AreEach f old new = (length new ≡ length old) × ((j : ℕ) → j < length old → seat_at new j ≡ f (seat_at old j))

-- a stranger is spared for ten seconds where a lease is longer
abbrev pub spared : ℕ → Guest → ℕ
spared lease guest = if nat_eq guest.client 0 then min lease 10000000 else lease

abbrev pub is_over : ℕ → ℕ → Option Guest → Bool
is_over lease shown None = false
is_over lease shown (Some guest) = nat_lt (spared lease guest) (shown - guest.used)

abbrev pub client_of : Option Guest → ℕ
client_of None = 0
client_of (Some guest) = guest.client

abbrev pub has_ended : Option Guest → Bool
has_ended None = false
has_ended (Some guest) = guest.ended

-- a SEQUENCE of a client was answered; something else was; a session or client was ended
abbrev pub answers : ℕ → ℕ → Option Guest → Option Guest
answers client shown None = None
answers client shown (Some guest) = Some (record guest { client = client; used = shown; ended = false })

abbrev pub hears : ℕ → Option Guest → Option Guest
hears shown None = None
hears shown (Some guest) = Some (record guest { used = if nat_eq guest.client 0 then shown else guest.used })

abbrev pub ends : Option Guest → Option Guest
ends None = None
ends (Some guest) = Some (record guest { ended = true })

abbrev pub newcomer : ℕ → ℕ → ℕ → ℕ → Guest
newcomer address now shown sweep = record { address = address; client = 0; used = shown; since = shown; came = now; sweep = sweep; ended = false }

abbrev pub names : ℕ → Option ℕ → Bool
names port None = false
names port (Some at) = nat_eq at port

-- it is the seat of who is on a port; of a client; kept for a client
abbrev pub is_at : ℕ → Option Seat → Bool
is_at port None = false
is_at port (Some seat) = names port seat.port

-- the seat of who is on a port is where it is looked for
abbrev pub IsFound : List ℕ → Seats → Type 0
IsFound found seats = (port j : ℕ) → is_at port (seat_at seats j) ≡ true → (port < length found) × (get_or found port 0 ≡ j)

abbrev pub is_of : ℕ → Option Seat → Bool
is_of client None = false
is_of client (Some seat) = nat_eq seat.client client

abbrev pub is_kept_for : ℕ → Option Seat → Bool
is_kept_for client None = false
is_kept_for client (Some seat) = nat_eq seat.client client && is_none seat.port

-- it is of the client and address of one that came since anything was answered there, and nothing was for a second
abbrev pub is_dead : ℕ → ℕ → ℕ → ℕ → Option Seat → Bool
is_dead client address since shown None = false
is_dead client address since shown (Some seat) = nat_eq seat.client client && nat_eq seat.address address && nat_le seat.used since
    && nat_le 1000000 (shown - seat.used)

-- nothing was answered there for longer than a lease
abbrev pub is_run_out : ℕ → ℕ → Option Seat → Bool
is_run_out lease shown None = false
is_run_out lease shown (Some seat) = nat_lt lease (shown - seat.used)

-- what is made of a seat where a SEQUENCE of a client was answered on a port, and where the connection of the port is gone
abbrev pub sits : ℕ → ℕ → ℕ → Option Seat → Option Seat
sits port client shown None = None
sits port client shown (Some seat) = if is_at port (Some seat) then Some (record seat { client = client; used = shown }) else Some seat

abbrev pub left : ℕ → Bool → ℕ → ℕ → Option Seat → Option Seat
left port ended lease shown None = None
left port ended lease shown (Some seat) = if not (is_at port (Some seat)) then Some seat
    else if ended || is_run_out lease shown (Some seat) then None else Some (record seat { port = None })

abbrev pub before : ℕ → Option Seat → ℕ
before client None = 0
before client (Some seat) = if nat_eq seat.client client then seat.used else 0

-- the seat, given to who is on a port
abbrev pub given_to : ℕ → Option Guest → Option Seat → Option Seat
given_to port None seat = seat
given_to port (Some guest) seat = Some (record { client = guest.client; address = guest.address; used = max guest.used (before guest.client seat); port = Some port })

abbrev pub seats_of : ℕ → Seats → ℕ
seats_of client seats = count_by (is_of client) seats

abbrev pub crowd_of : Seats → Option Seat → ℕ
crowd_of seats None = 0
crowd_of seats (Some seat) = seats_of seat.client seats

abbrev pub used_at : Option Seat → ℕ
used_at None = 0
used_at (Some seat) = seat.used

-- its client has most seats, and more than so many; of that many, it was answered nothing for longest
pub record IsMost (seats : Seats) (base j : ℕ) : Type 0 where
  pub within : j < length seats
  pub many : base < crowd_of seats (seat_at seats j)
  pub most : (other : ℕ) → other < length seats → crowd_of seats (seat_at seats other) ≤ crowd_of seats (seat_at seats j)
  pub longest : (other : ℕ) → other < length seats → crowd_of seats (seat_at seats other) ≡ crowd_of seats (seat_at seats j)
      → used_at (seat_at seats j) ≤ used_at (seat_at seats other)

abbrev pub NoneMany : Seats → ℕ → Type 0
NoneMany seats base = (j : ℕ) → j < length seats → crowd_of seats (seat_at seats j) ≤ base

abbrev pub is_seated : PlacesModel → ℕ → Bool
is_seated p port = list_any (is_at port) p.seats

abbrev pub of_address : ℕ → Option Guest → Bool
of_address address None = false
of_address address (Some guest) = nat_eq guest.address address

-- a client's connection, by the last SEQUENCE that was answered there
abbrev pub is_from : ℕ → Option Guest → Bool
is_from client None = false
is_from client (Some guest) = nat_eq guest.client client

-- What is counted of seats and of the hall: the client of each seat, and the address of who stands in the hall at each port; 2^64 - 1 where there is none.
abbrev pub nobody : ℕ
nobody = 18446744073709551615

abbrev pub owner : Option Seat → ℕ
owner None = nobody
owner (Some seat) = seat.client

abbrev pub stander : Bool → Option Guest → ℕ
stander seated None = nobody
stander seated (Some guest) = if seated then nobody else guest.address

abbrev pub AreOwners : List ℕ → Seats → Type 0
AreOwners owners seats = owners ≡ map owner seats

abbrev pub AreStanders : List ℕ → Guests → Seats → Type 0
AreStanders standers guests seats = (length standers ≡ length guests)
    × ((port : ℕ) → get_or standers port nobody ≡ stander (list_any (is_at port) seats) (guest_at guests port))

-- those in the hall, where it has lost his seat whose seat it was
abbrev pub joined : List ℕ → Guests → Option ℕ → List ℕ
joined standers guests None = standers
joined standers guests (Some port) = set standers port (stander false (guest_at guests port))

abbrev pub port_of : Option Seat → Option ℕ
port_of None = None
port_of (Some seat) = seat.port

-- it stands in the hall, at an address
abbrev pub stands : PlacesModel → ℕ → ℕ → Bool
stands p address port = of_address address (guest_at p.guests port) && not (is_seated p port)

-- how many do so, of the first ports
abbrev pub hall_count : PlacesModel → ℕ → ℕ → ℕ
hall_count p address zero = 0
hall_count p address (suc port) = hall_count p address port + (if stands p address port then 1 else 0)

abbrev pub stood : ℕ → Option Guest → ℕ
stood now None = 0
stood now (Some guest) = now - guest.came

-- long enough to give way to another: a second and eight sweeps
abbrev pub has_stood : ℕ → ℕ → Guest → Bool
has_stood now sweep guest = nat_le 1000000 (now - guest.came) && nat_le 8 (sweep - guest.sweep)

-- how many of its address stand in the hall, with the newcomer, where it may give way to that: of the strangers, or of the others
abbrev pub crowd_by : PlacesModel → Bool → ℕ → ℕ → ℕ → Bool → Option Guest → ℕ
crowd_by p strangers address now sweep seated None = 0
crowd_by p strangers address now sweep seated (Some guest) =
    if (not strangers || nat_eq guest.client 0) && (strangers || not (nat_eq guest.client 0)) && has_stood now sweep guest && not seated
    then hall_count p guest.address (length p.guests) + (if nat_eq guest.address address then 1 else 0) else 0

unfoldable pub crowd : PlacesModel → Bool → ℕ → ℕ → ℕ → ℕ → ℕ
crowd p strangers address now sweep port = crowd_by p strangers address now sweep (is_seated p port) (guest_at p.guests port)

-- of those, the first to go is of the address of which most stand there, and more than of the newcomer's; of that many, it came first
pub record IsFirstToGo (p : PlacesModel) (strangers : Bool) (address now sweep port : ℕ) : Type 0 where
  pub within : port < length p.guests
  pub many : hall_count p address (length p.guests) < crowd p strangers address now sweep port
  pub most : (other : ℕ) → other < length p.guests → crowd p strangers address now sweep other ≤ crowd p strangers address now sweep port
  pub longest : (other : ℕ) → other < length p.guests → crowd p strangers address now sweep other ≡ crowd p strangers address now sweep port
      → stood now (guest_at p.guests other) ≤ stood now (guest_at p.guests port)

abbrev pub NoneToGo : PlacesModel → Bool → ℕ → ℕ → ℕ → Type 0
NoneToGo p strangers address now sweep = (port : ℕ) → port < length p.guests
    → crowd p strangers address now sweep port ≤ hall_count p address (length p.guests)

-- What a newcomer is given: a port that is free; else one that was silent for longer than it is spared; else, where there is a hall, that of the stranger
-- in it who is the first to go, or else of another in it; or it waits.
abbrev pub GivesPort : PlacesModel → ℕ → ℕ → ℕ → ℕ → Option ℕ → Type 0
GivesPort p address now shown sweep (Some port) = (position is_none p.guests ≡ Some port)
    ⊎ ((position is_none p.guests ≡ None) × (position (is_over p.lease shown) p.guests ≡ Some port))
    ⊎ ((position is_none p.guests ≡ None) × (position (is_over p.lease shown) p.guests ≡ None) × IsFirstToGo p true address now sweep port)
    ⊎ ((position is_none p.guests ≡ None) × (position (is_over p.lease shown) p.guests ≡ None) × NoneToGo p true address now sweep
    × IsFirstToGo p false address now sweep port)
GivesPort p address now shown sweep None = (position is_none p.guests ≡ None) × (position (is_over p.lease shown) p.guests ≡ None)
    × ((length p.seats ≡ length p.guests) ⊎ (NoneToGo p true address now sweep × NoneToGo p false address now sweep))

-- who has a seat gives way to no newcomer, before it was silent for longer than it is spared
abbrev pub Spares : PlacesModel → ℕ → Option ℕ → Type 0
Spares p shown None = Unit {0}
Spares p shown (Some port) = (is_none (guest_at p.guests port) ≡ true) ⊎ (is_over p.lease shown (guest_at p.guests port) ≡ true) ⊎ (is_seated p port ≡ false)

-- the seat that a client is given for a connection at an address that came at a moment: the one that is kept for it; else one that is free; else that of
-- its own dead connection; else one that has run out; else one of the client that has most
abbrev pub Chooses : PlacesModel → ℕ → Guest → Option ℕ → Type 0
Chooses p shown g (Some j) = (position (is_kept_for g.client) p.seats ≡ Some j)
    ⊎ ((position (is_kept_for g.client) p.seats ≡ None) × (position is_none p.seats ≡ Some j))
    ⊎ ((position (is_kept_for g.client) p.seats ≡ None) × (position is_none p.seats ≡ None)
    × (position (is_dead g.client g.address g.since shown) p.seats ≡ Some j))
    ⊎ ((position (is_kept_for g.client) p.seats ≡ None) × (position is_none p.seats ≡ None)
    × (position (is_dead g.client g.address g.since shown) p.seats ≡ None) × (position (is_run_out p.lease shown) p.seats ≡ Some j))
    ⊎ ((position (is_kept_for g.client) p.seats ≡ None) × (position is_none p.seats ≡ None)
    × (position (is_dead g.client g.address g.since shown) p.seats ≡ None) × (position (is_run_out p.lease shown) p.seats ≡ None)
    × IsMost p.seats (seats_of g.client p.seats + 1) j)
Chooses p shown g None = (position (is_kept_for g.client) p.seats ≡ None) × (position is_none p.seats ≡ None)
    × (position (is_dead g.client g.address g.since shown) p.seats ≡ None) × (position (is_run_out p.lease shown) p.seats ≡ None)
    × NoneMany p.seats (seats_of g.client p.seats + 1)

-- who asks for a seat: one in the hall whose client is known
abbrev pub asker : Bool → Option Guest → Option Guest
asker seated None = None
asker seated (Some guest) = if nat_eq guest.client 0 || seated then None else Some guest

abbrev pub ChoosesFor : PlacesModel → ℕ → Option Guest → Option ℕ → Type 0
ChoosesFor p shown None result = result ≡ None
ChoosesFor p shown (Some guest) result = Chooses p shown guest result

abbrev pub GivesSeat : PlacesModel → ℕ → ℕ → Option ℕ → Type 0
GivesSeat p shown port result = ChoosesFor p shown (asker (is_seated p port) (guest_at p.guests port)) result

-- the first port, in their order, for which there is a seat, and that seat
pub record IsNext (p : PlacesModel) (shown port j : ℕ) : Type 0 where
  pub within : port < length p.guests
  pub seat : j < length p.seats
  pub gives : GivesSeat p shown port (Some j)
  pub first : (earlier : ℕ) → earlier < port → GivesSeat p shown earlier None

abbrev pub NoneNext : PlacesModel → ℕ → Type 0
NoneNext p shown = (port : ℕ) → port < length p.guests → GivesSeat p shown port None

-- who is there has it then, and nothing else changes
abbrev pub SeatsNext : PlacesModel → ℕ → Bool → PlacesModel → Type 0
SeatsNext p shown false q = (q ≡ p) × NoneNext p shown
SeatsNext p shown true q = (port : ℕ) × (j : ℕ) × IsNext p shown port j
    × (q ≡ record p { seats = set p.seats j (given_to port (guest_at p.guests port) (seat_at p.seats j)) })
