-- Who is looked at, and who of them is ready.
use Rattle.std.specs.Prelude.{◌≡◌, ◌≤◌, ◌<◌, ℕ, zero, suc, ◌+◌, min, List, get_or, Bool, true, false, ◌&&◌, Option, Some, None, if◌then◌else◌}
use Rattle.nfs_pace.specs.{declared.turns.Turn.Turn, Places.{Guests, client_of, guest_at}, Turns.{asked, becomes, has_turn}}
use Rattle.nfs_serve.specs.{declared.ports.Next.Next}
use Rattle.nfs_serve.specs.declared.ports.Next.TheVariants.{Over}
use Rattle.nfs_sockets.specs.declared.connections.Connection.{Connection}

-- it was looked at once, unless no connection is left
abbrev pub Looks : ℕ → ℕ → Next → Type 0
Looks old new Over = Unit {0}
Looks old new next = new ≡ min (old + 1) 18446744073709551615

-- whether a read or a write may do something on a port
abbrev pub is_ready : Option Connection → Bool
is_ready None = false
is_ready (Some connection) = connection.ready

abbrev pub ready_at : List (Option Connection) → ℕ → Bool
ready_at connections port = is_ready (get_or connections port None)

-- those that are ready have ports from one on and below another
abbrev pub Between : (from to : ℕ) → List (Option Connection) → Type 0
Between from to connections = (port : ℕ) → ready_at connections port ≡ true → (from ≤ port) × (port < to)

-- the ports below one that are ready have asked for a turn of their clients
abbrev pub asked_below : ℕ → List (Option Connection) → Guests → (sweep : ℕ) → List Turn → List Turn
asked_below zero connections guests sweep turns = turns
asked_below (suc port) connections guests sweep turns =
    let before = asked_below port connections guests sweep turns in
    let client = client_of (guest_at guests port) in
    if ready_at connections port then becomes client (asked client sweep port) before else before

-- whether a port is to have a turn: it is ready, and its client's other connections do not come before it
abbrev pub turn_at : List (Option Connection) → Guests → List Turn → (sweep : ℕ) → ℕ → Bool
turn_at connections guests turns sweep port = ready_at connections port && has_turn (client_of (guest_at guests port)) sweep port turns

abbrev pub NoneBefore : (ℕ → Bool) → ℕ → ℕ → Type 0
NoneBefore is from to = (port : ℕ) → from ≤ port → port < to → is port ≡ false

-- the first port from one on and below another that is such a port
abbrev pub IsFirst : (ℕ → Bool) → ℕ → ℕ → Option ℕ → Type 0
IsFirst is from to None = NoneBefore is from to
IsFirst is from to (Some port) = NoneBefore is from port × (is port ≡ true)
