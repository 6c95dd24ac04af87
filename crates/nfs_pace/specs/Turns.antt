-- Whose connections have a turn in a sweep over many (docs/OPERATING.md): of a client with several, one after the other, until its turns lasted 2 ms.
use Rattle.std.specs.Prelude.{ℕ, ◌+◌, ◌%◌, nat_eq, nat_le, nat_lt, List, get_or, set, Bool, true, ◌&&◌, ◌||◌, min, if◌then◌else◌}
use Rattle.nfs_pace.specs.{Paced.enough, declared.turns.Turn.Turn}

-- where the entry of a client is
abbrev pub place_of : ℕ → ℕ
place_of client = client % 1024

abbrev pub no_turn : Turn
no_turn = record { client = 0; sweep = 0; micros = 0; first = 0; last = 4294967295 }

abbrev pub entry_of : ℕ → List Turn → Turn
entry_of client turns = get_or turns (place_of client) no_turn

-- an entry is of a client in a sweep
abbrev pub is_of : ℕ → ℕ → Turn → Bool
is_of client sweep turn = nat_eq turn.client client && nat_eq turn.sweep sweep

-- the port on which it had its last turn
abbrev pub last_of : ℕ → Turn → ℕ
last_of client turn = if nat_eq turn.client client then turn.last else 4294967295

-- A port asks for a turn, behind those of lower numbers: the first port that has one is the first behind that of the last turn, or else the first of all.
abbrev pub asked : (client sweep port : ℕ) → Turn → Turn
asked client sweep port turn = if is_of client sweep turn
    then (if nat_le turn.first turn.last && nat_lt turn.last port then record turn { first = port } else turn)
    else record { client = client; sweep = sweep; micros = 0; first = port; last = last_of client turn }

-- The first port has one; those behind it have one until the turns of the client have lasted long enough.
abbrev pub has_one : (client sweep port : ℕ) → Turn → Bool
has_one client sweep port turn = if is_of client sweep turn
    then nat_eq port turn.first || (nat_lt turn.first port && nat_lt turn.micros enough)
    else true

-- A turn begins; a port that has none, on which something waits to be stepped, is not the last one. It lasts so long.
abbrev pub begun : (client sweep port : ℕ) → Turn → Turn
begun client sweep port turn = if is_of client sweep turn
    then (if has_one client sweep port turn then record turn { last = port } else turn)
    else record { client = client; sweep = sweep; micros = 0; first = 0; last = port }

abbrev pub added : (client sweep micros : ℕ) → Turn → Turn
added client sweep micros turn = if is_of client sweep turn then record turn { micros = min (turn.micros + micros) 18446744073709551615 } else turn

abbrev pub lasted : (client sweep : ℕ) → Turn → ℕ
lasted client sweep turn = if is_of client sweep turn then turn.micros else 0

-- the entry of a client becomes what a function makes of it; 0 stands for no client
abbrev pub becomes : ℕ → (Turn → Turn) → List Turn → List Turn
becomes client f turns = if nat_eq client 0 then turns else set turns (place_of client) (f (entry_of client turns))

abbrev pub has_turn : (client sweep port : ℕ) → List Turn → Bool
has_turn client sweep port turns = if nat_eq client 0 then true else has_one client sweep port (entry_of client turns)

abbrev pub lasted_so_far : (client sweep : ℕ) → List Turn → ℕ
lasted_so_far client sweep turns = if nat_eq client 0 then 0 else lasted client sweep (entry_of client turns)
