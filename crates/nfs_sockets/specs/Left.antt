-- How many connections a run serves at once, and how many it still serves (this server's profile).
use Rattle.std.specs.Prelude.{ℕ, ◌+◌, ◌-◌, ◌/◌, min, max, nat_eq, nat_lt, Bool, false, Option, Some, None, if◌then◌else◌}
use Rattle.nfs_sockets.specs.declared.left.{Left.Left, Room.Room}

-- how many of so many ports have no seat at least: one of eight, and one where there are two
abbrev pub hall_of : ℕ → ℕ
hall_of ports = if nat_lt ports 2 then 0 else max (ports / 8) 1

-- as many ports as are asked for; else so many seats, 1,024 at most, and eight ports more in the hall
abbrev pub room_of : Option ℕ → ℕ → Room
room_of (Some ports) seats = record { ports = ports; seats = ports - hall_of ports }
room_of None seats = record { ports = min seats 1024 + 8; seats = min seats 1024 }

-- one more has counted
abbrev pub less : Option ℕ → Option ℕ
less None = None
less (Some n) = Some (n - 1)

-- Where they are served one after the other, each counts that is taken.
abbrev pub taken : Left → Left
taken left = if left.each then record left { connections = less left.connections } else left

-- Where there are more at once, each counts on which a session's SEQUENCE was answered, and nothing else does.
abbrev pub heard : Left → Left
heard left = if left.each then left else record left { connections = less left.connections }

-- all that were to count have counted
abbrev pub none_left : Option ℕ → Bool
none_left None = false
none_left (Some n) = nat_eq n 0
