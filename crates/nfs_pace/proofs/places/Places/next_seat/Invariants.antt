-- There is none for the ports so far.
use Rattle.std.proofs.Common.{◌<◌, ℕ, None}
use Rattle.nfs_pace.specs.Places.{GivesSeat}
use Rattle.nfs_pace.proofs.places.Places.next_seat.Given as goal

abbrev pub invariant-loop-port : goal.invariant-loop-port
invariant-loop-port l = (earlier : ℕ) → earlier < l.port → GivesSeat l.self l.shown earlier None
