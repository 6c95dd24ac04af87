use Rattle.nfs_pace.proofs.Seats.{seats_are_had}
use Rattle.nfs_pace.proofs.laws.seats_are_had.Goals as goal

pub returns : goal.returns
returns c = seats_are_had
