-- What the servers of worked runs are started with.
use Rattle.nfs_tree.specs.{Limits.usual_limits, declared.profile.Profile.TheVariants.Exact}
use Rattle.nfs_names.specs.{declared.start.Start.Start, Crowd.usual_crowd, ServerOwner.usual_owner}

-- the root has the mode 0o777, and a lease lasts 90 seconds
abbrev pub usual : Start
usual = record { mode = 511; instance = 7; lease = 90; limits = usual_limits; profile = Exact; crowd = usual_crowd; owner = usual_owner }

-- one whose leases last a second
abbrev pub hasty_start : Start
hasty_start = record { mode = 511; instance = 7; lease = 1; limits = usual_limits; profile = Exact; crowd = usual_crowd; owner = usual_owner }
