-- How many client records and sessions there may be (this server's profile).
use Rattle.nfs_names.specs.declared.start.Crowd.{Crowd}

-- those of a server that is given none
abbrev pub usual_crowd : Crowd
usual_crowd = record { clients = 1024; sessions = 64 }
