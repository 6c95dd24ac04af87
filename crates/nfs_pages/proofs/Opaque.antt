-- An opaque that is put piece by piece.
use Rattle.std.proofs.{Common.{append_assoc}, lemmas.List.{length-append, length-replicate}}
use Rattle.nfs_xdr.proofs.Putting.{length_number}

pub ruleset putting_part = (length_number, length-append, length-replicate, append_assoc)
