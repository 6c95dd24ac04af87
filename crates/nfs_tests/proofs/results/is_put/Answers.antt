use Rattle.nfs_xdr.specs.declared.status.Status.TheVariants.{Nfs4Ok}
use Rattle.nfs_tests.proofs.Room.{room_at_start, room_behind}
use Rattle.nfs_tests.proofs.results.is_put.Goals as goal

pub write_compound_head-requires-clause-room : goal.write_compound_head-requires-clause-room
write_compound_head-requires-clause-room c = room_at_start _ Nfs4Ok c.in_ok-out.ensures

pub write-requires-clause-room : goal.write-requires-clause-room
write-requires-clause-room c =
    λ arrays. room_behind _ _ Nfs4Ok _ c.in_ok-out.ensures c.write_compound_head.ensures (c.is_small.ensures.sizes c.if-not-is_small.false) arrays
