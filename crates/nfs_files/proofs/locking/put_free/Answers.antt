use Rattle.std.proofs.Common.{refl}
use Rattle.nfs_results.specs.declared.res.Res.TheVariants as Res
use Rattle.nfs_files.specs.Denied.{most_denied}
use Rattle.nfs_files.proofs.Fitting.{room_for}
use Rattle.nfs_files.proofs.locking.put_free.Goals as goal

pub write-requires-clause-room : goal.write-requires-clause-room
write-requires-clause-room c arrays = room_for Res.LockT c.args.out.now most_denied arrays tt refl c.requires
