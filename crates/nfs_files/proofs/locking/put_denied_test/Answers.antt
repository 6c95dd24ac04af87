use Rattle.std.proofs.Common.{refl}
use Rattle.nfs_results.specs.declared.res.Res.TheVariants as Res
use Rattle.nfs_opens.specs.Table.{table}
use Rattle.nfs_files.specs.Denied.{most_denied}
use Rattle.nfs_files.proofs.Fitting.{room_for, few_told}
use Rattle.nfs_files.proofs.locking.put_denied_test.Goals as goal

pub write-requires-clause-bounds : goal.write-requires-clause-bounds
write-requires-clause-bounds c = few_told (table c.args.opens.now) c.args.held.now c.denied.result c.denied.ensures

pub write-requires-clause-room : goal.write-requires-clause-room
write-requires-clause-room c arrays =
    room_for (Res.LockTDenied c.denied.result) c.args.out.now most_denied arrays
    (few_told (table c.args.opens.now) c.args.held.now c.denied.result c.denied.ensures) refl c.requires
