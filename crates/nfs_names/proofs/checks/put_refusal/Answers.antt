use Rattle.std.proofs.Common.{arith}
use Rattle.nfs_xdr.specs.Spelling.{number}
use Rattle.nfs_xdr.proofs.Putting.{length_number}
use Rattle.nfs_names.proofs.Masks.{room_then}
use Rattle.nfs_names.proofs.checks.put_refusal.Goals as goal

pub put_u32-requires : goal.put_u32-requires
put_u32-requires c = record { room = omega (arith, length_number) }

pub put_u32-requires-2 : goal.put_u32-requires-2
put_u32-requires-2 c = record { room = room_then c.args.out.now _ (number c.number.result) _ 8 c.put_u32.ensures (omega (arith, length_number)) c.requires }
