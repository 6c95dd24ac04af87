use Rattle.std.proofs.Common.{◌≤◌, ◌+◌, length, arith}
use Rattle.nfs_xdr.specs.{Spelling.opaque, declared.status.Status.TheVariants.Nfs4Ok}
use Rattle.nfs_compound.specs.declared.op_num.OpNum.TheVariants as Num
use Rattle.nfs_compound.specs.OpNum.{op_number}
use Rattle.nfs_results.specs.declared.res.Res.TheVariants as Res
use Rattle.nfs_results.specs.Results.{head}
use Rattle.nfs_results.proofs.Lengths.{length_head, behind_within}
use Rattle.nfs_tree.specs.Bytes.{part}
use Rattle.nfs_names.proofs.Masks.{room_then, part_few}
use Rattle.nfs_names.proofs.listing.put_text.Goals as goal

pub write_done_head-requires : goal.write_done_head-requires
write_done_head-requires c = record { room = omega (arith, length_head (op_number Num.ReadLink) Nfs4Ok) }

pub read-requires : goal.read-requires
read-requires c =
    let text = part c.args.tree.now c.args.number 0 1024 in
    let within : 8 + length (opaque text) ≤ 1036 = behind_within 0 (Res.ReadLink text) tt (part_few c.args.tree.now c.args.number 1024) in
    record {
      room = room_then c.args.out.now _ (head (op_number Num.ReadLink) Nfs4Ok)
          (opaque text) 1036 c.write_done_head.ensures (omega (arith, length_head (op_number Num.ReadLink) Nfs4Ok)) c.requires;
    }
