use Rattle.std.proofs.Common.{◌≤◌, ◌+◌, List, ℕ, length, sym, subst, arith}
use Rattle.nfs_xdr.specs.{SheetState.HasRoom, Spelling.opaque, declared.status.Status.TheVariants.Nfs4Ok}
use Rattle.nfs_compound.specs.declared.op_num.OpNum.TheVariants as Num
use Rattle.nfs_compound.specs.OpNum.{op_number}
use Rattle.nfs_results.specs.declared.res.Res.TheVariants as Res
use Rattle.nfs_results.specs.Results.{head}
use Rattle.nfs_results.proofs.Lengths.{length_head, behind_within}
use Rattle.nfs_attrs.specs.Wire.{nfs_fh4}
use Rattle.nfs_attrs.proofs.Lengths.{length_handle}
use Rattle.nfs_names.proofs.Masks.{room_then}
use Rattle.nfs_names.proofs.attributes.put_handle.Goals as goal

pub write_done_head-requires : goal.write_done_head-requires
write_done_head-requires c = record { room = omega (arith, length_head (op_number Num.GetFh) Nfs4Ok) }

pub put_opaque-requires-clause-room : goal.put_opaque-requires-clause-room
put_opaque-requires-clause-room c =
    let bytes = (nfs_fh4 c.args.handle.now).bytes in
    let few : length bytes ≤ 16 = omega (arith, length_handle c.args.handle.now) in
    let within : 8 + length (opaque bytes) ≤ 28 = behind_within 0 (Res.GetFh bytes) tt few in
    subst (λ (text : List ℕ). HasRoom c.write_done_head.new.out (opaque text)) (sym c.bytes.ensures)
    (room_then c.args.out.now _ (head (op_number Num.GetFh) Nfs4Ok) (opaque bytes) 28 c.write_done_head.ensures
    (omega (arith, length_head (op_number Num.GetFh) Nfs4Ok)) c.requires)
