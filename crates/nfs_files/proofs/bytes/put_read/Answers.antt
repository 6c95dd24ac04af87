use Rattle.std.proofs.Common.{◌+◌, ◌++◌, ◌≤◌, ℕ, length, sym, subst, arith}
use Rattle.nfs_xdr.specs.{SheetState.{Puts, HasRoom}, Spelling.{flag, opaque, padding}, declared.status.Status.TheVariants.Nfs4Ok}
use Rattle.nfs_xdr.proofs.Putting.{puts_then}
use Rattle.nfs_compound.specs.declared.op_num.OpNum.TheVariants as Num
use Rattle.nfs_compound.specs.OpNum.{op_number}
use Rattle.nfs_results.specs.{Items.read_ok, Largest.given, Results.head}
use Rattle.nfs_results.proofs.Lengths.{length_head}
use Rattle.nfs_tree.specs.Bytes.{part, reaches_end}
use Rattle.nfs_names.specs.State.{state_of}
use Rattle.nfs_names.proofs.Masks.{room_then}
use Rattle.nfs_files.proofs.ReadBytes.{read_within}
use Rattle.nfs_files.proofs.bytes.put_read.Goals as goal

pub write_done_head-requires : goal.write_done_head-requires
write_done_head-requires c = record { room = omega (arith, length_head (op_number Num.Read) Nfs4Ok) }

pub read_with_end-requires : goal.read_with_end-requires
read_with_end-requires c =
    let t = c.args.store.now.tree in
    let r = c.args.asked.now in
    let n = c.args.node.now.number in
    let eof = reaches_end t n r.offset (given r.count) in
    let text = opaque (part t n r.offset (given r.count)) in
    let within : 8 + length (flag eof ++ text) ≤ 16 + (given r.count + padding (given r.count)) = read_within (state_of c.args.store.now) r c.args.node.now in
    record {
      room = subst (λ (k : ℕ). HasRoom c.write_done_head.new.out (flag (reaches_end t n r.offset k) ++ opaque (part t n r.offset k))) (sym c.given-count.ensures.value)
          (room_then c.args.out.now _ (head (op_number Num.Read) Nfs4Ok) (flag eof ++ text) (16 + (given r.count + padding (given r.count)))
          c.write_done_head.ensures (omega (arith, length_head (op_number Num.Read) Nfs4Ok)) c.requires);
    }

pub returns : goal.returns
unfolding read_ok
returns c =
    let t = c.args.store.now.tree in
    let r = c.args.asked.now in
    let n = c.args.node.now.number in
    subst (λ (k : ℕ). Puts c.args.out.now c.read_with_end.new.out
    (head (op_number Num.Read) Nfs4Ok ++ (flag (reaches_end t n r.offset k) ++ opaque (part t n r.offset k)))) c.given-count.ensures.value
    (puts_then c.write_done_head.ensures c.read_with_end.ensures)
