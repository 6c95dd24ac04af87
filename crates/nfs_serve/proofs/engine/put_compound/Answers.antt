use Rattle.std.proofs.Common.{ℕ, List, ◌≤◌, length, arith, sym, subst, length-append}
use Rattle.nfs_rpc.proofs.Lengths.{length_head}
use Rattle.nfs_rpc.specs.Reply.{spell_head}
use Rattle.nfs_serve.proofs.engine.put_compound.Goals as goal

pub compound-requires : goal.compound-requires
compound-requires c =
    let size = length-append c.args.out.now.bytes (spell_head c.args.call.xid) in
    record {
      opened = record { bytes = c.args.call.args.now; request = c.in-Ok.ensures.request };
      size = subst (λ (b : List ℕ). length b ≤ c.args.size) (sym c.in-Ok.ensures.request.whole) c.requires.size;
      moment = (let now = c.requires.now in omega (arith, now));
      latest = c.requires.latest;
      room = rw (c.write_head.ensures.bytes, c.write_head.ensures.room) (omega (arith, size, length_head c.args.call.xid, c.requires.room));
    }
