use Rattle.std.proofs.Common.{◌≡◌, ◌-◌}
use Rattle.nfs_xdr.specs.Codec.{many_at}
use Rattle.nfs_results.specs.ResultCodec as table
use Rattle.nfs_results.specs.ReadReply.{is_whole}
use Rattle.nfs_results.proofs.reply.are_whole.Given as goal

-- the results that are left stand whole exactly where all do
abbrev pub invariant-loop : goal.invariant-loop
invariant-loop l = is_whole (many_at table.result.read (l.count - l.counter) l.cursor) ≡ is_whole (many_at table.result.read l.count l.bytes)
