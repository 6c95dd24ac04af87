use Rattle.std.proofs.Common.{sym, ◌∙◌}
use Rattle.nfs_sockets.specs.Looking.{ready_at}
use Rattle.nfs_sockets.proofs.Firsts.{none_more}
use Rattle.nfs_sockets.proofs.connections.first_ready.Goals as goal

pub loop-port-preserved : goal.loop-port-preserved
loop-port-preserved c = none_more (ready_at c.args.connections.now) c.args.from c.loop-port.port c.loop-port.invariant (sym c.is_ready.ensures ∙ c.if-is_ready.false)
