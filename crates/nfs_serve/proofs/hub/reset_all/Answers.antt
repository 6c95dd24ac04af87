use Rattle.std.proofs.Common.{◌<◌, length, rules}
use Rattle.nfs_serve.proofs.Rounds.{reset_more}
use Rattle.nfs_serve.proofs.hub.reset_all.Goals as goal

pub loop-port-preserved : goal.loop-port-preserved
loop-port-preserved c =
    let within : c.loop-port.port < length c.loop-port.lanes = search rules in
    let before = c.loop-port.invariant.closed in record {
      kept = search rules;
      closed = λ p less. reset_more c.loop-port.lanes c.loop-port.port c.reset.new.self before within c.reset.ensures p less;
    }
