use Rattle.nfs_results.proofs.ReplyLaws.{one_more, one_less}
use Rattle.nfs_results.proofs.reply.are_whole.Goals as goal

pub loop-preserved : goal.loop-preserved
loop-preserved c = one_more c.args.count c.loop.counter c.loop.cursor _ _ _ c.loop-test.true c.in-Ok.ensures c.loop.invariant

pub returns-in-Err : goal.returns-in-Err
returns-in-Err c = one_less c.args.count c.loop.counter c.loop.cursor _ c.loop-test.true c.in-Err.ensures c.loop.invariant
