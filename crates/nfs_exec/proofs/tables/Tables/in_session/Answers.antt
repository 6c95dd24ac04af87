use Rattle.std.proofs.Common.{sym}
use Rattle.nfs_exec.proofs.Step.RepliesKept.{any_head_fits, refusal_fits}
use Rattle.nfs_exec.proofs.tables.Tables.in_session.Goals as goal

pub write_compound_head-requires-clause-room : goal.write_compound_head-requires-clause-room
write_compound_head-requires-clause-room c = any_head_fits c.args.out.now c.in-Refuses.status c.tag.result.now 1 c.tag.ensures.bound c.requires.room

pub write-requires-clause-room : goal.write-requires-clause-room
write-requires-clause-room c = λ arrays. refusal_fits c.args.out.now c.write_compound_head.new.out c.in-Refuses.status
    c.tag.result.now 1 _ _ _ c.tag.ensures.bound c.requires.room c.write_compound_head.ensures c.refusal.ensures

pub run_new-requires-clause-runs : goal.run_new-requires-clause-runs
run_new-requires-clause-runs c = sym c.in-Runs.ensures.verdict
