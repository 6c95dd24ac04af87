use Rattle.std.proofs.Common.{sym, ap, ◌∙◌}
use Rattle.nfs_compound.specs.declared.op_num.OpNum.TheVariants as Num
use Rattle.nfs_results.specs.{declared.res.Res.Res}
use Rattle.nfs_names.specs.{State.state_of, Outcome.done}
use Rattle.nfs_files.specs.Commit.{commit}
use Rattle.nfs_files.proofs.InSteps.{commit_is, where_found, where_refused}
use Rattle.nfs_files.proofs.bytes.commit.Goals as goal

pub returns-in-Ok : goal.returns-in-Ok
returns-in-Ok c =
    let s = state_of c.args.store.now in
    let x = c.args.context.now in
    ap (λ v. done s x (Res.Commit v)) c.write_verifier.ensures
    ∙ sym (where_found s x Num.Commit (commit s x) _ _ _ (commit_is s x) (sym c.judge_commit.ensures ∙ c.in-Ok.is))

pub returns-in-Err : goal.returns-in-Err
returns-in-Err c =
    let s = state_of c.args.store.now in
    let x = c.args.context.now in
    ap (done s x) c.refuse.ensures
    ∙ sym (where_refused s x Num.Commit (commit s x) _ _ _ (commit_is s x) (sym c.judge_commit.ensures ∙ c.in-Err.is))
