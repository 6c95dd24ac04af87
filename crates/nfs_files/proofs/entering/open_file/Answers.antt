use Rattle.std.proofs.Common.{true, refl, sym, ap, ◌∙◌}
use Rattle.nfs_compound.specs.declared.op_num.OpNum.TheVariants as Num
use Rattle.nfs_results.specs.Results.{status_of_result}
use Rattle.nfs_names.specs.{State.state_of, Outcome.{Outcome, is_ok}}
use Rattle.nfs_files.specs.Open.{open_file}
use Rattle.nfs_files.proofs.{InSteps.{open_is, where_found, where_refused}, Refused.{told_refusal, told_delay}}
use Rattle.nfs_files.proofs.entering.open_file.Goals as goal

pub returns-in-Ok-open_found : goal.returns-in-Ok-open_found
returns-in-Ok-open_found c =
    let s = state_of c.args.store.now in
    let x = c.args.context.now in
    let o = c.args.asked.now in
    c.in-Ok-open_found.ensures
    ∙ sym (where_found s x Num.Open (open_file s x c.args.now o) _ _ _ (open_is s x c.args.now o) (sym c.judge_whole.ensures ∙ c.in-Ok.is))

pub returns-in-Err-open_found : goal.returns-in-Err-open_found
returns-in-Err-open_found c =
    let s = state_of c.args.store.now in
    let x = c.args.context.now in
    let o = c.args.asked.now in
    let is = where_found s x Num.Open (open_file s x c.args.now o) _ _ _ (open_is s x c.args.now o) (sym c.judge_whole.ensures ∙ c.in-Ok.is) in
    told_delay s _ x _ Num.Open (open_file s x c.args.now o) c.in-Err-open_found.status _
    (ap (λ (o : Outcome). is_ok (status_of_result o.result)) is) refl c.in-Err-open_found.ensures c.refuse.ensures

pub returns-in-Err : goal.returns-in-Err
returns-in-Err c =
    let s = state_of c.args.store.now in
    let x = c.args.context.now in
    let o = c.args.asked.now in
    told_refusal true s x Num.Open (open_file s x c.args.now o) c.in-Err.status _
    (where_refused s x Num.Open (open_file s x c.args.now o) _ _ _ (open_is s x c.args.now o) (sym c.judge_whole.ensures ∙ c.in-Err.is)) c.refuse-in-Err.ensures
