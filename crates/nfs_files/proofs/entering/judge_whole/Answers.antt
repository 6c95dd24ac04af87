use Rattle.std.proofs.Common.{◌≡◌, None, sym, ap, ◌∙◌}
use Rattle.std.specs.Prelude.{Ok}
use Rattle.nfs_names.specs.{State.state_of, Outcome.{passed, checked}}
use Rattle.nfs_xdr.specs.Checks.{first_fault}
use Rattle.nfs_names.proofs.Found.{judged_err, judged_ok, stopped}
use Rattle.nfs_files.specs.{Open.last_checks, OpenParts.asked_for}
use Rattle.nfs_files.proofs.Granted.{last_same}
use Rattle.nfs_files.proofs.entering.judge_whole.Goals as goal

pub returns-in-Err : goal.returns-in-Err
returns-in-Err c =
    let s = state_of c.args.store.now in
    let x = c.args.context.now in
    let o = c.args.asked.now in
    let found : asked_for s x o ≡ Ok c.in_ok-found.found = sym c.judge.ensures ∙ c.in_ok-found.was in
    sym (stopped (asked_for s x o) (last_checks s x o) c.in_ok-found.found c.in-Err.status found
    (last_same s x o c.in_ok-found.found c.kept.ensures c.requires ∙ judged_err _ _ (sym c.judge_last.ensures ∙ c.in-Err.is)))

pub returns-in-Ok : goal.returns-in-Ok
returns-in-Ok c =
    let s = state_of c.args.store.now in
    let x = c.args.context.now in
    let o = c.args.asked.now in
    let f = c.in_ok-found.found in
    let found : asked_for s x o ≡ Ok f = sym c.judge.ensures ∙ c.in_ok-found.was in
    let none : first_fault (last_checks s x o f) ≡ None =
    last_same s x o f c.kept.ensures c.requires ∙ judged_ok _ _ (sym c.judge_last.ensures ∙ c.in-Ok.is) in
    sym (ap (λ v. checked v (last_checks s x o)) found ∙ ap (passed f) none)
