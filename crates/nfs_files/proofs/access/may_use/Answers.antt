use Rattle.std.proofs.Common.{sym, ap, ◌∙◌}
use Rattle.nfs_names.specs.{State.state_of, Outcome.checked}
use Rattle.nfs_files.specs.Bytes.{seat_checks}
use Rattle.nfs_files.proofs.InSteps.{may_use_is}
use Rattle.nfs_files.proofs.access.may_use.Goals as goal

pub returns : goal.returns
returns c =
    let s = state_of c.args.store.now in
    let x = c.args.context.now in
    let d = c.args.node.now in
    c.judge_seat.ensures
    ∙ sym (may_use_is s x c.args.wanted c.args.given.now d ∙ ap (λ v. checked v (seat_checks s x c.args.wanted d)) (sym c.seat.ensures ∙ c.in_ok-seat.was))
