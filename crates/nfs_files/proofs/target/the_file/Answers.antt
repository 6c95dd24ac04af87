use Rattle.std.proofs.Common.{sym, ap, ◌∙◌}
use Rattle.nfs_names.specs.{State.state_of, Outcome.checked}
use Rattle.nfs_files.specs.Bytes.{file_checks}
use Rattle.nfs_files.proofs.InSteps.{file_is}
use Rattle.nfs_files.proofs.target.the_file.Goals as goal

pub returns : goal.returns
returns c =
    c.judge_file.ensures
    ∙ sym (file_is (state_of c.args.store.now) c.args.context.now ∙ ap (λ v. checked v file_checks) (sym c.current.ensures ∙ c.in_ok-node.was))
