use Rattle.std.proofs.Common.{◌∙◌}
use Rattle.nfs_opens.specs.Holding.{held_by}
use Rattle.nfs_opens.proofs.StepLemmas.{whole_on_file}
use Rattle.nfs_opens.proofs.locking.clear_bytes.Goals as goal

pub returns-then-last-eq18446744073709551615-clause-ok : goal.returns-then-last-eq18446744073709551615-clause-ok
returns-then-last-eq18446744073709551615-clause-ok c =
    c.drop_state.ensures.held ∙ whole_on_file (held_by c.args.files.now) c.args.file c.args.state c.args.first c.args.last c.requires.within c.if-first-eq0.true
    c.if-last-eq18446744073709551615.true
