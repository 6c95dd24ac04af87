use Rattle.std.proofs.Common.{sym, ◌∙◌}
use Rattle.nfs_opens.specs.Holding.{held_by}
use Rattle.nfs_opens.proofs.LockLemmas.{forgotten}
use Rattle.nfs_opens.proofs.closing.forget_unlocked.Goals as goal

pub returns-then-not-is_on-clause-held : goal.returns-then-not-is_on-clause-held
returns-then-not-is_on-clause-held c = c.forget.ensures.held ∙ forgotten c.args.locks.now.items (held_by c.args.files.now) c.args.file c.requires
    (sym c.is_on.ensures ∙ c.if-not-is_on.true)
