use Rattle.std.proofs.Common.{None, refl}
use Rattle.nfs_ranges.specs.Holders.{nobody}
use Rattle.nfs_opens.proofs.FileLemmas.{held_updated, not_listed, lists_less}
use Rattle.nfs_opens.proofs.locked_files.LockedFiles.forget.Goals as goal

pub returns-clause-held : goal.returns-clause-held
returns-clause-held c = rw (← c.self.view_is) (held_updated c.args.file (λ h. nobody) c.self.inside.files c.remove.new.self None c.remove.ensures.updates refl)

pub returns-clause-gone : goal.returns-clause-gone
returns-clause-gone c = not_listed c.args.file c.self.inside.files c.remove.new.self c.remove.ensures.updates

pub returns-clause-listed : goal.returns-clause-listed
returns-clause-listed c = rw (← c.self.view_is) (lists_less c.args.file c.self.inside.files c.remove.new.self c.remove.ensures.updates)
