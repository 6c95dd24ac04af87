use Rattle.nfs_attrs.proofs.Texts.{handle_is, set_time_leads, settings_are}
use Rattle.nfs_attrs.proofs.laws.spellings.Goals as goal

pub returns-clause-handles : goal.returns-clause-handles
returns-clause-handles c = handle_is

pub returns-clause-times : goal.returns-clause-times
returns-clause-times c = set_time_leads

pub returns-clause-settings : goal.returns-clause-settings
returns-clause-settings c = settings_are
