use Rattle.std.proofs.Common.{◌≡◌}
use Rattle.toml.specs.View.{table_view}
use Rattle.nfs_settings.specs.SettingsFile.{all_known}
use Rattle.nfs_settings.proofs.Keys.{known_keys}
use Rattle.nfs_settings.proofs.settings_file.only_known.Given as goal

-- the table is known where the keys to come are
abbrev pub invariant-loop-key : goal.invariant-loop-key
invariant-loop-key l = all_known (table_view l.table) ≡ known_keys l.key-iterator
