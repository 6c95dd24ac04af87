use Rattle.std.proofs.Common.{◌≡◌, rules, map, ap, ◌∙◌}
use Rattle.nfs_settings.proofs.Keys.{known_keys, all_known-keys}
use Rattle.nfs_settings.proofs.settings_file.only_known.Goals as goal

pub loop-key-init : goal.loop-key-init
loop-key-init c =
    let keys : map (λ e. e.0) c.args.table.now.entries ≡ c.into_iter-key-iterator.result = search rules in
    all_known-keys c.args.table.now.entries ∙ ap known_keys keys
