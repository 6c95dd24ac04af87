use Rattle.std.proofs.Common.{◌≡◌, Err, rules}
use Rattle.std.specs.Prelude.{codes}
use Rattle.nfs_settings.specs.declared.settings_file.Bad.TheVariants as Bad
use Rattle.nfs_settings.proofs.Blank.{no_key}
use Rattle.nfs_settings.proofs.settings_file.settings.Goals as goal

pub returns-in-Ok-clause-memory : goal.returns-in-Ok-clause-memory
returns-in-Ok-clause-memory c = λ memory.
    (let told : c.given_by.result ≡ Err Bad.Memory = search rules in
    no_key c.args.text.now (codes "server_owner") _ c.in-Ok.ensures.ok (c.given_by.ensures.memory told))
