use Rattle.std.proofs.Common.{ap, ◌∙◌}
use Rattle.std.specs.Prelude.{◌==◌, find}
use Rattle.nfs_opens.specs.{declared.records.OpenState.OpenState, Keys.{open_key, key_of}, Table.Kept}
use Rattle.nfs_opens.proofs.opens.Opens.owned_open.Goals as goal

pub returns : goal.returns
returns c = c.owned.ensures ∙ ap (λ (k : Kept). find (λ (o : OpenState). open_key o == key_of c.args.key.now) k.opens) c.self.view_is
