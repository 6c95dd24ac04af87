use Rattle.std.proofs.Common.{refl, ap, ◌∙◌}
use Rattle.std.specs.Prelude.{◌==◌, find}
use Rattle.nfs_opens.specs.{declared.records.OpenState.OpenState, Blocks.Listed, Keys.{open_key, key_of}}
use Rattle.nfs_opens.proofs.open_states.OpenStates.owned.Goals as goal

pub returns : goal.returns
returns c = c.next_by.ensures.first open_key c.self.invariant.2 refl
    ∙ ap (λ (x : Listed OpenState). find (λ (o : OpenState). open_key o == key_of c.args.key.now) x.items) c.self.view_is
