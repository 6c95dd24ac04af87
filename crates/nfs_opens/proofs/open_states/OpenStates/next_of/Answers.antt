use Rattle.std.proofs.Common.{ap, ◌∙◌}
use Rattle.std.specs.Prelude.{◌==◌, ◌&&◌, nat_lt, find}
use Rattle.nfs_opens.specs.{declared.records.OpenState.OpenState, Blocks.Listed}
use Rattle.nfs_opens.proofs.open_states.OpenStates.next_of.Goals as goal

pub returns : goal.returns
returns c = c.next_by.ensures.next (λ (o : OpenState). o.client) c.self.invariant.1
    ∙ ap (λ (x : Listed OpenState). find (λ (o : OpenState). (o.client == c.args.client) && nat_lt c.args.after o.number) x.items) c.self.view_is
