use Rattle.std.proofs.Common.{ap, ◌∙◌}
use Rattle.std.specs.Prelude.{◌==◌}
use Rattle.nfs_opens.specs.{declared.records.OpenState.OpenState, Blocks.Listed, Counts.count_of}
use Rattle.nfs_opens.proofs.open_states.OpenStates.count_on.Goals as goal

pub returns : goal.returns
returns c = c.of.ensures ∙ (c.self.invariant.4 c.args.file
    ∙ ap (λ (x : Listed OpenState). count_of (λ (o : OpenState). o.file == c.args.file) x.items) c.self.view_is)
