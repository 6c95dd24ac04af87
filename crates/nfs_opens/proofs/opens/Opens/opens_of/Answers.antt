use Rattle.std.proofs.Common.{length, ap, ◌∙◌}
use Rattle.std.specs.Prelude.{◌==◌, filter}
use Rattle.nfs_opens.specs.{declared.counts.Count.Count, declared.records.OpenState.OpenState, Table.Kept}
use Rattle.nfs_opens.proofs.opens.Opens.opens_of.Goals as goal

pub returns : goal.returns
returns c = c.opens.ensures ∙ (ap (λ (k : Count). k.opens) c.count_on.ensures
    ∙ ap (λ (k : Kept). length (filter (λ (o : OpenState). o.file == c.args.file) k.opens)) c.self.view_is)
