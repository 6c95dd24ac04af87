use Rattle.std.proofs.Common.{ap, ◌∙◌}
use Rattle.std.specs.Prelude.{◌==◌, ◌&&◌, nat_lt, find}
use Rattle.nfs_opens.specs.{declared.records.OpenState.OpenState, Table.Kept}
use Rattle.nfs_opens.proofs.opens.Opens.next_open.Goals as goal

pub returns-clause-found : goal.returns-clause-found
returns-clause-found c =
    c.next_on.ensures ∙ ap (λ (k : Kept). find (λ (o : OpenState). (o.file == c.args.file) && nat_lt c.args.after o.number) k.opens) c.self.view_is
