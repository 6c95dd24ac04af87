use Rattle.std.proofs.Common.{sym, ◌∙◌, ap}
use Rattle.std.specs.{Prelude.{◌==◌}, Option.option_copied}
use Rattle.nfs_opens.specs.Table.{table}
use Rattle.nfs_opens.proofs.LockedLemmas.{its_file}
use Rattle.nfs_opens.proofs.opens.Opens.drop_client.Goals as goal

pub remove_open-requires : goal.remove_open-requires
remove_open-requires c = its_file (table c.args.self.now) (λ o. o.client == c.args.client) c.in-Some.open.now c.first_of.ensures.kept
    (sym c.first_of.ensures.found ∙ ap option_copied c.in-Some.is)
