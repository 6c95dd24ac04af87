use Rattle.std.proofs.Common.{◌≡◌, suc, ◌-◌}
use Rattle.std.specs.{Prelude.{◌==◌, ◌&&◌, not}, List.list_any}
use Rattle.nfs_opens.specs.Table.{table}
use Rattle.nfs_opens.proofs.IndexedLemmas.{Coming}
use Rattle.nfs_opens.proofs.opens.Opens.has_other.Given as goal

abbrev pub invariant-loop-open : goal.invariant-loop-open
invariant-loop-open l = list_any (Coming l.after (λ o. (o.file == l.file) && not (o.client == l.client))) (table l.self).opens ≡ list_any (λ o. (o.file == l.file) && not (o.client == l.client)) (table l.self).opens

abbrev pub decreases-loop-open : goal.decreases-loop-open
decreases-loop-open l = suc (table l.self).last - l.after
