use Rattle.std.proofs.Common.{◌≡◌, suc, length, ap, ◌∙◌, arith}
use Rattle.nfs_opens.specs.{Table.{Kept, table}, declared.records.OpenState.OpenState}
use Rattle.nfs_opens.proofs.CountLemmas.{rising_few}
use Rattle.nfs_opens.proofs.opens.Opens.open_count.Goals as goal

pub returns : goal.returns
returns c =
    let few = rising_few (λ (o : OpenState). o.number) 1 (suc c.self.inside.last) c.self.inside.opens.items c.self.invariant.table.opens in
    let here : c.len.result ≡ length c.self.inside.opens.items = omega (arith, few, c.len.ensures) in
    here ∙ ap (λ (k : Kept). length (table k).opens) c.self.view_is
