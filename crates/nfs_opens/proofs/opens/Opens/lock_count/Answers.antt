use Rattle.std.proofs.Common.{◌≡◌, suc, length, ap, ◌∙◌, arith}
use Rattle.nfs_opens.specs.{Table.{Kept, table}, declared.records.LockState.LockState}
use Rattle.nfs_opens.proofs.CountLemmas.{rising_few}
use Rattle.nfs_opens.proofs.opens.Opens.lock_count.Goals as goal

pub returns : goal.returns
returns c =
    let few = rising_few (λ (l : LockState). l.number) 1 (suc c.self.inside.last) c.self.inside.locks.items c.self.invariant.table.locks in
    let here : c.len.result ≡ length c.self.inside.locks.items = omega (arith, few, c.len.ensures) in
    here ∙ ap (λ (k : Kept). length (table k).locks) c.self.view_is
