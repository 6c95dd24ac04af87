use Rattle.std.proofs.{Common.{inl, inr, ap, subst, arith}, lemmas.Bool.cases_lt}
use Rattle.nfs_xdr.proofs.Tables.{at_above, at_below}
use Rattle.nfs_clients.specs.Roster.{Roster, IsRoster, first_id, next_id}
use Rattle.nfs_clients.proofs.Members.{the_id}
use Rattle.nfs_clients.proofs.clients.Clients.next_id.Goals as goal

pub returns-clause-fresh : goal.returns-clause-fresh
returns-clause-fresh c =
    let t : Roster = c.args.self.now in
    let is : IsRoster t = subst IsRoster c.self.view_is c.self.invariant.0 in
    let last = ap (λ (t : Roster). t.last) c.self.view_is in
    let low = is.instance in
    elim (cases_lt (next_id t) 18446744073709551616) [
      | inl within ↦ at_above the_id (first_id t) (next_id t) _ t.records is.rising (omega arith)
      | inr beyond ↦ at_below the_id (first_id t) (next_id t) _ t.records is.rising (omega arith)
    ]
