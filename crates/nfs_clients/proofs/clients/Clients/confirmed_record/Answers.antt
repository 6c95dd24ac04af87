use Rattle.std.proofs.Common.{ap, refl, sym, subst, ◌∙◌}
use Rattle.nfs_xdr.specs.Tables.{record_at}
use Rattle.nfs_clients.specs.Roster.{Roster, IsRoster, confirmed_of}
use Rattle.nfs_clients.proofs.{Members.the_id, IndexLemmas.confirmed_at}
use Rattle.nfs_clients.proofs.clients.Clients.confirmed_record.Goals as goal

pub returns-in-Some : goal.returns-in-Some
returns-in-Some c =
    c.get.ensures ∙ ap (λ (t : Roster). record_at the_id t.records c.in-Some.id) c.self.view_is
    ∙ confirmed_at c.args.self.now (subst IsRoster c.self.view_is c.self.invariant.0) c.args.owner.now c.in-Some.id
    (confirmed_of c.args.self.now c.args.owner.now) refl (sym c.in-Some.is ∙ c.ids.ensures.confirmed)
