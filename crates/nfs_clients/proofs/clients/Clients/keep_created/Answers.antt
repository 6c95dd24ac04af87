use Rattle.std.proofs.Common.{Some, refl, sym, ◌∙◌}
use Rattle.nfs_xdr.specs.Numbers.{next_number}
use Rattle.nfs_clients.specs.Roster.{ClientRecord, Roster}
use Rattle.nfs_clients.proofs.{Members.{IsMild, not_kept, roster_changed}, IndexLemmas.mild_index}
use Rattle.nfs_clients.proofs.clients.Clients.keep_created.Goals as goal

pub returns-then-not-uses_up : goal.returns-then-not-uses_up
returns-then-not-uses_up c = not_kept c.args.self.now c.args.client c.args.created (sym c.uses_up.ensures ∙ c.if-not-uses_up.true)

pub invariant_of-self : goal.invariant_of-self
invariant_of-self c =
    let f : ClientRecord → ClientRecord = λ x. record x { number = next_number x.number; kept = Some c.args.created } in
    let mild : IsMild f = record { id = λ x. refl; owner = λ x. refl; mark = λ x. refl } in
    let t : Roster = record { records = c.self.inside.records; last = c.self.inside.last; most = c.self.inside.most } in
    rw c.keep.ensures (roster_changed f t c.args.client mild c.self.invariant.0, mild_index f mild c.args.client c.self.inside.records _ c.self.invariant.1)
