use Rattle.std.proofs.Common.{◌≡◌, ap, sym, subst, ◌∙◌, ℕ, List}
use Rattle.nfs_clients.specs.{declared.owners.Ids.Ids, Roster.{Roster, client_at}, Filed.{ids_at, ids_without, OwnersAnew}}
use Rattle.nfs_clients.proofs.{Members.roster_without, IndexLemmas.{named_ids, removed_index}, Changes.unremoved}
use Rattle.nfs_clients.proofs.clients.Clients.remove.Goals as goal

pub set-requires : goal.set-requires
set-requires c =
    let t : Roster = record { records = c.self.inside.records; last = c.self.inside.last; most = c.self.inside.most } in
    let at : List ℕ → Ids = ids_at (λ k. k.items) c.self.inside.owners.ids.entries in
    λ none. named_ids t c.self.invariant.0 c.args.client c.in-Some.record.now at (sym c.in-Some.ensures) c.self.invariant.1
    (ap at (sym c.owner-in-Some.ensures) ∙ none)

pub invariant_of-self : goal.invariant_of-self
invariant_of-self c =
    let t : Roster = record { records = c.self.inside.records; last = c.self.inside.last; most = c.self.inside.most } in
    let at : List ℕ → Ids = ids_at (λ k. k.items) c.self.inside.owners.ids.entries in
    let bt : List ℕ → Ids = ids_at (λ k. k.items) c.set.new.self.ids.entries in
    let left : c.without-left.result ≡ ids_without (at c.in-Some.record.now.owner) c.in-Some.record.now.confirmed =
    c.without-left.ensures ∙ ap (λ (i : Ids). ids_without i c.is_confirmed.result) (c.get-in-Some.ensures ∙ ap at c.owner.ensures)
    ∙ ap (ids_without (at c.in-Some.record.now.owner)) c.is_confirmed.ensures in
    let now : OwnersAnew at bt c.in-Some.record.now.owner (ids_without (at c.in-Some.record.now.owner) c.in-Some.record.now.confirmed) =
    subst (λ (i : Ids). OwnersAnew at bt c.in-Some.record.now.owner i) left (subst (λ (o : List ℕ). OwnersAnew at bt o c.without-left.result) c.owner-in-Some.ensures c.set.ensures) in
    rw c.remove.ensures (
      roster_without t c.args.client c.self.invariant.0,
      removed_index t c.self.invariant.0 c.args.client c.in-Some.record.now at bt (sym c.in-Some.ensures) c.self.invariant.1 now,
    )

pub returns-in_default : goal.returns-in_default
returns-in_default c = unremoved c.args.self.now c.args.client (sym (c.in_default.ensures ∙ ap (λ (t : Roster). client_at t c.args.client) c.self.view_is))
