use Rattle.std.proofs.Common.{◌≡◌, ◌∙◌, ap, sym, subst, ℕ, List, Some, None}
use Rattle.nfs_clients.specs.{declared.owners.Ids.Ids, Roster.{Roster, IsRoster, client_at, with_changed}, CreateSession.leaving, Filed.{ids_at, OwnersAnew}}
use Rattle.nfs_clients.proofs.{Members.roster_confirmed, IndexLemmas.{named_ids, confirmed_index, confirmed_already}, Changes.{unchanged, none_other}, Terms.{confirms, without_any}}
use Rattle.nfs_clients.proofs.clients.Clients.confirm.Goals as goal
use Rattle.nfs_clients.proofs.clients.Clients.confirm.Goals.{in-Some, in_default}

pub set-requires : goal.set-requires
set-requires c =
    let t : Roster = record { records = c.self-2.inside.records; last = c.self-2.inside.last; most = c.self-2.inside.most } in
    let at : List ℕ → Ids = ids_at (λ k. k.items) c.self-2.inside.owners.ids.entries in
    λ none. named_ids t c.self-2.invariant.0 c.args.client c.in-Some-get.record.now at (sym c.in-Some-get.ensures) c.self-2.invariant.1
    (ap at (sym c.owner.ensures) ∙ none)

pub invariant_of-self : goal.invariant_of-self
invariant_of-self c =
    let u : Roster = c.args.self.now in
    let was : IsRoster u = subst IsRoster c.self.view_is c.self.invariant.0 in
    let left : c.match-leaving.self ≡ without_any u (leaving u c.args.client) = elim c.match-leaving.branch [
      | in-Some w ↦ w.self-is ∙ w.remove.ensures ∙ ap (without_any u) w.in-Some.ensures
      | in_default w ↦ w.self-is ∙ ap (without_any u) w.in_default.ensures
    ] in
    let t : Roster = record { records = c.self-2.inside.records; last = c.self-2.inside.last; most = c.self-2.inside.most } in
    let from : t ≡ without_any u (leaving u c.args.client) = c.self-2.view_is ∙ left in
    let at : List ℕ → Ids = ids_at (λ k. k.items) c.self-2.inside.owners.ids.entries in
    let bt : List ℕ → Ids = ids_at (λ k. k.items) c.set.new.self.ids.entries in
    let mark = sym c.is_confirmed.ensures ∙ c.if-not-is_confirmed.true in
    let now : OwnersAnew at bt c.in-Some-get.record.now.owner (record { confirmed = Some c.args.client; unconfirmed = None }) =
    subst (λ (o : List ℕ). OwnersAnew at bt o (record { confirmed = Some c.args.client; unconfirmed = None })) c.owner.ensures c.set.ensures in
    rw c.confirm.ensures (
      subst IsRoster (ap (λ (v : Roster). with_changed v c.args.client confirms) (sym from)) (roster_confirmed u c.args.client was),
      confirmed_index t c.self-2.invariant.0 c.args.client c.in-Some-get.record.now at bt (sym c.in-Some-get.ensures) mark
          (none_other u t c.args.client c.in-Some-get.record.now was from (sym c.in-Some-get.ensures) mark) c.self-2.invariant.1 now,
    )

pub returns-else-not-is_confirmed : goal.returns-else-not-is_confirmed
returns-else-not-is_confirmed c =
    let u : Roster = c.args.self.now in
    let left : c.match-leaving.self ≡ without_any u (leaving u c.args.client) = elim c.match-leaving.branch [
      | in-Some w ↦ w.self-is ∙ w.remove.ensures ∙ ap (without_any u) w.in-Some.ensures
      | in_default w ↦ w.self-is ∙ ap (without_any u) w.in_default.ensures
    ] in
    let mark = sym c.is_confirmed.ensures ∙ c.if-not-is_confirmed.false in
    confirmed_already c.match-leaving.self (subst IsRoster c.self-2.view_is c.self-2.invariant.0) c.args.client c.in-Some-get.record.now
    (sym (c.in-Some-get.ensures ∙ ap (λ (t : Roster). client_at t c.args.client) c.self-2.view_is)) mark
    ∙ ap (λ (v : Roster). with_changed v c.args.client confirms) left

pub returns-in_default-get : goal.returns-in_default-get
returns-in_default-get c =
    let u : Roster = c.args.self.now in
    let left : c.match-leaving.self ≡ without_any u (leaving u c.args.client) = elim c.match-leaving.branch [
      | in-Some w ↦ w.self-is ∙ w.remove.ensures ∙ ap (without_any u) w.in-Some.ensures
      | in_default w ↦ w.self-is ∙ ap (without_any u) w.in_default.ensures
    ] in
    unchanged confirms c.match-leaving.self c.args.client (sym (c.in_default-get.ensures ∙ ap (λ (t : Roster). client_at t c.args.client) c.self-2.view_is))
    ∙ ap (λ (v : Roster). with_changed v c.args.client confirms) left
