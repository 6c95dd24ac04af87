use Rattle.std.proofs.Common.{◌≡◌, ℕ, true, false, List, Some, None, ap, refl, sym, subst, ◌∙◌}
use Rattle.std.proofs.lemmas.Bool.{ne_eqb, eq-eqb}
use Rattle.std.specs.Prelude.{option_map}
use Rattle.nfs_clients.specs.{Roster.{IsRoster, confirmed_of}}
use Rattle.nfs_clients.proofs.{Members.the_id, IndexLemmas.{leaving_is, unless_own}}
use Rattle.nfs_clients.proofs.clients.Clients.leaving.Goals as goal

unless_other : (n other : ℕ) → (other ≡ n → ⊥) → Some other ≡ unless_own n (Some other)
unless_other n other e = rw (ne_eqb other n e) refl

unless_same : (n other : ℕ) → other ≡ n → None ≡ unless_own n (Some other)
unless_same n other e = rw (eq-eqb other n e) refl

pub returns-in-Some : goal.returns-in-Some
returns-in-Some c =
    let is = subst IsRoster c.self.view_is c.self.invariant.0 in
    unless_other c.args.client c.in-Some.other c.if-other-client.true
    ∙ ap (unless_own c.args.client) (sym c.in-Some.is ∙ c.ids.ensures.confirmed ∙ ap (λ (o : List ℕ). option_map the_id (confirmed_of c.args.self.now o)) c.owner.ensures)
    ∙ sym (leaving_is c.args.self.now is c.args.client c.in_ok-record.record.now (sym c.in_ok-record.ensures) _ refl)

pub returns-in_default : goal.returns-in_default
returns-in_default c =
    let is = subst IsRoster c.self.view_is c.self.invariant.0 in
    unless_same c.args.client c.in-Some.other c.if-other-client.false
    ∙ ap (unless_own c.args.client) (sym c.in-Some.is ∙ c.ids.ensures.confirmed ∙ ap (λ (o : List ℕ). option_map the_id (confirmed_of c.args.self.now o)) c.owner.ensures)
    ∙ sym (leaving_is c.args.self.now is c.args.client c.in_ok-record.record.now (sym c.in_ok-record.ensures) _ refl)

pub returns-in_default-2 : goal.returns-in_default-2
returns-in_default-2 c =
    let is = subst IsRoster c.self.view_is c.self.invariant.0 in
    ap (unless_own c.args.client) (sym c.in_default.is ∙ c.ids.ensures.confirmed ∙ ap (λ (o : List ℕ). option_map the_id (confirmed_of c.args.self.now o)) c.owner.ensures)
    ∙ sym (leaving_is c.args.self.now is c.args.client c.in_ok-record.record.now (sym c.in_ok-record.ensures) _ refl)
