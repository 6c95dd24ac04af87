use Rattle.std.proofs.Common.{◌≡◌, Bool, true, false, Option, ap, sym, ◌∙◌}
use Rattle.std.specs.Option.{option_map_or}
use Rattle.nfs_clients.specs.{Roster.{ClientRecord, Roster, client_at}, Marks.has_reclaimed}
use Rattle.nfs_clients.proofs.{Members.{mild_reclaims, roster_changed}, IndexLemmas.mild_index, Changes.unchanged}
use Rattle.nfs_clients.proofs.clients.Clients.reclaimed.Goals as goal

-- of the record that was found, if one was
abbrev is_reclaimed : Option ClientRecord → Bool
is_reclaimed found = option_map_or (λ c. c.reclaimed) found false

pub invariant_of-self : goal.invariant_of-self
invariant_of-self c =
    let t : Roster = record { records = c.self.inside.records; last = c.self.inside.last; most = c.self.inside.most } in
    rw c.reclaim.ensures (
      roster_changed (λ x. record x { reclaimed = true }) t c.args.client mild_reclaims c.self.invariant.0,
      mild_index (λ x. record x { reclaimed = true }) mild_reclaims c.args.client c.self.inside.records _ c.self.invariant.1,
    )

pub returns-in-None-clause-after : goal.returns-in-None-clause-after
returns-in-None-clause-after c =
    let none = c.in-None.ensures ∙ ap (λ (t : Roster). client_at t c.args.client) c.self.view_is in
    let not_there : false ≡ has_reclaimed c.args.self.now c.args.client = ap is_reclaimed none in
    rw (sym not_there) (unchanged (λ x. record x { reclaimed = true }) c.args.self.now c.args.client (sym none))
