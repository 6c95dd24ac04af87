-- The mark of a client record that its reclaim is complete (RFC 8881 section 18.51).
use Rattle.std.specs.{Prelude.{ℕ, Bool, true, false, is_some}, Option.option_map_or}
use Rattle.nfs_clients.specs.Roster.{Roster, client_at, with_changed}

abbrev pub has_client : Roster → ℕ → Bool
has_client t id = is_some (client_at t id)

-- the client has declared its reclaim complete
abbrev pub has_reclaimed : Roster → ℕ → Bool
has_reclaimed t id = option_map_or (λ c. c.reclaimed) (client_at t id) false

abbrev pub with_reclaimed : Roster → ℕ → Roster
with_reclaimed t id = with_changed t id (λ c. record c { reclaimed = true })
