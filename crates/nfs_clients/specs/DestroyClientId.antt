-- DESTROY_CLIENTID: an id that names no record, a client that has a session or an open, or the record goes (RFC 8881 section 18.50).
use Rattle.std.specs.Prelude.{ℕ, Bool, not, ◌||◌, [], ◌∷◌, Option}
use Rattle.nfs_xdr.specs.{Checks.first_fault, declared.status.Status.Status}
use Rattle.nfs_xdr.specs.declared.status.Status.TheVariants as status
use Rattle.nfs_clients.specs.{declared.destroy.DestroyFault.DestroyFault, declared.destroy.DestroyFault.TheVariants.{Stale, Busy}, Roster.Roster}
use Rattle.nfs_clients.specs.Marks.{has_client}

-- the status that a fault is answered with
abbrev pub destroy_status : DestroyFault → Status
destroy_status Stale = status.StaleClientId
destroy_status Busy = status.ClientIdBusy

-- whether the client has a session or an open is for the caller to say
abbrev pub destroy_fault : Roster → ℕ → (has_session has_open : Bool) → Option DestroyFault
destroy_fault t id has_session has_open = first_fault (
    (not (has_client t id), Stale)
    ∷ (has_session || has_open, Busy)
    ∷ [])
