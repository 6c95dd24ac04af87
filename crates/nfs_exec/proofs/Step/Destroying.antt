-- DESTROY_SESSION of a session that does not stand changes nothing; and DESTROY_CLIENTID is as the table of clients judges it.
use Rattle.std.proofs.Common.{◌≡◌, ℕ, Bool, true, false, List, [], ◌∷◌, Option, None, Ok, Err, refl, sym, ◌∙◌, ap}
use Rattle.std.specs.Prelude.{not, is_some, ◌||◌}
use Rattle.nfs_xdr.specs.{Checks.{first_fault, judged}, declared.status.Status.Status}
use Rattle.nfs_xdr.specs.declared.status.Status.TheVariants.{BadSession, StaleClientId, ClientIdBusy}
use Rattle.nfs_xdr.proofs.Lists.{filter_all, none_in}
use Rattle.nfs_sessions.specs.{Id.id_of, declared.id.SessionId.SessionId, Sessions.{SessionTable, is_session, session_at, destroyed as ended}}
use Rattle.nfs_results.specs.{declared.res.Res.Res, Results.refusal}
use Rattle.nfs_clients.specs.{declared.destroy.DestroyFault.DestroyFault, declared.destroy.DestroyFault.TheVariants.{Stale, Busy}, Roster.Roster}
use Rattle.nfs_clients.specs.{DestroyClientId.{destroy_fault, destroy_status}, Calls.{destroyed, without_unless}}
use Rattle.nfs_lease.specs.Renewals.{Book, without_lease}
use Rattle.nfs_names.specs.Ending.{has_open}
use Rattle.nfs_exec.specs.Step.Machine.{Machine, with_result}
use Rattle.nfs_exec.specs.Step.Destroy.{destroy_session, destroy_client}
use Rattle.nfs_exec.proofs.Step.Terms.{by_fault, is_client}
use Rattle.nfs_exec.proofs.Step.Terms.{has_session, client_ended}
use Rattle.nfs_tree.proofs.PairLemmas.{is_none}

none_destroyed : (t : SessionTable) (id : SessionId) → session_at t id ≡ None → ended t id ≡ t
none_destroyed t id none = ap (λ xs. record t { sessions = xs })
    (filter_all (λ s. not (is_session id s)) t.sessions (λ s there. ap not (none_in (is_session id) t.sessions s none there)))

pub no_session : (m : Machine) (sessionid : List ℕ) (id : SessionId) (after : SessionTable) (r : Res) →
    id ≡ id_of sessionid → false ≡ is_some (session_at m.sessions id) → after ≡ ended m.sessions id →
    r ≡ refusal 44 BadSession → with_result (record m { sessions = after }) r ≡ destroy_session m sessionid
no_session m sessionid id after r read stood gone told =
    let none : session_at m.sessions (id_of sessionid) ≡ None = is_none _ (sym (stood ∙ ap (λ id. is_some (session_at m.sessions id)) read)) in
    let same : after ≡ m.sessions = gone ∙ ap (ended m.sessions) read ∙ none_destroyed m.sessions (id_of sessionid) none in
    rw (same, told, none) refl

-- The code asks the table of clients, whose faults are statuses here.

module _ (m : Machine) (client : ℕ) where
  abbrev faults : (there session held : Bool) → Option DestroyFault
  faults there session held = first_fault ((not there, Stale) ∷ (session || held, Busy) ∷ [])

  abbrev refusals : (there session held : Bool) → Option Status
  refusals there session held = first_fault ((not there, StaleClientId) ∷ (session || held, ClientIdBusy) ∷ [])

  abbrev left : (session held : Bool) → Roster
  left session held = destroyed m.clients client session held

  goes : (there session held : Bool) → Ok tt ≡ judged (faults there session held)
      → with_result (record m { clients = without_unless (faults there session held) m.clients client; leases = without_lease m.leases client }) Res.DestroyClientId
      ≡ by_fault m 57 (refusals there session held) (client_ended m client)
  goes false session held e = absurd cc
  goes true true held e = absurd cc
  goes true false true e = absurd cc
  goes true false false e = refl

  stays : (fault : DestroyFault) (there session held : Bool) → Err fault ≡ judged (faults there session held)
      → with_result (record m { clients = without_unless (faults there session held) m.clients client }) (refusal 57 (destroy_status fault))
      ≡ by_fault m 57 (refusals there session held) (client_ended m client)
  stays fault false session held e = let same : fault ≡ Stale = cc in rw same refl
  stays fault true true held e = let same : fault ≡ Busy = cc in rw same refl
  stays fault true false true e = let same : fault ≡ Busy = cc in rw same refl
  stays fault true false false e = absurd cc

  pub client_goes : (session held : Bool) (clients : Roster) (leases : Book) → session ≡ has_session m.sessions client → held ≡ has_open m.store client
      → Ok tt ≡ judged (destroy_fault m.clients client session held) → clients ≡ left session held → leases ≡ without_lease m.leases client
      → with_result (record m { clients = clients; leases = leases }) Res.DestroyClientId ≡ destroy_client m client
  client_goes session held clients leases sessions opens none is lease =
      ap (λ (t : Roster). with_result (record m { clients = t; leases = leases }) Res.DestroyClientId)
      (is ∙ ap (λ b. left b held) sessions ∙ ap (left (has_session m.sessions client)) opens)
      ∙ ap (λ (b : Book). with_result (record m { clients = left (has_session m.sessions client) (has_open m.store client); leases = b }) Res.DestroyClientId) lease
      ∙ goes (is_client m.clients client) (has_session m.sessions client) (has_open m.store client)
      (none ∙ ap (λ b. judged (destroy_fault m.clients client b held)) sessions
      ∙ ap (λ b. judged (destroy_fault m.clients client (has_session m.sessions client) b)) opens)

  pub client_stays : (session held : Bool) (clients : Roster) (fault : DestroyFault) → session ≡ has_session m.sessions client → held ≡ has_open m.store client
      → Err fault ≡ judged (destroy_fault m.clients client session held) → clients ≡ left session held
      → with_result (record m { clients = clients }) (refusal 57 (destroy_status fault)) ≡ destroy_client m client
  client_stays session held clients fault sessions opens busy is =
      ap (λ (t : Roster). with_result (record m { clients = t }) (refusal 57 (destroy_status fault)))
      (is ∙ ap (λ b. left b held) sessions ∙ ap (left (has_session m.sessions client)) opens)
      ∙ stays fault (is_client m.clients client) (has_session m.sessions client) (has_open m.store client)
      (busy ∙ ap (λ b. judged (destroy_fault m.clients client b held)) sessions
      ∙ ap (λ b. judged (destroy_fault m.clients client (has_session m.sessions client) b)) opens)
