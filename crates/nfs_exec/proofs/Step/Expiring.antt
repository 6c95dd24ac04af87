-- A client whose lease has run out goes, and what the moment leaves is the same.
use Rattle.std.proofs.{Common.{◌≡◌, ℕ, ◌+◌, ◌<◌, arith, Bool, true, false, cond, eqb, Option, Some, None, refl, ◌∙◌, ap, inl, inr}, Math.Path.fun_ext}
use Rattle.std.proofs.lemmas.Bool.{cases_eq, ne_eqb, eq-eqb}
use Rattle.std.specs.Prelude.{not, ◌&&◌, is_some}
use Rattle.nfs_xdr.proofs.Lists.{filter_all, filter_both}
use Rattle.nfs_clients.specs.Roster.{ClientRecord}
use Rattle.nfs_sessions.specs.Sessions.{Session}
use Rattle.nfs_lease.specs.Renewals.{Book, is_out, has_run_out, without_lease}
use Rattle.nfs_names.specs.{StoreInvariants.IsStore, Ending.staying}
use Rattle.nfs_opens.specs.TableInvariants.{IsTable}
use Rattle.nfs_names.proofs.Staying.{staying_twice, staying_everybody, swapped}
use Rattle.nfs_exec.specs.{Step.Machine.Machine, Step.Expiry.expired, Step.View.without_client}

-- who stays behind the client stays at the moment, and nobody else
stays : (lease : ℕ) (b : Book) (now client c : ℕ) → has_run_out lease b now client ≡ true
    → (not (eqb c client) && not (has_run_out lease (without_lease b client) now c)) ≡ not (has_run_out lease b now c)
stays lease b now client c out = elim (cases_eq c client) [
  | inl here ↦ rw (eq-eqb c client here, here, out) refl
  | inr other ↦ rw (ne_eqb c client other) refl
]

leases_same : (lease : ℕ) (b : Book) (now client c : ℕ) → has_run_out lease b now client ≡ true →
    cond (has_run_out lease (without_lease b client) now c) None (without_lease b client c) ≡ cond (has_run_out lease b now c) None (b c)
leases_same lease b now client c out = elim (cases_eq c client) [
  | inl here ↦ rw (eq-eqb c client here, here, out) refl
  | inr other ↦ rw (ne_eqb c client other) refl
]

pub expired_without : (m : Machine) (now client : ℕ) → has_run_out m.store.lease m.leases now client ≡ true
    → expired now (without_client m client) ≡ expired now m
expired_without m now client out =
    let lease = m.store.lease in
    let b = m.leases in
    let clients = filter_both (λ (c : ClientRecord). not (has_run_out lease (without_lease b client) now c.id))
    (λ c. not (eqb c.id client)) (λ c. not (has_run_out lease b now c.id)) (λ c. stays lease b now client c.id out) m.clients.records in
    let sessions = filter_both (λ (s : Session). not (has_run_out lease (without_lease b client) now s.client))
    (λ s. not (eqb s.client client)) (λ s. not (has_run_out lease b now s.client)) (λ s. stays lease b now client s.client out) m.sessions.sessions in
    let leases = fun_ext (λ c. leases_same lease b now client c out) in
    let store : staying (λ c. not (has_run_out lease (without_lease b client) now c)) (staying (λ c. not (eqb c client)) m.store)
    ≡ staying (λ c. not (has_run_out lease b now c)) m.store =
    staying_twice (λ c. not (has_run_out lease (without_lease b client) now c)) (λ c. not (eqb c client)) m.store
    ∙ ap (λ (p : ℕ → Bool). staying p m.store)
    (fun_ext (λ c. swapped (not (has_run_out lease (without_lease b client) now c)) (not (eqb c client)) ∙ stays lease b now client c out)) in
    rw (clients, sessions, store) (ap (λ (f : Book). record (expired now m) { leases = f }) leases)

pub expired_none : (m : Machine) (now : ℕ) → IsStore m.store → IsTable m.store.opens
    → ((client : ℕ) → has_run_out m.store.lease m.leases now client ≡ false) → expired now m ≡ m
expired_none m now is table none =
    let clients = filter_all (λ (c : ClientRecord). not (has_run_out m.store.lease m.leases now c.id)) m.clients.records (λ c there. ap not (none c.id)) in
    let sessions = filter_all (λ (s : Session). not (has_run_out m.store.lease m.leases now s.client)) m.sessions.sessions
    (λ s there. ap not (none s.client)) in
    let leases = fun_ext (λ c. ap (λ out. cond out None (m.leases c)) (none c)) in
    let store : staying (λ c. not (has_run_out m.store.lease m.leases now c)) m.store ≡ m.store =
    ap (λ (p : ℕ → Bool). staying p m.store) (fun_ext (λ c. ap not (none c))) ∙ staying_everybody m.store is table in
    rw (clients, sessions, store) (ap (λ (f : Book). record m { leases = f }) leases)

-- one lease fewer stands
pub fewer : (lease : ℕ) (b : Book) (now client old new : ℕ) → has_run_out lease b now client ≡ true → new + cond (is_some (b client)) 1 0 ≡ old → new < old
fewer lease b now client old new out count = go (b client) out count
  where
    go : (o : Option ℕ) → is_out lease now o ≡ true → new + cond (is_some o) 1 0 ≡ old → new < old
    go None out count = absurd cc
    go (Some moment) out count = omega (arith, count)

-- where the walk over what has run out stands: what the moment leaves is the same behind each client that goes
pub record Expires (now : ℕ) (first here : Machine) : Type 0 where
  pub same : expired now here ≡ expired now first
  pub store : IsStore here.store
