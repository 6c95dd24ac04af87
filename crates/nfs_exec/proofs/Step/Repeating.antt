-- Repeats, refused SEQUENCEs, and expiry twice.
use Rattle.std.proofs.{Common.{◌≡◌, ℕ, ◌-◌, ◌≤◌, Bool, true, Option, Some, None, refl, ◌∙◌, ap, arith, inl, inr}, Math.Path.fun_ext}
use Rattle.std.proofs.lemmas.Bool.{cases_Bool, eq-eqb, ltb-true, lt-ltb}
use Rattle.std.specs.Prelude.{not, ◌&&◌}
use Rattle.nfs_clients.specs.Roster.{ClientRecord}
use Rattle.nfs_sessions.specs.Sessions.{Session}
use Rattle.nfs_lease.specs.Renewals.{Book, is_out, has_run_out}
use Rattle.nfs_exec.specs.{Step.Compound.in_session, Step.Expiry.{expired}, Step.Laws.{RepeatsChangeNothing, RefusalsChangeNothing, ExpiresOnce}}
use Rattle.nfs_names.specs.Ending.{staying}
use Rattle.nfs_names.proofs.Staying.{staying_twice, swapped}
use Rattle.nfs_xdr.proofs.Lists.{filter_both}
use Rattle.nfs_exec.proofs.Step.Terms.{leases_kept}

pub repeats : RepeatsChangeNothing
repeats = λ m r who size now choice s reply begins.
    rw (eq-eqb r.minor 1 begins.minor, begins.list) (ap (in_session m r who now choice s begins.more) begins.verdict)

pub refusals : RefusalsChangeNothing
refusals = λ m r who size now choice s status begins.
    rw (eq-eqb r.minor 1 begins.minor, begins.list) (ap (in_session m r who now choice s begins.more) begins.verdict)

out_later : (lease first later : ℕ) (o : Option ℕ) → first ≤ later → is_out lease first o ≡ true → is_out lease later o ≡ true
out_later lease first later None le out = absurd cc
out_later lease first later (Some moment) le out = (let h = ltb-true lease (first - moment) out in lt-ltb lease (later - moment) (omega (arith, h, le)))

-- who is out at the later moment, by what is left of the leases at the first
once : (lease : ℕ) (b : Book) (first later c : ℕ) → first ≤ later
    → (not (has_run_out lease b first c) && not (has_run_out lease (leases_kept lease b first) later c)) ≡ not (has_run_out lease b later c)
once lease b first later c le = elim (cases_Bool (has_run_out lease b first c)) [
  | inl out ↦ rw (out, out_later lease first later (b c) le out) refl
  | inr stays ↦ rw stays refl
]

once_kept : (lease : ℕ) (b : Book) (first later c : ℕ) → first ≤ later → leases_kept lease (leases_kept lease b first) later c ≡ leases_kept lease b later c
once_kept lease b first later c le = elim (cases_Bool (has_run_out lease b first c)) [
  | inl out ↦ rw (out, out_later lease first later (b c) le out) refl
  | inr stays ↦ rw stays refl
]

pub expires : ExpiresOnce
expires = λ m first later le.
    (let lease = m.store.lease in
    let b = m.leases in
    let clients = filter_both (λ (c : ClientRecord). not (has_run_out lease (leases_kept lease b first) later c.id))
    (λ c. not (has_run_out lease b first c.id)) (λ c. not (has_run_out lease b later c.id)) (λ c. once lease b first later c.id le) m.clients.records in
    let sessions = filter_both (λ (s : Session). not (has_run_out lease (leases_kept lease b first) later s.client))
    (λ s. not (has_run_out lease b first s.client)) (λ s. not (has_run_out lease b later s.client)) (λ s. once lease b first later s.client le) m.sessions.sessions in
    let leases = fun_ext (λ c. once_kept lease b first later c le) in
    let store : staying (λ c. not (has_run_out lease (leases_kept lease b first) later c)) (staying (λ c. not (has_run_out lease b first c)) m.store)
    ≡ staying (λ c. not (has_run_out lease b later c)) m.store =
    staying_twice (λ c. not (has_run_out lease (leases_kept lease b first) later c)) (λ c. not (has_run_out lease b first c)) m.store
    ∙ ap (λ (p : ℕ → Bool). staying p m.store)
    (fun_ext (λ c. swapped (not (has_run_out lease (leases_kept lease b first) later c)) (not (has_run_out lease b first c))
    ∙ once lease b first later c le)) in
    rw (clients, sessions, store) (ap (λ (f : Book). record (expired later m) { leases = f }) leases))
