-- Behind each record of a run nothing is left to run out.
use Rattle.std.proofs.Common.{◌≡◌, ℕ, max, false, List, length, Option, refl, sym, ◌∙◌, ap, subst, arith}
use Rattle.nfs_names.specs.{declared.start.Start.Start}
use Rattle.nfs_lease.specs.Renewals.{has_run_out}
use Rattle.nfs_exec.specs.{Step.Machine.Machine, Step.Expiry.expired}
use Rattle.nfs_exec.proofs.{Step.Expiring.expired_none, Step.LeaseMoments.{expired_all, finds_nothing}, Runs.KeptByRuns.{Is, start_whole}}
use Rattle.nfs_serve.specs.{Step.{ServerState, new_state, step}}
use Rattle.nfs_promises.specs.{Network.{Endpoint.Arrival, ThisServer.ticked}, Runs.Points.{state_after, taken, before, asked_by}}
use Rattle.nfs_promises.proofs.Runs.Points.{left, for_asked, next_is, whole_before, whole_left}

-- no lease has run out at the moment that was taken last
pub record IsSettled (s : ServerState) : Type 0 where
  pub whole : Is s.machine
  pub none : (client : ℕ) → has_run_out s.machine.store.lease s.machine.leases s.moment client ≡ false

none_left : (s : ServerState) (c : Arrival) (client : ℕ) → (let m = left (before s c) (asked_by s c) in has_run_out m.store.lease m.leases (taken s c) client ≡ false)
none_left s c client =
    for_asked (λ o. (let m = left (before s c) o in has_run_out m.store.lease m.leases (taken s c) client ≡ false)) s c
    (expired_all s.machine.store.lease s.machine.leases (taken s c) client)
    (λ r who. finds_nothing s.machine r who (length c.bytes) (taken s c) c.choice client)

settled_next : (s : ServerState) (c : Arrival) → IsSettled s → IsSettled (state_after s c)
settled_next s c is = subst IsSettled (sym (next_is s c)) (record {
  whole = whole_left (before s c) (asked_by s c) (whole_before s c is.whole);
  none = none_left s c;
})

pub settled_step : (s : ServerState) (bytes : List ℕ) (now : ℕ) (choice : Option ℕ) → IsSettled s → IsSettled (step s bytes now choice).state
settled_step s bytes now choice is = settled_next s (record { bytes = bytes; now = now; choice = choice }) is

pub settled_new : (start : Start) → IsSettled (new_state start)
settled_new start = record { whole = start_whole start; none = λ client. refl }

pub ticks_nothing : (s : ServerState) → IsSettled s → ticked s s.moment ≡ s
ticks_nothing s is =
    let same : max s.moment s.moment ≡ s.moment = omega arith in
    ap (λ (n : ℕ). let y : ServerState = record { machine = expired n s.machine; moment = n } in y) same
    ∙ ap (λ (m : Machine). let y : ServerState = record { machine = m; moment = s.moment } in y) (expired_none s.machine s.moment is.whole.store is.whole.table is.none)
