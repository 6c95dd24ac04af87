-- A compound that runs in no session of a client leaves it what it has.
use Rattle.std.proofs.{Common.{◌≡◌, ℕ, false, not, Option, Some, None, sym, ap}, lemmas.Bool.{ne_eqb, eqb-false}}
use Rattle.std.specs.{Prelude.{◌==◌}, Option.option_map_or}
use Rattle.nfs_xdr.specs.Caller.{Caller}
use Rattle.nfs_compound.specs.Request.{Request}
use Rattle.nfs_sessions.specs.Id.{id_of}
use Rattle.nfs_lease.specs.Renewals.{has_run_out}
use Rattle.nfs_opens.specs.Table.{Table}
use Rattle.nfs_names.specs.Context.{begins}
use Rattle.nfs_exec.specs.Step.{Machine.Machine, Run.{is_here, behind_here}, Parts.without_any_opens}
use Rattle.nfs_exec.specs.{Step.Compound.{renewed, begun, compound}, Step.Laws.{MachineEvent, Expires, Asks, stepped}, Runs.LockHeld.{is_of, replaces, renews}}
use Rattle.nfs_files.specs.Own.{HasAsBefore}
use Rattle.nfs_exec.proofs.{Runs.ByEvent.by_answered, Step.AloneKeeps.{HoldsForOthers, holds_alone}, Runs.KeptByRuns.Is}
use Rattle.nfs_promises.proofs.Runs.OthersByOps.{run_apart}
use Rattle.nfs_files.proofs.OthersTables.{same, both, clients_gone}

pub alone_apart : (c : ℕ) (t : Table) → HoldsForOthers c (λ s. HasAsBefore c t s.opens)
alone_apart c t s None other is = is
alone_apart c t s (Some gone) other is =
    both c t s.opens (without_any_opens s (Some gone)).opens is
    (clients_gone c s.opens (λ n. not (n == gone)) (ap not (ne_eqb c gone (λ here. other (ap Some (sym here))))))

compound_apart : (c : ℕ) (m : Machine) (r : Request) (who : Caller) (size now : ℕ) (choice : Option ℕ) → Is m
    → renews c m (Asks r who size now choice) ≡ false → replaces c m (Asks r who size now choice) ≡ false
    → HasAsBefore c m.store.opens (compound m r who size now choice).machine.store.opens
compound_apart c m r who size now choice is other alone =
    by_answered (λ a ds run. option_map_or (is_of c) run false ≡ false → HasAsBefore c m.store.opens a.machine.store.opens) m r who size now choice
    (λ text other. same c m.store.opens) (λ item more one here other.
    holds_alone c (λ s. HasAsBefore c m.store.opens s.opens) (alone_apart c m.store.opens) m r.declared who now (is_here choice) item (same c m.store.opens)
    (rw (one, here) at alone)) (λ s more channel here runs other.
    (run_apart c channel.maxresponsesize (begun r s channel) now (behind_here choice) (renewed m now s) (begins (id_of s.sessionid).client who) more is
    (eqb-false (id_of s.sessionid).client c other)).own) other

-- An event leaves a client: its lease has not run out, and no other id takes its place.
abbrev pub SparesClient : ℕ → Machine → MachineEvent → Type 0
SparesClient client m (Expires now) = has_run_out m.store.lease m.leases now client ≡ false
SparesClient client m (Asks r who size now choice) = replaces client m (Asks r who size now choice) ≡ false

-- what runs in no session of the client, and neither ends it nor takes its place
pub event_apart : (c : ℕ) (m : Machine) (e : MachineEvent) → Is m → renews c m e ≡ false → SparesClient c m e → HasAsBefore c m.store.opens (stepped m e).store.opens
event_apart c m (Expires now) is other client = clients_gone c m.store.opens (λ n. not (has_run_out m.store.lease m.leases now n)) (ap not client)
event_apart c m (Asks r who size now choice) is other client = compound_apart c m r who size now choice is other client
