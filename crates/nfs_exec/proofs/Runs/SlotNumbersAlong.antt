-- The numbers of a slot along whatever comes to a server.
use Rattle.std.proofs.Common.{◌≡◌, ℕ, ◌+◌, false, cond, arith, List, [], ◌∷◌, Option, Some, None, refl, sym, subst}
use Rattle.std.specs.{Prelude.not, Option.option_map_or}
use Rattle.nfs_compound.specs.declared.session_args.Sequence.{Sequence}
use Rattle.nfs_names.specs.{declared.start.Start.Start}
use Rattle.nfs_sessions.specs.{declared.id.SessionId.SessionId, Id.id_of, Sessions.SessionTable}
use Rattle.nfs_lease.specs.Renewals.{has_run_out}
use Rattle.nfs_exec.specs.{Step.Machine.{Machine, starts}, Step.Sequence.compared, Step.Compound.compound}
use Rattle.nfs_exec.specs.Step.Laws.{MachineEvent, Expires, Asks, stepped, all_stepped, ran, is_on, runs_on, NeverRunsAgain}
use Rattle.nfs_exec.proofs.Runs.SlotNumbers.{IsHeld, KeepsReply, IsCounted, IsLast, held_counted, held_last, counted_kept, last_first, last_kept, runs_again}
use Rattle.nfs_exec.proofs.Runs.SessionsBehind.{quiet_compound, told_compound}

-- What an event did: behind no request sessions are made and end; behind one that ran its number was fresh, and is kept.

quiet : (P : SessionTable → Type 0) → IsHeld P → (m : Machine) (e : MachineEvent) → ran m e ≡ None → P m.sessions → P (stepped m e).sessions
quiet P held m (Expires now) none is = held.fewer m.sessions (λ s. not (has_run_out m.store.lease m.leases now s.client)) is
quiet P held m (Asks r who size now choice) none is = quiet_compound P held m r who size now choice none is

kept : (m : Machine) (e : MachineEvent) (t : Sequence) → ran m e ≡ Some t → KeepsReply m.sessions (stepped m e).sessions t
kept m (Expires now) t runs = absurd cc
kept m (Asks r who size now choice) t runs =
    let told = told_compound m r who size now choice t runs in
    record {
      session = told.session;
      there = told.there;
      uid = who.uid;
      args = compared r;
      reply = (compound m r who size now choice).text;
      fresh = told.fresh;
      kept = told.kept;
    }

-- One event, and all.

pub counted_step : (m : Machine) (e : MachineEvent) → IsCounted m.sessions → IsCounted (stepped m e).sessions
counted_step m e is = go (ran m e) refl
  where
    go : (o : Option Sequence) → ran m e ≡ o → IsCounted (stepped m e).sessions
    go None none = quiet IsCounted held_counted m e none is
    go (Some s) runs = counted_kept m.sessions (stepped m e).sessions s (kept m e s runs) is

pub counted_all : (m : Machine) (events : List MachineEvent) → IsCounted m.sessions → IsCounted (all_stepped m events).sessions
counted_all m [] is = is
counted_all m (e ∷ more) is = counted_all (stepped m e) more (counted_step m e is)

last_step : (id : SessionId) (slot n : ℕ) (m : Machine) (e : MachineEvent) → IsLast id slot n m.sessions
    → IsLast id slot (n + cond (option_map_or (is_on id slot) (ran m e) false) 1 0) (stepped m e).sessions
last_step id slot n m e is = go (ran m e) refl
  where
    go : (o : Option Sequence) → ran m e ≡ o → IsLast id slot (n + cond (option_map_or (is_on id slot) o false) 1 0) (stepped m e).sessions
    go None none = subst (λ k. IsLast id slot k (stepped m e).sessions) (omega arith) (quiet (IsLast id slot n) (held_last id slot n) m e none is)
    go (Some s) runs = last_kept id slot n m.sessions (stepped m e).sessions s (kept m e s runs) is

last_all : (id : SessionId) (slot n : ℕ) (m : Machine) (events : List MachineEvent) → IsLast id slot n m.sessions
    → IsLast id slot (n + runs_on id slot m events) (all_stepped m events).sessions
last_all id slot n m [] is = subst (λ k. IsLast id slot k m.sessions) (omega arith) is
last_all id slot n m (e ∷ more) is =
    let one = cond (option_map_or (is_on id slot) (ran m e) false) 1 0 in
    let rest = last_all id slot (n + one) (stepped m e) more (last_step id slot n m e is) in
    subst (λ k. IsLast id slot k (all_stepped (stepped m e) more).sessions) (omega arith) rest

pub never_runs_again : NeverRunsAgain
never_runs_again m first between again s t reached runs runs_too same =
    let reaches = from_start reached.start reached.events in
    let counted : IsCounted m.sessions = subst (λ (m : Machine). IsCounted m.sessions) (sym reached.machine) reaches in
    let behind = stepped m first in
    let last = all_stepped behind between in
    let id = id_of s.sessionid in
    let count = runs_on id s.slotid behind between in
    let q = s.sequenceid + count in
    let here : IsLast id s.slotid q last.sessions =
    last_all id s.slotid s.sequenceid behind between (last_first m.sessions behind.sessions s (kept m first s runs) counted) in
    let slots : IsLast id t.slotid q last.sessions = subst (λ k. IsLast id k q last.sessions) same.slot here in
    let there : IsLast (id_of t.sessionid) t.slotid q last.sessions = subst (λ i. IsLast i t.slotid q last.sessions) same.session slots in
    runs_again last.sessions (stepped last again).sessions t s.sequenceid count (kept last again t runs_too) there (sym same.number)
  where
    from_start : (start : Start) (events : List MachineEvent) → IsCounted (all_stepped (starts start) events).sessions
    from_start start events = counted_all (starts start) events (λ s there. absurd there)
