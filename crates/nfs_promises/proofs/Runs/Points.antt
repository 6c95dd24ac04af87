-- What holds at each point of a run.
use Rattle.std.proofs.{Common.{◌≡◌, ℕ, ◌≤◌, List, [], ◌∷◌, length, Option, Some, None, refl, sym, subst}, Math.Nat.le-max_left}
use Rattle.std.specs.{Prelude.option_map, Option.option_map_or}
use Rattle.nfs_xdr.specs.{Tables.In, Caller.Caller}
use Rattle.nfs_rpc.specs.declared.refusal.Refusal.TheVariants as Refusals
use Rattle.nfs_rpc.specs.{CallHead.{Call, Called, Accepted, Refused, call_of}, declared.call.Procedure.Procedure}
use Rattle.nfs_compound.specs.{Request.Request, ReadRequest.request_at}
use Rattle.nfs_names.specs.{declared.start.Start.Start}
use Rattle.nfs_lease.specs.Queue.{IsLatest}
use Rattle.nfs_exec.specs.{Step.Machine.Machine, Step.Laws.{MachineEvent, Expires, Asks, stepped}, Runs.Ops.{RanOp, ops_by}}
use Rattle.nfs_exec.proofs.{Step.LeaseMoments.latest_compound, Runs.KeptByRuns.{Is, none_of, event_ops, whole_event, start_whole}}
use Rattle.nfs_serve.specs.{Step.{ServerState, new_state, step, asked_of, with_arguments, by_procedure, reply_to}}
use Rattle.nfs_promises.specs.{Network.Endpoint.Arrival, Runs.Points.{state_after, state_after_all, taken, before, asks, asked_by, NoClash}}
use Rattle.nfs_serve.proofs.Stepping.{latest_expired}

-- What a record asks for is a compound at its moment, or nothing.

for_request : (P : Option MachineEvent → Type 0) (size now : ℕ) (choice : Option ℕ) (call : Call) → P None
    → ((r : Request) (who : Caller) → P (Some (Asks r who size now choice))) → (o : Option Request) → P (option_map (λ r. Asks r call.who size now choice) o)
for_request P size now choice call none some None = none
for_request P size now choice call none some (Some r) = some r call.who

for_called : (P : Option MachineEvent → Type 0) (size now : ℕ) (choice : Option ℕ) → P None
    → ((r : Request) (who : Caller) → P (Some (Asks r who size now choice))) → (called : Called) → P (asks size now choice called)
for_called P size now choice none some (Refused refusal) = none
for_called P size now choice none some (Accepted call) = for_request P size now choice call none some (asked_of call call.procedure)

pub for_asked : (P : Option MachineEvent → Type 0) (s : ServerState) (c : Arrival) → P None
    → ((r : Request) (who : Caller) → P (Some (Asks r who (length c.bytes) (taken s c) c.choice))) → P (asked_by s c)
for_asked P s c none some = for_called P (length c.bytes) (taken s c) c.choice none some (call_of c.bytes)

-- The state behind a record.

abbrev pub left : Machine → Option MachineEvent → Machine
left m None = m
left m (Some e) = stepped m e

abbrev with_left : ServerState → Option MachineEvent → ServerState
with_left s o = record { machine = left s.machine o; moment = s.moment }

by_request : (s : ServerState) (call : Call) (size : ℕ) (choice : Option ℕ) (o : Option Request)
    → (with_arguments s call size choice o).state ≡ with_left s (option_map (λ r. Asks r call.who size s.moment choice) o)
by_request s call size choice None = refl
by_request s call size choice (Some r) = refl

by_call : (s : ServerState) (call : Call) (size : ℕ) (choice : Option ℕ) (p : Procedure)
    → (by_procedure s call size choice p).state ≡ with_left s (option_map (λ r. Asks r call.who size s.moment choice) (asked_of call p))
by_call s call size choice Procedure.Null = refl
by_call s call size choice Procedure.Compound = by_request s call size choice (request_at call.args)

by_called : (s : ServerState) (size : ℕ) (choice : Option ℕ) (called : Called) → (reply_to s size choice called).state ≡ with_left s (asks size s.moment choice called)
by_called s size choice (Refused Refusals.Silent) = refl
by_called s size choice (Refused refusal) = refl
by_called s size choice (Accepted call) = by_call s call size choice call.procedure

pub next_is : (s : ServerState) (c : Arrival) → state_after s c ≡ record { machine = left (before s c) (asked_by s c); moment = taken s c }
unfolding step
next_is s c = by_called (record { machine = before s c; moment = taken s c }) (length c.bytes) c.choice (call_of c.bytes)

-- What every state keeps.

pub record IsSound (s : ServerState) : Type 0 where
  pub whole : Is s.machine
  pub latest : IsLatest s.machine.leases s.moment

pub taken_later : (s : ServerState) (c : Arrival) → s.moment ≤ taken s c
taken_later s c = le-max_left s.moment c.now

pub whole_before : (s : ServerState) (c : Arrival) → Is s.machine → Is (before s c)
whole_before s c is = whole_event s.machine (Expires (taken s c)) is

pub whole_left : (m : Machine) (o : Option MachineEvent) → Is m → Is (left m o)
whole_left m None is = is
whole_left m (Some e) is = whole_event m e is

pub latest_before : (s : ServerState) (c : Arrival) → IsLatest s.machine.leases s.moment → IsLatest (before s c).leases (taken s c)
latest_before s c is = latest_expired s.machine (before s c) s.moment (taken s c) refl (taken_later s c) is

sound_left : (s : ServerState) (c : Arrival) → IsSound s → IsSound (record { machine = left (before s c) (asked_by s c); moment = taken s c })
sound_left s c is = record {
  whole = whole_left (before s c) (asked_by s c) (whole_before s c is.whole);
  latest = for_asked (λ o. IsLatest (left (before s c) o).leases (taken s c)) s c (latest_before s c is.latest)
      (λ r who. latest_compound (before s c) r who (length c.bytes) (taken s c) c.choice (latest_before s c is.latest));
}

pub sound_next : (s : ServerState) (c : Arrival) → IsSound s → IsSound (state_after s c)
sound_next s c is = subst IsSound (sym (next_is s c)) (sound_left s c is)

pub sound_all : (s : ServerState) (records : List Arrival) → IsSound s → IsSound (state_after_all s records)
sound_all s [] is = is
sound_all s (c ∷ more) is = sound_all (state_after s c) more (sound_next s c is)

pub sound_new : (start : Start) → IsSound (new_state start)
sound_new start = record {
  whole = start_whole start;
  latest = record { each = λ client moment e. absurd (let bad : None ≡ Some moment = e in cc) };
}

-- No clash.

is_before : (m : Machine) (o : Option MachineEvent) → Is m → (d : RanOp) → In d (option_map_or (ops_by m) o []) → Is d.before
is_before m None is d there = absurd there
is_before m (Some e) is d there = (event_ops m e is d there).0

pub no_clash : NoClash
no_clash start records c =
    let s = state_after_all (new_state start) records in
    let is : IsSound s = sound_all (new_state start) records (sound_new start) in
    record {
      here = none_of s.machine is.whole;
      within = λ d there. none_of d.before (is_before (before s c) (asked_by s c) (whole_before s c is.whole) d there);
    }
