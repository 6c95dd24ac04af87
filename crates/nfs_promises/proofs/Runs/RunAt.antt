-- An operation is run at the moment of its record, and moments do not fall.
use Rattle.std.proofs.Common.{◌≡◌, ◌⊎◌, inl, inr, ℕ, ◌+◌, ◌≤◌, List, [], ◌∷◌, ◌++◌, length, Option, refl, sym, ap, subst, arith}
use Rattle.std.specs.Option.{option_map_or}
use Rattle.nfs_xdr.specs.{Tables.In, Caller.Caller}
use Rattle.nfs_compound.specs.{declared.op.Item.Item, Request.Request}
use Rattle.nfs_sessions.specs.Id.{id_of}
use Rattle.nfs_names.specs.{declared.context.Context.Context, Context.begins, Outcome.is_ok}
use Rattle.nfs_exec.specs.{Step.{Machine.Machine, Run.{in_room, is_here, behind_here}, Compound.{renewed, begun}, Laws.Asks}, Runs.Ops.{RanOp, ops, ops_by}}
use Rattle.nfs_exec.proofs.Runs.{OneRun.IsRun, ByEvent.by_compound, KeptByRuns.{Is, whole_room, in_more}, OneWalk.in_back}
use Rattle.nfs_serve.specs.Step.{ServerState}
use Rattle.nfs_promises.specs.{Network.Endpoint.Arrival, Runs.Points.{state_after, taken, before, ops_of}, Bytes.ChangeTells.RunsIn}
use Rattle.nfs_promises.proofs.Runs.Points.{for_asked, next_is, taken_later, IsSound, whole_before, sound_next}

pub record RunAt (now : ℕ) (d : RanOp) : Type 0 where
  pub run : IsRun d
  pub at : run.now ≡ now

ops_at : (limit sofar now : ℕ) (choice : Option ℕ) (m : Machine) (x : Context) (items : List Item) → Is m
    → (d : RanOp) → In d (ops limit sofar now choice m x items) → RunAt now d
ops_at limit sofar now choice m x [] is d there = absurd there
ops_at limit sofar now choice m x (i ∷ more) is d there =
    let s = in_room limit sofar now (is_here choice) m x i in
    let next = sofar + length s.outcome.result in
    elim there [
      | inl here ↦ subst (RunAt now) (sym here)
          (record { run = record { limit = limit; sofar = sofar; now = now; refused = is_here choice; whole = is; is = refl }; at = refl })
      | inr later ↦ ops_at limit next now (behind_here choice) s.outcome.machine s.context more (whole_room limit sofar now (is_here choice) m x i is) d
          (in_more (is_ok s.outcome.status) d (ops limit next now (behind_here choice) s.outcome.machine s.context more) later)
    ]

event_at : (m : Machine) (r : Request) (who : Caller) (size now : ℕ) (choice : Option ℕ) → Is m → (d : RanOp) → In d (ops_by m (Asks r who size now choice)) → RunAt now d
event_at m r who size now choice is d =
    by_compound (λ left ds run. In d ds → RunAt now d) m r who size now choice (λ there. absurd there) (λ item there. absurd there) (λ s more c same there.
    ops_at c.maxresponsesize (begun r s c) now (behind_here choice) (renewed m now s) (begins (id_of s.sessionid).client who) more is d there)

pub op_at : (s : ServerState) (c : Arrival) → IsSound s → (d : RanOp) → In d (ops_of s c) → RunAt (taken s c) d
op_at s c sound d =
    for_asked (λ o. In d (option_map_or (ops_by (before s c)) o []) → RunAt (taken s c) d) s c (λ there. absurd there) (λ r who there.
    event_at (before s c) r who (length c.bytes) (taken s c) c.choice (whole_before s c sound.whole) d there)

-- that of an operation of these records is no earlier than the state's
pub record RunsLater (moment : ℕ) (e : RanOp) : Type 0 where
  pub now : ℕ
  pub forward : moment ≤ now
  pub ran : RunAt now e

moment_after : (s : ServerState) (c : Arrival) → (state_after s c).moment ≡ taken s c
moment_after s c = ap (λ (s : ServerState). s.moment) (next_is s c)

runs_later : (s : ServerState) (records : List Arrival) → IsSound s → (e : RanOp) → RunsIn s records e → RunsLater s.moment e
runs_later s [] sound e there = absurd there
runs_later s (c ∷ more) sound e (inl here) = record { now = taken s c; forward = taken_later s c; ran = op_at s c sound e here }
runs_later s (c ∷ more) sound e (inr later) =
    let it = runs_later (state_after s c) more (sound_next s c sound) e later in
    let here = taken_later s c in
    let there = it.forward in
    let same = moment_after s c in
    record { now = it.now; forward = omega arith; ran = it.ran }

pub later_at : (s : ServerState) (c : Arrival) (front : List RanOp) (d : RanOp) (back : List RanOp) (more : List Arrival) → IsSound s → ops_of s c ≡ front ++ d ∷ back
    → (e : RanOp) → In e back ⊎ RunsIn (state_after s c) more e → RunsLater (taken s c) e
later_at s c front d back more sound same e (inl behind) = record {
  now = taken s c;
  forward = omega arith;
  ran = op_at s c sound e (subst (In e) (sym same) (in_back e front (d ∷ back) (inr behind)));
}
later_at s c front d back more sound same e (inr later) =
    subst (λ (k : ℕ). RunsLater k e) (moment_after s c) (runs_later (state_after s c) more (sound_next s c sound) e later)
