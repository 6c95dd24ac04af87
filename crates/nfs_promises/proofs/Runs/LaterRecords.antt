-- What each operation and each end of clients keeps of a store stays through records, and stands before each of their operations.
use Rattle.std.proofs.Common.{◌≡◌, ◌⊎◌, List, [], ◌∷◌, ◌++◌, length, Option, Some, None, refl, sym, subst, inl, inr}
use Rattle.std.specs.{Option.option_map_or, Prelude.not}
use Rattle.nfs_xdr.specs.Tables.{In}
use Rattle.nfs_lease.specs.Renewals.{has_run_out}
use Rattle.nfs_names.specs.declared.start.Start.{Start}
use Rattle.nfs_names.specs.State as of_store
use Rattle.nfs_exec.specs.{Step.Laws.{MachineEvent, Asks}, Step.Machine.Machine, Runs.Ops.{RanOp, ops_by}}
use Rattle.nfs_exec.proofs.{Runs.WhatWasDone.event_run, Runs.OneRun.IsRun, Runs.OneWalk.{IsKept, Throughout, throughout, throughout_behind, none_at, in_back}}
use Rattle.nfs_exec.proofs.Runs.KeptByRuns.{Is, event_ops}
use Rattle.nfs_serve.specs.Step.{ServerState, new_state}
use Rattle.nfs_promises.specs.{Bytes.ChangeTells.RunsIn, Network.Endpoint.Arrival, Runs.Points.{state_after, state_after_all, reached, taken, before, asked_by, ops_of}}
use Rattle.nfs_promises.proofs.Runs.Points.{left, for_asked, next_is, IsSound, whole_before, sound_next, sound_all, sound_new}

-- An operation of a record was run, between two machines that are whole.

pub record IsDone (d : RanOp) : Type 0 where
  pub run : IsRun d
  pub behind : Is d.behind

pub asked_done : (m : Machine) (o : Option MachineEvent) → Is m → (d : RanOp) → In d (option_map_or (ops_by m) o []) → IsDone d
asked_done m None is d there = absurd there
asked_done m (Some e) is d there = record { run = (event_run m e is d there).0; behind = (event_ops m e is d there).1 }

pub op_done : (s : ServerState) (c : Arrival) → IsSound s → (d : RanOp) → In d (ops_of s c) → IsDone d
op_done s c sound d there = asked_done (before s c) (asked_by s c) (whole_before s c sound.whole) d there

pub ran_in : (start : Start) (records : List Arrival) (c : Arrival) (d : RanOp) → In d (ops_of (reached start records) c) → IsRun d
ran_in start records c d there = (op_done (reached start records) c (sound_all (new_state start) records (sound_new start)) d there).run

pub run_done : (s : ServerState) (records : List Arrival) → IsSound s → (d : RanOp) → RunsIn s records d → IsDone d
run_done s [] sound d there = absurd there
run_done s (c ∷ more) sound d (inl here) = op_done s c sound d here
run_done s (c ∷ more) sound d (inr later) = run_done (state_after s c) more (sound_next s c sound) d later

pub reached_more : (s : ServerState) (records : List Arrival) (c : Arrival) → state_after_all s (records ++ c ∷ []) ≡ state_after (state_after_all s records) c
reached_more s [] c = refl
reached_more s (r ∷ more) c = reached_more (state_after s r) more c

pub whole_at : (start : Start) (records : List Arrival) (c : Arrival) → Is (before (reached start records) c)
whole_at start records c =
    let sound : IsSound (reached start records) = sound_all (new_state start) records (sound_new start) in
    whole_before (reached start records) c sound.whole

-- what a record before others ran, and what the last one did
pub runs_before : (s : ServerState) (records more : List Arrival) (d : RanOp) → RunsIn s records d → RunsIn s (records ++ more) d
runs_before s [] more d there = absurd there
runs_before s (c ∷ records) more d (inl here) = inl here
runs_before s (c ∷ records) more d (inr later) = inr (runs_before (state_after s c) records more d later)

pub runs_last : (s : ServerState) (records : List Arrival) (c : Arrival) (d : RanOp) → In d (ops_of (state_after_all s records) c) → RunsIn s (records ++ c ∷ []) d
runs_last s [] c d there = inl there
runs_last s (b ∷ records) c d there = inr (runs_last (state_after s b) records c d there)

module _ (P : of_store.State → Type 0) (held : IsKept P) where
  pub before_keeps : (s : ServerState) (c : Arrival) → P s.machine.store → P (before s c).store
  before_keeps s c is = held.end (λ client. not (has_run_out s.machine.store.lease s.machine.leases (taken s c) client)) s.machine.store is

  pub next_keeps : (s : ServerState) (c : Arrival) → IsSound s → P s.machine.store → P (state_after s c).machine.store
  next_keeps s c sound is =
      let here = before_keeps s c is in
      subst (λ (s : ServerState). P s.machine.store) (sym (next_is s c))
      (for_asked (λ o. P (left (before s c) o).store) s c here (λ r who.
      (throughout P held (before s c) (Asks r who (length c.bytes) (taken s c) c.choice) (whole_before s c sound.whole) here).behind))

  pub all_keeps : (s : ServerState) (records : List Arrival) → IsSound s → P s.machine.store → P (state_after_all s records).machine.store
  all_keeps s [] sound is = is
  all_keeps s (c ∷ more) sound is = all_keeps (state_after s c) more (sound_next s c sound) (next_keeps s c sound is)

  pub asked_keeps : (m : Machine) (o : Option MachineEvent) → Is m → P m.store → (d : RanOp) → In d (option_map_or (ops_by m) o []) → P d.before.store
  asked_keeps m None whole is d there = absurd there
  asked_keeps m (Some e) whole is d there = (throughout P held m e whole is).within d there

  -- before each operation of a record
  pub op_keeps : (s : ServerState) (c : Arrival) → IsSound s → P s.machine.store → (d : RanOp) → In d (ops_of s c) → P d.before.store
  op_keeps s c sound is d there = asked_keeps (before s c) (asked_by s c) (whole_before s c sound.whole) (before_keeps s c is) d there

  -- before each operation of later records
  pub runs_keep : (s : ServerState) (records : List Arrival) → IsSound s → P s.machine.store → (d : RanOp) → RunsIn s records d → P d.before.store
  runs_keep s [] sound is d there = absurd there
  runs_keep s (c ∷ more) sound is d (inl here) = op_keeps s c sound is d here
  runs_keep s (c ∷ more) sound is d (inr later) = runs_keep (state_after s c) more (sound_next s c sound) (next_keeps s c sound is) d later

  pub asked_back : (m : Machine) (o : Option MachineEvent) (front : List RanOp) (d : RanOp) (back : List RanOp) → Is m → option_map_or (ops_by m) o [] ≡ front ++ d ∷ back
      → P d.behind.store → Throughout P back (left m o)
  asked_back m None front d back is same here = absurd (none_at front d back same)
  asked_back m (Some e) front d back is same here = throughout_behind P held m e front d back is same here

  -- from an operation on: before each behind it, in its record and in later ones
  pub later_keeps : (s : ServerState) (c : Arrival) (front : List RanOp) (d : RanOp) (back : List RanOp) (more : List Arrival) → IsSound s → ops_of s c ≡ front ++ d ∷ back
      → P d.behind.store → (e : RanOp) → In e back ⊎ RunsIn (state_after s c) more e → P e.before.store
  later_keeps s c front d back more sound same here e place =
      let rest = asked_back (before s c) (asked_by s c) front d back (whole_before s c sound.whole) same here in
      elim place [
        | inl behind ↦ rest.within e behind
        | inr later ↦ runs_keep (state_after s c) more (sound_next s c sound) (subst (λ (s : ServerState). P s.machine.store) (sym (next_is s c)) rest.behind) e later
      ]

-- and what is known of those
pub first_there : (s : ServerState) (c : Arrival) (front : List RanOp) (d : RanOp) (back : List RanOp) → ops_of s c ≡ front ++ d ∷ back → In d (ops_of s c)
first_there s c front d back same = subst (In d) (sym same) (in_back d front (d ∷ back) (inl refl))

pub later_done : (s : ServerState) (c : Arrival) (front : List RanOp) (d : RanOp) (back : List RanOp) (more : List Arrival) → IsSound s → ops_of s c ≡ front ++ d ∷ back
    → (e : RanOp) → In e back ⊎ RunsIn (state_after s c) more e → IsDone e
later_done s c front d back more sound same e (inl behind) = op_done s c sound e (subst (In e) (sym same) (in_back e front (d ∷ back) (inr behind)))
later_done s c front d back more sound same e (inr later) = run_done (state_after s c) more (sound_next s c sound) e later
