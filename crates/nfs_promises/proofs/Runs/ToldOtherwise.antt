-- What stands through a run may be told otherwise: of what holds before an operation while it does, and while the store keeps something else.
use Rattle.std.proofs.Common.{◌≡◌, ℕ, cond, List, [], ◌∷◌, ◌++◌, refl, sym, subst, inl, inr}
use Rattle.nfs_xdr.specs.Tables.{In}
use Rattle.nfs_names.specs.{declared.start.Start.Start, State.State}
use Rattle.nfs_exec.specs.Runs.{Kept.{Kept, While, AreSpared, after_all}, Ops.RanOp}
use Rattle.nfs_exec.proofs.Runs.{OneRun.IsRun, OneWalk.{IsKept, in_back}}
use Rattle.nfs_serve.specs.Step.{ServerState, new_state}
use Rattle.nfs_promises.specs.{Network.Endpoint.Arrival, Locks.LockKept.{renews_by, StaysFor}, Runs.Points.{state_after, reached, taken, ops_of}}
use Rattle.nfs_promises.proofs.Runs.{LaterRecords.{op_done, op_keeps, next_keeps, all_keeps}, Points.{IsSound, sound_next, sound_all, sound_new}}

module _ (k : Kept) (Tells : k.Way → RanOp → Type 0) (P : State → Type 0) (held : IsKept P)
    (each : (w : k.Way) (d : RanOp) → IsRun d → P d.before.store → k.Before w d → Tells w d) where
  abbrev other : Kept
  other = record { Way = k.Way; Stands = k.Stands; Before = Tells; Spares = k.Spares; after = k.after }

  abbrev AllRan : List RanOp → Type 0
  AllRan ds = (d : RanOp) → In d ds → IsRun d × P d.before.store

  while_other : (w : k.Way) (ds : List RanOp) → AllRan ds → While k w ds → While other w ds
  while_other w [] ran all = tt
  while_other w (d ∷ more) ran all =
      let its = ran d (inl refl) in (
        each w d its.0 its.1 all.0,
        λ spares. (let next = all.1 spares in (next.0, while_other (k.after w d) more (λ e there. ran e (inr there)) next.1)),
      )

  ran_in : (s : ServerState) (c : Arrival) → IsSound s → P s.machine.store → AllRan (ops_of s c)
  ran_in s c sound is d there = ((op_done s c sound d there).run, op_keeps P held s c sound is d there)

  through_other : (client lease last : ℕ) (w : k.Way) (s : ServerState) (records : List Arrival) → IsSound s → P s.machine.store
      → StaysFor k client lease last w s records → StaysFor other client lease last w s records
  through_other client lease last w s [] sound is all = all
  through_other client lease last w s (c ∷ more) sound is all = (
    all.0,
    λ within. (let did = all.1 within in (
      while_other w (ops_of s c) (ran_in s c sound is) did.0,
      λ spared alone. through_other client lease (cond (renews_by client s c) (taken s c) last) (after_all k.after w (ops_of s c)) (state_after s c) more
          (sound_next s c sound) (next_keeps P held s c sound is) (did.1 spared alone),
    )),
  )

  -- from an operation of a record's compound on
  pub from_other : (start : Start) (earlier : List Arrival) (c : Arrival) (front : List RanOp) (d : RanOp) (back : List RanOp) (client lease : ℕ) (w : k.Way)
      → (let s = reached start earlier in
      ops_of s c ≡ front ++ d ∷ back → P (new_state start).machine.store
      → While k w back × (AreSpared k back → (more : List Arrival) → StaysFor k client lease (taken s c) (after_all k.after w back) (state_after s c) more)
      → While other w back × (AreSpared k back → (more : List Arrival) → StaysFor other client lease (taken s c) (after_all k.after w back) (state_after s c) more))
  from_other start earlier c front d back client lease w same new kept =
      let s = reached start earlier in
      let sound : IsSound s = sound_all (new_state start) earlier (sound_new start) in
      let is : P s.machine.store = all_keeps P held (new_state start) earlier (sound_new start) new in (
        while_other w back (λ e there. ran_in s c sound is e (subst (In e) (sym same) (in_back e front (d ∷ back) (inr there)))) kept.0,
        λ spared more. through_other client lease (taken s c) (after_all k.after w back) (state_after s c) more (sound_next s c sound)
            (next_keeps P held s c sound is) (kept.1 spared more),
      )
