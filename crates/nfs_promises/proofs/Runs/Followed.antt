-- What stays through a run while operations spare it, and what is followed through one, by one step of it.
use Rattle.std.proofs.Common.{◌≡◌, ℕ, Bool, List, [], ◌∷◌, ◌++◌, Option, Some, None, sym, subst}
use Rattle.std.specs.Option.{option_map_or}
use Rattle.nfs_names.specs.{declared.start.Start.Start, State.State, Ending.staying}
use Rattle.nfs_exec.specs.{Step.Machine.Machine, Step.Laws.{MachineEvent, Expires}, Runs.Kept.{Kept, While, AreSpared, after_all}, Runs.Ops.{RanOp, ops_by}}
use Rattle.nfs_exec.proofs.{Runs.KeptByRuns.Is, Runs.OneRun.IsRun, Runs.OneWalk.{Stays, event_walked, back_walked, kept_ended, none_at}}
use Rattle.nfs_serve.specs.Step.{ServerState, new_state}
use Rattle.nfs_promises.specs.{Network.Endpoint.Arrival, Runs.{Followed.{TellsWhile, TellsThrough, TellsFrom, StaysThrough, StaysFrom}, Points.state_after}}
use Rattle.nfs_promises.specs.Runs.Points.{reached, taken, before, asked_by, ops_of}
use Rattle.nfs_promises.proofs.Runs.{Points.{left, next_is, IsSound, whole_before, sound_next, sound_all, sound_new}, StayingInTime.through_asked}
use Rattle.nfs_promises.proofs.Names.NameStays.{runs_at}

-- whatever the event
abbrev pub Any : Machine → MachineEvent → Type 0
Any m e = Unit {0}

module _ (k : Kept) (stays : Stays k Any) where
  pub kept_through : (w : k.Way) (s : ServerState) (records : List Arrival) → IsSound s → k.Stands w s.machine.store → StaysThrough k w s records
  kept_through w s [] sound is = tt
  kept_through w s (c ∷ more) sound is =
      let here = (event_walked k Any stays s.machine (Expires (taken s c)) sound.whole w is).1 (λ d there. absurd there) tt in
      let did = through_asked k Any (λ m o. Unit {0}) (λ m r who size now choice leaves. tt) stays w s c sound here in (
        did.0,
        λ spared. kept_through (after_all k.after w (ops_of s c)) (state_after s c) more (sound_next s c sound)
            (subst (λ (u : ServerState). k.Stands (after_all k.after w (ops_of s c)) u.machine.store) (sym (next_is s c)) (did.1 spared tt)),
      )

  back_kept : (w : k.Way) (m : Machine) (o : Option MachineEvent) (front : List RanOp) (d : RanOp) (back : List RanOp) → Is m
      → option_map_or (ops_by m) o [] ≡ front ++ d ∷ back → k.Stands w d.behind.store
      → While k w back × (AreSpared k back → k.Stands (after_all k.after w back) (left m o).store)
  back_kept w m None front d back is same here = absurd (none_at front d back same)
  back_kept w m (Some e) front d back is same here = back_walked k Any stays m e front d back is same w here

  -- from an operation on that left it so
  pub kept_from : (start : Start) (earlier : List Arrival) (c : Arrival) (front : List RanOp) (d : RanOp) (back : List RanOp) (w : k.Way)
      → (let s = reached start earlier in
      ops_of s c ≡ front ++ d ∷ back → (IsRun d → k.Stands w d.behind.store) → StaysFrom k w s c back)
  kept_from start earlier c front d back w same here =
      let s = reached start earlier in
      let sound : IsSound s = sound_all (new_state start) earlier (sound_new start) in
      let did = back_kept w (before s c) (asked_by s c) front d back (whole_before s c sound.whole) same (here (runs_at s c front d back sound same).run) in (
        did.0,
        λ spared more. kept_through (after_all k.after w back) (state_after s c) more (sound_next s c sound)
            (subst (λ (u : ServerState). k.Stands (after_all k.after w back) u.machine.store) (sym (next_is s c)) (did.1 spared)),
      )

-- An operation that ran tells it, and leaves what it makes of it; the end of clients leaves it.
pub record Follows {W : Type 0} (Tells : W → RanOp → Type 0) (after : W → RanOp → W) (Stands : W → State → Type 0) : Type 0 where
  pub run : (w : W) (d : RanOp) → IsRun d → Stands w d.before.store → Tells w d × Stands (after w d) d.behind.store
  pub end : (w : W) (stays : ℕ → Bool) (s : State) → Stands w s → Stands w (staying stays s)

module _ {W : Type 0} (Tells : W → RanOp → Type 0) (after : W → RanOp → W) (Stands : W → State → Type 0) (follows : Follows Tells after Stands) where
  abbrev it : Kept
  it = record { Way = W; Stands = Stands; Before = Tells; Spares = λ d. Unit {0}; after = after }

  it_stays : Stays it Any
  it_stays = record {
    step = λ w d run is. (let did = follows.run w d run is in (did.0, λ spares. did.1));
    idle = λ w m e is idle leaves here. subst (Stands w) (sym idle.left) (kept_ended (Stands w) (follows.end w) m.store idle.ends here);
  }

  told : (w : W) (ds : List RanOp) → While it w ds → TellsWhile Tells after w ds
  told w [] all = tt
  told w (d ∷ more) all = (all.0, told (after w d) more (all.1 tt).1)

  told_through : (w : W) (s : ServerState) (records : List Arrival) → StaysThrough it w s records → TellsThrough Tells after w s records
  told_through w s [] all = tt
  told_through w s (c ∷ more) all = (told w (ops_of s c) all.0, told_through (after_all after w (ops_of s c)) (state_after s c) more (all.1 (λ d there. tt)))

  pub through : (w : W) (s : ServerState) (records : List Arrival) → IsSound s → Stands w s.machine.store → TellsThrough Tells after w s records
  through w s records sound is = told_through w s records (kept_through it it_stays w s records sound is)

  pub from : (start : Start) (earlier : List Arrival) (c : Arrival) (front : List RanOp) (d : RanOp) (back : List RanOp) (w : W)
      → (let s = reached start earlier in
      ops_of s c ≡ front ++ d ∷ back → (IsRun d → Stands w d.behind.store) → TellsFrom Tells after w s c back)
  from start earlier c front d back w same here =
      let all = kept_from it it_stays start earlier c front d back w same here in
      (told w back all.0, λ more. told_through (after_all after w back) (state_after (reached start earlier) c) more (all.1 (λ d there. tt) more))
