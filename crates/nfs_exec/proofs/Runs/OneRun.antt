-- What an operation that was run came to, by whose operation it is.
use Rattle.std.proofs.{Common.{◌≡◌, ℕ, ◌+◌, Bool, true, ltb, List, None, refl, sym, ◌∙◌, ap, subst, inl, inr}, lemmas.Bool.cases_Bool}
use Rattle.std.specs.Option.{ForSome}
use Rattle.nfs_xdr.specs.{declared.status.Status.Status, declared.status.Status.TheVariants.RepTooBig}
use Rattle.nfs_compound.specs.{declared.op.Item.Item, Request.item_number}
use Rattle.nfs_results.specs.{Largest.largest, Results.{spell_result, status_of_result}}
use Rattle.nfs_names.specs.{declared.context.Context.Context, Outcome.is_ok, State.{State, time_at}}
use Rattle.nfs_names.specs.Operation as names
use Rattle.nfs_files.specs.Operation as table
use Rattle.nfs_files.proofs.Outcomes.{comes_to, for_each}
use Rattle.nfs_exec.specs.{Step.Machine.Machine, Step.Behind.{Step, step, refused_step, otherwise}, Step.Run.{in_room, reserve}}
use Rattle.nfs_exec.specs.Runs.Ops.{RanOp, done}
use Rattle.nfs_exec.proofs.{Step.Behind.by_step, Runs.KeptByRuns.{Is, otherwise_store}}
use Rattle.nfs_names.proofs.Faulted.{status_of_refusal}

-- an operation is refused for want of room, or is what it is
pub in_room_is : (P : Step → Type 0) (limit sofar now : ℕ) (refused : Bool) (m : Machine) (x : Context) (i : Item) → P (refused_step m x i RepTooBig)
    → P (step m x now refused i) → P (in_room limit sofar now refused m x i)
in_room_is P limit sofar now refused m x i big fits = elim (cases_Bool (ltb limit (sofar + largest i + reserve))) [ inl is ↦ rw is big | inr is ↦ rw is fits ]

pub too_big : (m : Machine) (x : Context) (i : Item) → is_ok (refused_step m x i RepTooBig).outcome.status ≡ true → ⊥
too_big m x i ok = let bad : is_ok RepTooBig ≡ true = sym (ap is_ok (status_of_refusal (item_number i) RepTooBig)) ∙ ok in absurd cc

-- it was run
pub record IsRun (d : RanOp) : Type 0 where
  pub limit : ℕ
  pub sofar : ℕ
  pub now : ℕ
  pub refused : Bool
  pub whole : Is d.before
  pub is : d ≡ done limit sofar refused d.before d.context d.item (in_room limit sofar now refused d.before d.context d.item)

-- What holds of its status, its result and the store behind it: of what is refused for want of room, and of the step that its item is.
pub by_item : (P : Status → List ℕ → State → Type 0) (d : RanOp) (r : IsRun d) (i : Item) → d.item ≡ i
    → (let o = (refused_step d.before d.context i RepTooBig).outcome in P o.status o.result d.before.store)
    → (let o = (step d.before d.context r.now r.refused i).outcome in P o.status o.result o.machine.store) → P d.status d.result d.behind.store
by_item P d r i same big fits =
    subst (λ (c : RanOp). P c.status c.result c.behind.store)
    (sym (r.is ∙ ap (λ j. done r.limit r.sofar r.refused d.before d.context j (in_room r.limit r.sofar r.now r.refused d.before d.context j)) same))
    (in_room_is (λ s. P s.outcome.status s.outcome.result s.outcome.machine.store) r.limit r.sofar r.now r.refused d.before d.context i big fits)

-- of one that answers NFS4_OK there is room
pub by_ok : (P : List ℕ → State → Type 0) (d : RanOp) (r : IsRun d) (i : Item) → d.item ≡ i → is_ok d.status ≡ true
    → (let o = (step d.before d.context r.now r.refused i).outcome in is_ok o.status ≡ true → P o.result o.machine.store) → P d.result d.behind.store
by_ok P d r i same ok fits =
    by_item (λ status text s. is_ok status ≡ true → P text s) d r i same (λ ok. absurd (too_big d.before d.context i ok)) fits ok

-- Or of an operation on names, of one on open files, and of what is on neither, which leaves the store.
pub by_run : (P : Status → List ℕ → State → Type 0) (d : RanOp) (r : IsRun d)
    → (let o = (refused_step d.before d.context d.item RepTooBig).outcome in P o.status o.result d.before.store)
    → ForSome (names.comes_to r.refused d.before.store d.context (time_at d.before.store r.now) d.item) (λ o. P (status_of_result o.result) (spell_result o.result) o.state)
    → (let o = comes_to r.refused d.before.store d.context (time_at d.before.store r.now) d.item in P (status_of_result o.result) (spell_result o.result) o.state)
    → (table.comes_to r.refused d.before.store d.context (time_at d.before.store r.now) d.item ≡ None
    → (let o = (otherwise d.before d.context d.item).outcome in P o.status o.result d.before.store))
    → P d.status d.result d.behind.store
by_run P d r big named filed other = by_item P d r d.item refl big
    (by_step (λ s. P s.outcome.status s.outcome.result s.outcome.machine.store) d.before d.context r.now r.refused d.item named
    (for_each (λ o. P (status_of_result o.result) (spell_result o.result) o.state) r.refused d.before.store d.context (time_at d.before.store r.now) d.item filed)
    (λ none off. (let o = (otherwise d.before d.context d.item).outcome in
    subst (P o.status o.result) (sym (otherwise_store d.before d.context d.item)) (other off))))
